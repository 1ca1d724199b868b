use Rattle.std.proofs.Common.{◌≡◌, [], ℕ, length}
use Rattle.vch_script.specs.Places.{spots_of}
use Rattle.vch_script.proofs.places.no_places.Given as goal

abbrev pub invariant-loop-i : goal.invariant-loop-i
invariant-loop-i l = (length l.made ≡ l._i) × ((t : ℕ) → spots_of l.made t ≡ [])
