-- The live value at a handle.
use Rattle.std.specs.Prelude.{◌≡◌, ℕ, Option, Some, None}
use Rattle.vch_base.specs.declared.places.Live.{Live}
use Rattle.vch_machine.specs.State.{Living}

-- the manager's live value at a handle is the machine's, with the number of its Made entry
abbrev pub IsLiving : ℕ → Option Live → Option Living → Type 0
IsLiving n None None = Unit {0}
IsLiving n (Some l) (Some a) = (l.value ≡ a.value) × (n ≡ a.made)
IsLiving n l a = ⊥
