use Rattle.std.proofs.Common.{◌≡◌, drop}
use Rattle.std.specs.List.{list_any}
use Rattle.vch_machine.specs.State as machine
use Rattle.vch_plain.proofs.held.is_among.Given as goal

abbrev pub invariant-loop-other : goal.invariant-loop-other
invariant-loop-other l = list_any (λ q. machine.same_place q l.place) (drop l.other-index l.places) ≡ list_any (λ q. machine.same_place q l.place) l.places
