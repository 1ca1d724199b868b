use Rattle.std.proofs.Common.{◌≡◌, drop}
use Rattle.vch_machine.specs.State as machine
use Rattle.vch_plain.proofs.values.living_at.Given as goal

abbrev pub invariant-loop-living : goal.invariant-loop-living
invariant-loop-living l = machine.living_at (drop l.living-index l.live) l.place ≡ machine.living_at l.live l.place
