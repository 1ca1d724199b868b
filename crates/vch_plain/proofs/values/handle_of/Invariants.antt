use Rattle.std.proofs.Common.{◌≡◌, drop}
use Rattle.vch_machine.specs.State as machine
use Rattle.vch_plain.proofs.values.handle_of.Given as goal

abbrev pub invariant-loop-living : goal.invariant-loop-living
invariant-loop-living l = machine.handle_of (drop l.living-index l.live) l.key l.value ≡ machine.handle_of l.live l.key l.value
