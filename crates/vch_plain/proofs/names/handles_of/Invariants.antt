use Rattle.std.proofs.Common.{◌≡◌, drop}
use Rattle.vch_machine.specs.Naming as naming
use Rattle.vch_plain.proofs.names.handles_of.Given as goal

abbrev pub invariant-loop-named : goal.invariant-loop-named
invariant-loop-named l = naming.handles_of (drop l.named-index l.names) l.name ≡ naming.handles_of l.names l.name
