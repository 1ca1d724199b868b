use Rattle.std.proofs.Common.{◌≡◌, drop}
use Rattle.vch_machine.specs.Naming as naming
use Rattle.vch_plain.proofs.names.name_of.Given as goal

abbrev pub invariant-loop-named : goal.invariant-loop-named
invariant-loop-named l = naming.name_of (drop l.named-index l.names) l.voucher ≡ naming.name_of l.names l.voucher
