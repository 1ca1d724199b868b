use Rattle.std.proofs.Common.{◌≡◌, drop}
use Rattle.std.specs.List.{list_any}
use Rattle.vch_machine.specs.Naming as naming
use Rattle.vch_plain.proofs.reply.different.is_among.Given as goal

abbrev pub invariant-loop-other : goal.invariant-loop-other
invariant-loop-other l = list_any (naming.same_handles l.voucher) (drop l.other-index l.others) ≡ list_any (naming.same_handles l.voucher) l.others
