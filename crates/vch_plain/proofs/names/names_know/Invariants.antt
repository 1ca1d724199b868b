use Rattle.std.proofs.Common.{◌≡◌, drop}
use Rattle.std.specs.List.{list_any}
use Rattle.vch_machine.specs.Naming as naming
use Rattle.vch_machine.specs.State as machine
use Rattle.vch_plain.proofs.names.names_know.Given as goal

abbrev pub invariant-loop-named : goal.invariant-loop-named
invariant-loop-named l = list_any (λ (n : machine.Named). naming.same_handles n.voucher l.voucher) (drop l.named-index l.names) ≡ list_any (λ (n : machine.Named). naming.same_handles n.voucher l.voucher) l.names
