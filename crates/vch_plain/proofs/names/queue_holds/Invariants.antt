use Rattle.std.proofs.Common.{◌≡◌, drop}
use Rattle.std.specs.List.{list_any}
use Rattle.vch_machine.specs.State as machine
use Rattle.vch_plain.proofs.names.queue_holds.Given as goal

abbrev pub invariant-loop-message : goal.invariant-loop-message
invariant-loop-message l = list_any (λ (q : machine.Message). machine.option_has q.voucher l.place) (drop l.message-index l.queue) ≡ list_any (λ (q : machine.Message). machine.option_has q.voucher l.place) l.queue
