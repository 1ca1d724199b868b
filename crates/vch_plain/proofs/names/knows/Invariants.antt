use Rattle.std.proofs.Common.{◌≡◌, drop}
use Rattle.std.specs.List.{list_any}
use Rattle.vch_machine.specs.Naming as naming
use Rattle.vch_plain.proofs.names.knows.Given as goal

abbrev pub invariant-loop-task : goal.invariant-loop-task
invariant-loop-task l = list_any (naming.task_knows l.voucher) (drop l.task-index l.tasks) ≡ list_any (naming.task_knows l.voucher) l.tasks
