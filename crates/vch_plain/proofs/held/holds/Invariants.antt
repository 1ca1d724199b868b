use Rattle.std.proofs.Common.{◌≡◌, drop}
use Rattle.std.specs.List.{list_any}
use Rattle.vch_machine.specs.State as machine
use Rattle.vch_plain.proofs.held.holds.Given as goal

abbrev pub invariant-loop-task : goal.invariant-loop-task
invariant-loop-task l = list_any (machine.task_holds l.place) (drop l.task-index l.tasks) ≡ list_any (machine.task_holds l.place) l.tasks
