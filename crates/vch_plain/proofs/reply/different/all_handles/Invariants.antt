use Rattle.std.proofs.Common.{◌≡◌, ◌++◌, drop}
use Rattle.vch_plain.specs.Counted as counted
use Rattle.vch_plain.proofs.reply.different.all_handles.Given as goal

abbrev pub invariant-loop-task : goal.invariant-loop-task
invariant-loop-task l = l.made.items ++ counted.all_handles (drop l.task-index l.tasks) ≡ counted.all_handles l.tasks
