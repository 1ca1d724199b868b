use Rattle.vch_runs.proofs.Drawing.{ReadyBelow}
use Rattle.vch_runs.proofs.seed.ready_tasks.Given as goal

abbrev pub invariant-loop-task : goal.invariant-loop-task
invariant-loop-task l = ReadyBelow l.core l.task l.tasks.items
