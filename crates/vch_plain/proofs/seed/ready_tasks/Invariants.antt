use Rattle.vch_plain.proofs.Drawing.{ReadyBelow}
use Rattle.vch_plain.proofs.seed.ready_tasks.Given as goal

abbrev pub invariant-loop-task : goal.invariant-loop-task
invariant-loop-task l = ReadyBelow l.scenario l.run.machine l.task l.tasks.items
