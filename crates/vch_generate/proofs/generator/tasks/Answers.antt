use Rattle.vch_generate.specs.Generated.{both}
use Rattle.vch_generate.proofs.Repeated.{one_longer, all_of}
use Rattle.vch_generate.proofs.generator.tasks.Goals as goal

pub loop-task-preserved : goal.loop-task-preserved
loop-task-preserved c = (
  one_longer c.loop-task.flags c.push.new.self c.loop-task._task both c.loop-task.invariant.0 (c.in_ok-push.ensures.ok),
  one_longer c.loop-task.queues c.push-in-loop-task.new.self c.loop-task._task 5 c.loop-task.invariant.1 (c.in_ok-push-2.ensures.ok),
)

pub returns : goal.returns
returns c = (
  all_of c.loop-task.flags c.loop-task._task 8 both c.loop-task.invariant.0 c.loop-task.auto._task-end c.loop-task-test.false,
  all_of c.loop-task.queues c.loop-task._task 8 5 c.loop-task.invariant.1 c.loop-task.auto._task-end c.loop-task-test.false,
)
