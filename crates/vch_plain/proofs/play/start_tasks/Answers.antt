use Rattle.std.proofs.Common.{ap, ◌∙◌, ◌∷◌, [], ◌++◌, ◌<◌, length, arith}
use Rattle.vch_machine.specs.State.{Tasked}
use Rattle.vch_plain.proofs.Starting.{idle_more}
use Rattle.vch_plain.proofs.play.start_tasks.Goals as goal

pub loop-task-preserved : goal.loop-task-preserved
loop-task-preserved c =
    let inside : c.loop-task._task < length c.args.flags.now = let a = c.loop-task-test.true in let b = c.len-task-end.ensures in omega (arith, a, b) in
    idle_more c.args.flags.now c.loop-task._task c.loop-task.tasks.items c.push.new.self.items inside c.loop-task.invariant
    (c.in_ok-push.ensures.items ∙ ap (λ (x : Tasked). c.loop-task.tasks.items ++ x ∷ []) c.idle.ensures)
