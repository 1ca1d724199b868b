use Rattle.std.proofs.Common.{◌≡◌, ◌+◌, ◌∙◌, refl, arith, take}
use Rattle.vch_scenario.proofs.wholes.Texts.{pushed, tasks_text, task_text, task_next}
use Rattle.vch_scenario.proofs.writer.push_tasks.Goals as goal

pub loop-i-preserved : goal.loop-i-preserved
loop-i-preserved c =
    let fs = c.args.flags.now in
    let qs = c.args.queues.now in
    let i = c.loop-i.i in
    let f = c.at.result.now in
    let limit = c.limit_at.result in
    let n : 1 + i ≡ i + 1 = omega arith in
    pushed c.args.out.now.items (tasks_text 1 (take i fs) qs) (task_text (i + 1) f limit) (tasks_text 1 (take (i + 1) fs) qs) c.loop-i.out.items c.push_task.new.out.items c.loop-i.invariant c.in_ok-push_task.ensures
    (task_next fs qs 1 i f c.at.ensures ∙ rw (n, c.limit_at.ensures) refl)
