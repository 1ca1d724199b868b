use Rattle.std.proofs.Common.{◌≡◌, ◌≤◌, ◌<◌, ◌+◌, arith, length, sym, ap, ◌∙◌, subst}
use Rattle.vch_runs.proofs.Lowest.{few_tasks}
use Rattle.vch_runs.proofs.Drawing.{ReadyBelow, ready_some, ready_not, are_ready}
use Rattle.vch_runs.proofs.seed.ready_tasks.Goals as goal
use Rattle.vch_runs.proofs.seed.ready_tasks.Goals.{then-is_ready, else-is_ready}

pub overflow_cast-task-end : goal.overflow_cast-task-end
overflow_cast-task-end c =
    let a : length c.scenario.result.now.flags ≤ 64 = subst (λ sc. length sc.flags ≤ 64) (sym c.scenario.ensures) (few_tasks c.args.core.now c.know.ensures) in
    let b = c.len.ensures in omega (arith, a, b)

pub overflow_add-task-end : goal.overflow_add-task-end
overflow_add-task-end c =
    let a : length c.scenario.result.now.flags ≤ 64 = subst (λ sc. length sc.flags ≤ 64) (sym c.scenario.ensures) (few_tasks c.args.core.now c.know.ensures) in
    let b = c.len.ensures in omega (arith, a, b)

pub push-requires : goal.push-requires
push-requires c =
    let a : length c.scenario.result.now.flags ≤ 64 = subst (λ sc. length sc.flags ≤ 64) (sym c.scenario.ensures) (few_tasks c.args.core.now c.know.ensures) in
    let b = c.len.ensures in
    let d = c.loop-task-test.true in
    let f = c.loop-task.invariant.few in
    let few : length c.loop-task.tasks.items < 64 = omega (arith, a, b, d, f) in
    (omega arith, few)

pub loop-task-preserved : goal.loop-task-preserved
loop-task-preserved c = elim c.if-is_ready.branch [
  | then-is_ready w ↦ subst (ReadyBelow c.args.core.now (c.loop-task.task + 1)) (sym (ap (λ v. v.items) w.tasks-is ∙ w.push.ensures.items))
      (ready_some c.args.core.now c.loop-task.task c.loop-task.tasks.items c.is_ready.result c.loop-task.auto.task c.is_ready.ensures w.if-is_ready.true c.loop-task.invariant)
  | else-is_ready w ↦ subst (ReadyBelow c.args.core.now (c.loop-task.task + 1)) (sym (ap (λ v. v.items) w.tasks-is))
      (ready_not c.args.core.now c.loop-task.task c.loop-task.tasks.items c.is_ready.result c.loop-task.auto.task c.is_ready.ensures w.if-is_ready.false c.loop-task.invariant)
]

pub returns : goal.returns
returns c =
    let a : c.len.result ≡ length c.args.core.now.scenario.flags = c.len.ensures ∙ ap (λ sc. length sc.flags) c.scenario.ensures in
    let d = c.loop-task-test.false in
    let e = c.loop-task.auto.task-end in
    let k : 1 ≤ c.len.result + 1 = omega arith in
    let f = e k in
    are_ready c.args.core.now c.loop-task.task c.loop-task.tasks.items (omega (arith, a, d, f)) c.loop-task.invariant
