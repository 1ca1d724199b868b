use Rattle.std.proofs.Common.{◌≡◌, ◌+◌, arith, length, sym, ap, ◌∙◌, subst}
use Rattle.std.specs.Prelude.{is_some}
use Rattle.vch_plain.proofs.Drawing.{ReadyBelow, ready_some, ready_not}
use Rattle.vch_plain.proofs.Leading.{ties_of}
use Rattle.vch_plain.proofs.seed.ready_tasks.Goals as goal
use Rattle.vch_plain.proofs.seed.ready_tasks.Goals.{then-is_some, else-is_some}

pub next_kind-requires-clause-task : goal.next_kind-requires-clause-task
next_kind-requires-clause-task c =
    let a = c.loop-task.auto.task in
    let b = c.loop-task-test.true in
    let n = c.len.ensures in
    let d : length c.args.run.now.machine.tasks ≡ length c.args.scenario.now.flags = (ties_of c.args.scenario.now c.args.run.now c.requires.going).fits.tasks in
    (omega (arith, a), omega (arith, b, n, d))

pub loop-task-preserved : goal.loop-task-preserved
loop-task-preserved c = elim c.if-is_some.branch [
  | then-is_some w ↦ subst (ReadyBelow c.args.scenario.now c.args.run.now.machine (c.loop-task.task + 1)) (sym (ap (λ v. v.items) w.tasks-is ∙ w.push.ensures.items))
      (ready_some c.args.scenario.now c.args.run.now.machine c.loop-task.task c.loop-task.tasks.items c.loop-task.auto.task
      (ap is_some (sym c.next_kind.ensures) ∙ sym c.is_some.ensures ∙ w.if-is_some.true) c.loop-task.invariant)
  | else-is_some w ↦ subst (ReadyBelow c.args.scenario.now c.args.run.now.machine (c.loop-task.task + 1)) (sym (ap (λ v. v.items) w.tasks-is))
      (ready_not c.args.scenario.now c.args.run.now.machine c.loop-task.task c.loop-task.tasks.items c.loop-task.auto.task
      (ap is_some (sym c.next_kind.ensures) ∙ sym c.is_some.ensures ∙ w.if-is_some.false) c.loop-task.invariant)
]
