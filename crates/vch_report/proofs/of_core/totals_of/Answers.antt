use Rattle.std.proofs.Common.{◌≡◌, ◌+◌, arith, length, sym, ap, ◌∙◌, subst}
use Rattle.vch_model.specs.declared.lists.Scenario.{Scenario}
use Rattle.vch_report.proofs.from_core.EachTotal.{Totalled, totalled_more}
use Rattle.vch_report.proofs.of_core.totals_of.Goals as goal

pub loop-task-preserved : goal.loop-task-preserved
loop-task-preserved c =
    let a : c.len.result ≡ length c.args.core.now.scenario.flags = c.len.ensures ∙ ap (λ (sc : Scenario). length sc.flags) c.scenario.ensures in
    let b = c.loop-task-test.true in
    let d = c.loop-task.auto.task in
    subst (Totalled c.args.core.now (c.loop-task.task + 1)) (sym c.in_ok-push.ensures.ok)
    (totalled_more c.args.core.now c.loop-task.task c.loop-task.made c.total.result (omega (arith, d)) (omega (arith, a, b)) c.total.ensures c.loop-task.invariant)
