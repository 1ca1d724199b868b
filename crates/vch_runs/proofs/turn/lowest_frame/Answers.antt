use Rattle.std.proofs.Common.{arith, length, ◌≤◌, sym, ap, ◌∙◌, ◌≡◌, subst}
use Rattle.vch_runs.proofs.Framed.{true_some}
use Rattle.vch_runs.proofs.Lowest.{few_tasks, lowest_found, lowest_none, none_before}
use Rattle.vch_runs.proofs.turn.lowest_frame.Goals as goal

pub overflow_cast-task-end : goal.overflow_cast-task-end
overflow_cast-task-end c =
    let a : length c.scenario.result.now.flags ≤ 64 = subst (λ sc. length sc.flags ≤ 64) (sym c.scenario.ensures) (few_tasks c.args.core.now c.know.ensures) in
    let b = c.len.ensures in omega (arith, a, b)

pub overflow_add-task-end : goal.overflow_add-task-end
overflow_add-task-end c =
    let a : length c.scenario.result.now.flags ≤ 64 = subst (λ sc. length sc.flags ≤ 64) (sym c.scenario.ensures) (few_tasks c.args.core.now c.know.ensures) in
    let b = c.len.ensures in omega (arith, a, b)

pub returns-then-has_frame-clause-lowest : goal.returns-then-has_frame-clause-lowest
returns-then-has_frame-clause-lowest c =
    let a : c.len.result ≡ length c.args.core.now.scenario.flags = c.len.ensures ∙ ap (λ sc. length sc.flags) c.scenario.ensures in
    let b = c.loop-task-test.true in
    let d = c.loop-task.auto.task in
    let k = c.requires.from.positive in
    lowest_found c.args.core.now c.loop-task.task (omega (arith, d, k)) (omega (arith, a, b)) c.loop-task.invariant (true_some _ _ c.has_frame.ensures c.if-has_frame.true)

pub returns-clause-lowest : goal.returns-clause-lowest
returns-clause-lowest c =
    let a : c.len.result ≡ length c.args.core.now.scenario.flags = c.len.ensures ∙ ap (λ sc. length sc.flags) c.scenario.ensures in
    let d = c.loop-task-test.false in
    lowest_none c.args.core.now c.loop-task.task (omega (arith, a, d)) c.loop-task.invariant

pub returns-clause-before : goal.returns-clause-before
returns-clause-before c =
    let a : c.len.result ≡ length c.args.core.now.scenario.flags = c.len.ensures ∙ ap (λ sc. length sc.flags) c.scenario.ensures in
    let d = c.loop-task-test.false in
    none_before c.args.core.now c.loop-task.task (omega (arith, a, d)) c.loop-task.invariant
