use Rattle.std.proofs.Common.{◌≡◌, ◌<◌, ◌≤◌, ◌+◌, refl, true, false, arith, ap, sym, subst, ◌∙◌, length}
use Rattle.vch_model.specs.Text.{totals_of}
use Rattle.vch_model.specs.declared.lists.Scenario.{Scenario}
use Rattle.vch_books.specs.Audits.{past_at}
use Rattle.vch_certify.proofs.TaskTotals.{AgreeBelow, is_wrong, is_extra, agree_more, all_agree}
use Rattle.vch_certify.proofs.totals.first_other.Goals as goal

pub returns-then-not-is_right : goal.returns-then-not-is_right
returns-then-not-is_right c =
    let a = c.loop-i-test.true in
    let f = c.loop-i.auto.i-end in
    let e = c.len-tasks.ensures ∙ ap (λ (s : Scenario). length s.flags) c.scenario.ensures in
    is_wrong c.args.books.now.scenario (past_at c.args.books.now) c.args.totals.now c.loop-i.i (omega (arith, a, f, e)) c.loop-i.invariant
    (λ q. let k : false ≡ true = c.if-not-is_right.ensures.1 q in cc)

pub loop-i-preserved : goal.loop-i-preserved
loop-i-preserved c =
    let a = c.loop-i-test.true in
    let f = c.loop-i.auto.i-end in
    let e = c.len-tasks.ensures ∙ ap (λ (s : Scenario). length s.flags) c.scenario.ensures in
    agree_more c.args.books.now.scenario (past_at c.args.books.now) c.args.totals.now c.loop-i.i (omega (arith, a, f, e)) c.loop-i.invariant
    (c.if-not-is_right.ensures.0 refl)

pub returns-then-len-tasks : goal.returns-then-len-tasks
returns-then-len-tasks c =
    let a = c.loop-i-test.false in
    let f = c.loop-i.auto.i-end in
    let e = c.len-tasks.ensures ∙ ap (λ (s : Scenario). length s.flags) c.scenario.ensures in
    let l = c.len.ensures in
    let m = c.if-len-tasks.true in
    is_extra c.args.books.now.scenario (past_at c.args.books.now) c.args.totals.now (c.len-tasks.result + 1) (omega (arith, e))
    (subst (AgreeBelow c.args.totals.now (totals_of c.args.books.now.scenario (past_at c.args.books.now))) (omega (arith, a, f, e)) c.loop-i.invariant)
    (omega (arith, l, m, e))

pub returns : goal.returns
returns c =
    let a = c.loop-i-test.false in
    let f = c.loop-i.auto.i-end in
    let e = c.len-tasks.ensures ∙ ap (λ (s : Scenario). length s.flags) c.scenario.ensures in
    let l = c.len.ensures in
    let m = c.if-len-tasks.false in
    all_agree c.args.books.now.scenario (past_at c.args.books.now) c.args.totals.now
    (subst (AgreeBelow c.args.totals.now (totals_of c.args.books.now.scenario (past_at c.args.books.now))) (omega (arith, a, f, e)) c.loop-i.invariant)
    (omega (arith, l, m, e))
