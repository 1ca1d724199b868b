use Rattle.std.proofs.Common.{◌∙◌, ◌≤◌, ◌<◌, ◌++◌, ◌∷◌, [], ap, sym, arith, length, take, List}
use Rattle.vch_model.specs.declared.total.Total.{Total}
use Rattle.vch_model.specs.Text.{totals_of}
use Rattle.vch_plain.proofs.SeenTotals.{totals_next, totals_all}
use Rattle.vch_plain.proofs.told.totals.Goals as goal

pub loop-i-preserved : goal.loop-i-preserved
loop-i-preserved c = λ past is.
    let inside : c.loop-i.i < length c.args.scenario.now.flags = (let a = c.loop-i-test.true in let b = c.len-i-end.ensures in omega (arith, a, b)) in
    c.in_ok-push.ensures.ok
    ∙ (ap (λ (xs : List Total). xs ++ c.total_of.result ∷ []) (c.loop-i.invariant past is)
    ∙ (ap (λ (x : Total). take c.loop-i.i (totals_of c.args.scenario.now past) ++ x ∷ []) (c.total_of.ensures past is)
    ∙ sym (totals_next c.args.scenario.now past c.loop-i.i inside)))

pub returns : goal.returns
returns c = λ past is.
    let outside : length c.args.scenario.now.flags ≤ c.loop-i.i = (let a = c.loop-i-test.false in let b = c.len-i-end.ensures in omega (arith, a, b)) in
    c.loop-i.invariant past is ∙ totals_all c.args.scenario.now past c.loop-i.i outside
