use Rattle.std.proofs.Common.{◌≤◌, ◌+◌, ◌*◌, ◌∙◌, sym, ap, arith, take}
use Rattle.vch_model.specs.declared.total.Total.{Total}
use Rattle.vch_replay.specs.Loads.{credited}
use Rattle.vch_replay.proofs.Loading.{sum_next, sum_fits}
use Rattle.vch_replay.proofs.load.sum_of_ledgers.Goals as goal

pub overflow_add-sum : goal.overflow_add-sum
overflow_add-sum c =
    let fits = sum_fits c.args.totals.now c.loop-i.i c.at.result.now c.at.ensures (λ (t : Total). t.ledger) in
    omega (arith, fits, c.loop-i.invariant, c.requires)

pub loop-i-preserved : goal.loop-i-preserved
loop-i-preserved c = ap (λ n. n + c.at.result.now.ledger) c.loop-i.invariant ∙ sym (sum_next c.args.totals.now c.loop-i.i c.at.result.now c.at.ensures (λ (t : Total). t.ledger))
