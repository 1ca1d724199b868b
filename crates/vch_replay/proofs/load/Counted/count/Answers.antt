use Rattle.std.proofs.Common.{◌+◌, ◌∙◌, cond, sym, ap, arith, take}
use Rattle.std.specs.List.{count_by}
use Rattle.vch_model.specs.declared.entry.Entry.{Entry}
use Rattle.vch_replay.specs.Loads.{is_counted}
use Rattle.vch_replay.proofs.Loading.{sum_next, one_at_most}
use Rattle.vch_replay.proofs.load.Counted.count.Goals as goal

pub overflow_add-count : goal.overflow_add-count
overflow_add-count c = let one = one_at_most (is_counted c.args.self c.at.result.now) in omega (arith, one, c.weight-count.ensures, c.loop-i.invariant.1)

pub loop-i-preserved : goal.loop-i-preserved
loop-i-preserved c =
    let one = one_at_most (is_counted c.args.self c.at.result.now) in
    let next = sum_next c.args.history.now.entries c.loop-i.i c.at.result.now c.at.ensures (λ (e : Entry). cond (is_counted c.args.self e) 1 0) in
    (ap (λ n. n + c.weight-count.result) c.loop-i.invariant.0 ∙ (ap (λ n. count_by (is_counted c.args.self) (take c.loop-i.i c.args.history.now.entries) + n) c.weight-count.ensures ∙ sym next), omega (arith, one, c.weight-count.ensures, c.loop-i.invariant.1))
