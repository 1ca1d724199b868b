use Rattle.std.proofs.Common.{◌∙◌, sym, arith}
use Rattle.std.proofs.lemmas.Grind.{same_number_lists}
use Rattle.vch_made.specs.SeatSteps.{counts_added}
use Rattle.vch_made.proofs.CallerLemmas.{added-at, length-added}
use Rattle.vch_made.proofs.lists.add_counts.Goals as goal

pub returns : goal.returns
returns c =
    let old = c.args.into.now.items in
    let more = c.args.counts.now.items in
    let wide = c.loop-i.invariant.wide in
    let sum_wide = length-added old more c.requires.same in
    let end = c.loop-i-test.false in
    same_number_lists c.loop-i.into.items (counts_added old more) (wide ∙ sym sum_wide) (λ k inside. c.loop-i.invariant.done k (omega arith) ∙ sym (added-at old more k))
