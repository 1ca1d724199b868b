use Rattle.std.proofs.Common.{◌∙◌, sym, arith, false, ext_get_or}
use Rattle.vch_made.specs.SeatSteps.{marks_united}
use Rattle.vch_made.proofs.CallerLemmas.{united-at, length-united}
use Rattle.vch_made.proofs.lists.unite_marks.Goals as goal

pub returns : goal.returns
returns c =
    let old = c.args.into.now.items in
    let more = c.args.marks.now.items in
    let wide = c.loop-i.invariant.wide in
    let sum_wide = length-united old more c.requires.same in
    let end = c.loop-i-test.false in
    ext_get_or false c.loop-i.into.items (marks_united old more) (wide ∙ sym sum_wide) (λ k inside. c.loop-i.invariant.done k (omega arith) ∙ sym (united-at old more k))
