use Rattle.std.proofs.Common.{◌≡◌, ◌+◌, ◌++◌, ◌∙◌, ap, arith, take}
use Rattle.vch_model.specs.Text.{total_line, total_lines}
use Rattle.vch_report.proofs.wholes.Loops.{pushed, total_next}
use Rattle.vch_report.proofs.writer.push_totals.Goals as goal

pub loop-i-preserved : goal.loop-i-preserved
loop-i-preserved c =
    let ts = c.args.totals.now in
    let i = c.loop-i.i in
    let x = c.at.result.now in
    let n : 1 + i ≡ i + 1 = omega arith in
    pushed c.args.out.now.items (total_lines 1 (take i ts)) (total_line (i + 1) x) (total_lines 1 (take
    (i + 1) ts)) c.loop-i.out.items c.push_total.new.out.items c.loop-i.invariant c.in_ok-push_total.ensures
    (total_next ts 1 i x c.at.ensures ∙ ap (λ k. total_lines 1 (take i ts) ++ total_line k x) n)
