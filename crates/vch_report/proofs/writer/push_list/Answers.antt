use Rattle.std.proofs.Common.{◌+◌, ◌<◌, ◌∙◌, ap, arith, length, take, codes}
use Rattle.std.specs.Fmt.{decimal}
use Rattle.vch_report.proofs.words.ChainWords.{chain_text}
use Rattle.vch_report.proofs.wholes.Loops.{pushed, pushed_next, task_first, task_next}
use Rattle.vch_report.proofs.writer.push_list.Goals as goal
use Rattle.vch_report.proofs.writer.push_list.Goals.{then-i-gt0+in_ok-push_text, else-i-gt0}

pub loop-i-preserved : goal.loop-i-preserved
loop-i-preserved c =
    let ts = c.args.list.now in
    let i = c.loop-i.i in
    let t = c.at.result in
    let lt : i < length ts = omega (arith, c.len-i-end.ensures.len) in
    let old = c.args.out.now.items in
    let text = chain_text (take (i + 1) ts) in
    let last = c.in_ok-push_number.ensures.ok in
    elim c.if-i-gt0.branch [
      | then-i-gt0+in_ok-push_text w ↦
          pushed_next old (chain_text (take i ts)) (codes ",")
          (decimal t) text c.loop-i.out.items c.if-i-gt0.out.items c.push_number.new.out.items c.loop-i.invariant (ap (λ x. x.items) w.out-is ∙ w.in_ok-push_text.ensures.ok) last
          (task_next ts i t lt c.at.ensures w.if-i-gt0.true)
      | else-i-gt0 w ↦
          pushed old (chain_text (take i ts)) (decimal t) text c.if-i-gt0.out.items c.push_number.new.out.items (ap
          (λ x. x.items) w.out-is ∙ c.loop-i.invariant) last (task_first ts i t lt c.at.ensures w.if-i-gt0.false)
    ]
