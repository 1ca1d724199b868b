use Rattle.vch_report.proofs.wholes.CopyLoops.{copied_next}
use Rattle.vch_report.proofs.copies.copy_history.Goals as goal

pub loop-i-preserved : goal.loop-i-preserved
loop-i-preserved c = copied_next c.args.history.now.entries c.loop-i.i c.loop-i.made c.push.new.self c.at.result.now c.in_ok-entry.entry c.loop-i.invariant c.at.ensures c.in_ok-entry.ensures.same
    c.in_ok-entry.ensures.bytes c.push.ensures.entries c.push.ensures.spare
