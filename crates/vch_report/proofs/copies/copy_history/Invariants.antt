use Rattle.vch_report.proofs.wholes.CopyLoops.{Copied}
use Rattle.vch_report.proofs.copies.copy_history.Given as goal

abbrev pub invariant-loop-i : goal.invariant-loop-i
invariant-loop-i l = Copied l.history.entries l.i l.made
