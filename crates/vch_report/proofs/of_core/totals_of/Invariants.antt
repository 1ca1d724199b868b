use Rattle.vch_report.proofs.from_core.EachTotal.{Totalled}
use Rattle.vch_report.proofs.of_core.totals_of.Given as goal

abbrev pub invariant-loop-task : goal.invariant-loop-task
invariant-loop-task l = Totalled l.core l.task l.made
