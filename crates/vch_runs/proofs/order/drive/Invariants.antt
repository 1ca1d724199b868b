use Rattle.vch_runs.proofs.Driving.{Driving}
use Rattle.vch_runs.proofs.order.drive.Given as goal

abbrev pub invariant-loop-i : goal.invariant-loop-i
invariant-loop-i l = Driving l.order l.initial.core l.core l.i
