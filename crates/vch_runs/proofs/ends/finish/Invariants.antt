use Rattle.vch_runs.proofs.Finishing.{Finishing}
use Rattle.vch_runs.proofs.ends.finish.Given as goal

abbrev pub invariant-loop-move : goal.invariant-loop-move
invariant-loop-move l = Finishing l.initial.core l.core l.cursor l.from l._move
