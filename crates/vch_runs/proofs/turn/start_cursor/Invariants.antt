use Rattle.vch_runs.proofs.Starting.{Started}
use Rattle.vch_runs.proofs.turn.start_cursor.Given as goal

abbrev pub invariant-loop-i : goal.invariant-loop-i
invariant-loop-i l = Started l.core.scenario l.cursor l.i
