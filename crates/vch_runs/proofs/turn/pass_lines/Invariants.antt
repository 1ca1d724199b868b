use Rattle.vch_runs.proofs.Passing.{Counted}
use Rattle.vch_runs.proofs.turn.pass_lines.Given as goal

abbrev pub invariant-loop-i : goal.invariant-loop-i
invariant-loop-i l = Counted l.initial.passed l.passed l.lines l.i
