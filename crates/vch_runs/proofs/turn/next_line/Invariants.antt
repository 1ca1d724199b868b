use Rattle.std.proofs.Common.{◌-◌, length}
use Rattle.vch_runs.specs.Turning.{IsCursor}
use Rattle.vch_runs.proofs.turn.next_line.Given as goal

abbrev pub invariant-loop-cursor : goal.invariant-loop-cursor
invariant-loop-cursor l = IsCursor l.core l.cursor

abbrev pub decreases-loop-cursor : goal.decreases-loop-cursor
decreases-loop-cursor l = length l.lines - l.cursor.line
