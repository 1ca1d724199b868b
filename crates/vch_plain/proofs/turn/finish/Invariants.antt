use Rattle.vch_plain.specs.Turning.{IsGoing, IsCursor, LeadsInTurn}
use Rattle.vch_plain.proofs.turn.finish.Given as goal

abbrev pub invariant-loop-move : goal.invariant-loop-move
invariant-loop-move l = record {
  going : IsGoing l.scenario l.run;
  cursor_is : IsCursor l.scenario l.run.machine l.cursor;
  leads : LeadsInTurn l.scenario l.run.machine l._move;
}
