use Rattle.std.proofs.Common.{sym, subst}
use Rattle.vch_plain.specs.declared.turn.Cursor.{Cursor}
use Rattle.vch_plain.specs.Turning.{IsCursor}
use Rattle.vch_plain.proofs.Advancing.{cursor_after}
use Rattle.vch_plain.proofs.turn.turn.Goals as goal

pub returns-clause-cursor : goal.returns-clause-cursor
returns-clause-cursor c =
    subst (λ (x : Cursor). IsCursor c.args.scenario.now c.go.new.run.machine x) (sym c.rewind.ensures)
    (cursor_after c.args.scenario.now c.args.run.now.machine c.go.new.run.machine c.next_turn-choice.result c.next_turn-choice.new.cursor c.next_turn-choice.ensures.cursor c.next_turn-choice.ensures.passed c.in_ok-go.ensures.moves)
