use Rattle.std.proofs.Common.{sym, subst}
use Rattle.vch_runs.specs.Turning.{IsCursor, IsStart}
use Rattle.vch_runs.proofs.Advancing.{cursor_after}
use Rattle.vch_runs.proofs.Lowest.{start_kept}
use Rattle.vch_runs.proofs.turn.turn.Goals as goal

pub returns-clause-cursor : goal.returns-clause-cursor
returns-clause-cursor c =
    subst (IsCursor c.go.new.core) (sym c.rewind.ensures)
    (cursor_after c.args.core.now c.go.new.core c.next_turn-choice.result c.next_turn-choice.new.cursor c.know.ensures c.next_turn-choice.ensures.cursor c.next_turn-choice.ensures.passed c.go.ensures)

pub returns-clause-from : goal.returns-clause-from
returns-clause-from c =
    subst (IsStart c.go.new.core) (sym c.start_after.ensures)
    (start_kept c.args.core.now c.go.new.core c.next_turn-choice.result c.know.ensures c.next_turn-choice.ensures.can c.next_turn-choice.ensures.before c.go.ensures)
