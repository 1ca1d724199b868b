use Rattle.std.proofs.Common.{length}
use Rattle.vch_runs.proofs.Framed.{not_ended, when_ended}
use Rattle.vch_runs.proofs.Ending.{ends_here, never_spent}
use Rattle.vch_runs.proofs.Giving.{whole_here}
use Rattle.vch_runs.proofs.Finishing.{finishing_first, finishing_more}
use Rattle.vch_runs.proofs.ends.finish.Goals as goal

pub loop-move-init : goal.loop-move-init
loop-move-init c = finishing_first c.args.core.now c.start_cursor-cursor.result c.know.ensures c.start_cursor-cursor.ensures

pub returns-then-ended-clause-ends : goal.returns-then-ended-clause-ends
returns-then-ended-clause-ends c = c.loop-move.invariant.ends c.loop-move.core (ends_here c.loop-move.core (when_ended _ _ c.ended.result c.ended.ensures c.if-ended.true))

pub returns-then-ended-clause-given_back : goal.returns-then-ended-clause-given_back
returns-then-ended-clause-given_back c exits =
    c.all_is_given_back.ensures c.loop-move.core.scenario c.loop-move.core.history.entries exits (whole_here c.loop-move.core c.know-in-loop-move.ensures (when_ended _ _ c.ended.result c.ended.ensures c.if-ended.true))

pub turn-requires-clause-more : goal.turn-requires-clause-more
turn-requires-clause-more c = not_ended (length c.loop-move.core.scenario.phases) c.loop-move.core.phase c.ended.result c.ended.ensures c.if-ended.false

pub turn-requires-clause-cursor : goal.turn-requires-clause-cursor
turn-requires-clause-cursor c = c.loop-move.invariant.cursor_is

pub turn-requires-clause-from : goal.turn-requires-clause-from
turn-requires-clause-from c = c.loop-move.invariant.from_is

pub loop-move-preserved : goal.loop-move-preserved
loop-move-preserved c =
    finishing_more c.args.core.now c.loop-move.core c.turn.new.core c.loop-move.cursor c.turn.new.cursor c.loop-move.from c.turn.new.from c.loop-move._move
    (not_ended (length c.loop-move.core.scenario.phases) c.loop-move.core.phase c.ended.result c.ended.ensures c.if-ended.false) c.loop-move.invariant c.turn.ensures.turn c.turn.ensures.cursor c.turn.ensures.from

pub returns-clause-ends : goal.returns-clause-ends
returns-clause-ends c = absurd (never_spent c.loop-move.core c.loop-move._move c.loop-move-test.false c.loop-move.invariant.spares)

pub returns-clause-given_back : goal.returns-clause-given_back
returns-clause-given_back c = absurd (never_spent c.loop-move.core c.loop-move._move c.loop-move-test.false c.loop-move.invariant.spares)
