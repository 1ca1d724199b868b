use Rattle.std.proofs.Common.{length}
use Rattle.vch_runs.proofs.Framed.{not_ended, when_ended}
use Rattle.vch_runs.proofs.Ending.{seed_ends_here, never_spent}
use Rattle.vch_runs.proofs.Giving.{whole_here}
use Rattle.vch_runs.proofs.Finishing.{drawing_first, drawing_more}
use Rattle.vch_runs.proofs.seed.drive_seed.Goals as goal

pub loop-move-init : goal.loop-move-init
loop-move-init c = (drawing_first c.args.seed c.args.core.now c.know.ensures, c.ready_tasks-tasks.ensures)

pub returns-then-ended-clause-ends : goal.returns-then-ended-clause-ends
returns-then-ended-clause-ends c = c.loop-move.invariant.0.ends c.loop-move.core (seed_ends_here c.loop-move.now c.loop-move.core (when_ended _ _ c.ended.result c.ended.ensures c.if-ended.true))

pub returns-then-ended-clause-given_back : goal.returns-then-ended-clause-given_back
returns-then-ended-clause-given_back c exits =
    c.all_is_given_back.ensures c.loop-move.core.scenario c.loop-move.core.history.entries exits (whole_here c.loop-move.core c.know-in-loop-move.ensures (when_ended _ _ c.ended.result c.ended.ensures c.if-ended.true))

pub drawn_move-requires : goal.drawn_move-requires
drawn_move-requires c = record { more = not_ended (length c.loop-move.core.scenario.phases) c.loop-move.core.phase c.ended.result c.ended.ensures c.if-ended.false; ready = c.loop-move.invariant.1 }

pub loop-move-preserved : goal.loop-move-preserved
loop-move-preserved c = (
  drawing_more c.args.seed c.args.core.now c.loop-move.core c.drawn_move.new.core c.loop-move.now c.drawn_move.new.seed c.loop-move._move
      (not_ended (length c.loop-move.core.scenario.phases) c.loop-move.core.phase c.ended.result c.ended.ensures c.if-ended.false) c.loop-move.invariant.0 c.drawn_move.ensures.draws,
  c.drawn_move.ensures.ready,
)

pub returns-clause-ends : goal.returns-clause-ends
returns-clause-ends c = absurd (never_spent c.loop-move.core c.loop-move._move c.loop-move-test.false c.loop-move.invariant.0.spares)

pub returns-clause-given_back : goal.returns-clause-given_back
returns-clause-given_back c = absurd (never_spent c.loop-move.core c.loop-move._move c.loop-move-test.false c.loop-move.invariant.0.spares)
