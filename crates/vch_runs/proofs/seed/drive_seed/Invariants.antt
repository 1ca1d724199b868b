use Rattle.vch_runs.specs.Turning.{AreReady}
use Rattle.vch_runs.proofs.Finishing.{Drawing}
use Rattle.vch_runs.proofs.seed.drive_seed.Given as goal

abbrev pub invariant-loop-move : goal.invariant-loop-move
invariant-loop-move l = Drawing l.seed l.initial.core l.core l.now l._move × AreReady l.core l.tasks.items
