use Rattle.vch_runs.specs.Turning.{NoneBelow}
use Rattle.vch_runs.proofs.turn.lowest_frame.Given as goal

abbrev pub invariant-loop-task : goal.invariant-loop-task
invariant-loop-task l = NoneBelow l.core.frames l.task
