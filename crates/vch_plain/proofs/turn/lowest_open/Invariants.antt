use Rattle.vch_plain.proofs.Lowest.{NoneBelow}
use Rattle.vch_plain.proofs.turn.lowest_open.Given as goal

abbrev pub invariant-loop-task : goal.invariant-loop-task
invariant-loop-task l = NoneBelow l.machine l.task
