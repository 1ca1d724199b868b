use Rattle.std.proofs.Common.{length}
use Rattle.vch_replay.proofs.TwoTexts.{Sought}
use Rattle.vch_replay.proofs.two_texts.scenario_size.Given as goal

abbrev pub invariant-loop-line : goal.invariant-loop-line
invariant-loop-line l = Sought l.input l.rest

abbrev pub decreases-loop-line : goal.decreases-loop-line
decreases-loop-line l = length l.rest
