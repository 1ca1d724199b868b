use Rattle.std.proofs.Common.{length, ◌-◌}
use Rattle.vch_judge.proofs.Creating.{Comes}
use Rattle.vch_judge.proofs.create.evaluate_all.Given as goal

abbrev pub invariant-loop-more : goal.invariant-loop-more
invariant-loop-more l = Comes l.books l.task l.bytes l.at l.formed l.asked

abbrev pub decreases-loop-more : goal.decreases-loop-more
decreases-loop-more l = length l.bytes - l.at
