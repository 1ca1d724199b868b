use Rattle.std.proofs.Common.{◌≡◌, length, ◌-◌}
use Rattle.vch_books.specs.Audits.{Audit}
use Rattle.vch_judge.proofs.judge.judge_history.Given as goal

abbrev pub invariant-loop-more : goal.invariant-loop-more
invariant-loop-more l = (l.books.scenario ≡ l.scenario) × (l.books.history ≡ l.history.entries)

abbrev pub decreases-loop-more : goal.decreases-loop-more
decreases-loop-more l = length l.books.history - l.books.taken
