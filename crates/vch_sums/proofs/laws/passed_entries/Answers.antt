use Rattle.vch_sums.proofs.Passing.{passed}
use Rattle.vch_sums.proofs.laws.passed_entries.Goals as goal

pub returns : goal.returns
returns c = λ sc past entry sums e h is. passed sc past entry sums e h is
