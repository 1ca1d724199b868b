use Rattle.vch_text.proofs.Splits.{split_joined}
use Rattle.vch_text.proofs.laws.lines_rejoin.Goals as goal

pub returns : goal.returns
returns c = split_joined
