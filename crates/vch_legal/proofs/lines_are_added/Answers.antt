use Rattle.vch_legal.proofs.added.AddedLines.{limited_added}
use Rattle.vch_legal.proofs.lines_are_added.Goals as goal

pub returns-clause-limited : goal.returns-clause-limited
returns-clause-limited c = limited_added
