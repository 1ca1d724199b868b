use Rattle.vch_made.proofs.RuleLaws.{holder}
use Rattle.vch_made.proofs.laws.only_the_holder_releases.Goals as goal

pub returns : goal.returns
returns c = holder
