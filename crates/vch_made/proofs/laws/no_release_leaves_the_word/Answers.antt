use Rattle.vch_made.proofs.RuleLaws.{leaves_none}
use Rattle.vch_made.proofs.laws.no_release_leaves_the_word.Goals as goal

pub returns : goal.returns
returns c = leaves_none
