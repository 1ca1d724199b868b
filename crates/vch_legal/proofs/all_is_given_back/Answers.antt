use Rattle.vch_legal.proofs.sums.AllGivenBack.{all_given_back}
use Rattle.vch_legal.proofs.all_is_given_back.Goals as goal

pub returns : goal.returns
returns c = all_given_back
