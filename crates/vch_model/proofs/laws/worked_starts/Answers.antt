use Rattle.vch_model.proofs.worked.WorkedStarts.{are_starts}
use Rattle.vch_model.proofs.laws.worked_starts.Goals as goal

pub returns : goal.returns
returns c = are_starts
