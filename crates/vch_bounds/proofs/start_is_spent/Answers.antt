use Rattle.vch_bounds.proofs.runs.Steps.{start_spent}
use Rattle.vch_bounds.proofs.start_is_spent.Goals as goal

pub returns : goal.returns
returns c = start_spent
