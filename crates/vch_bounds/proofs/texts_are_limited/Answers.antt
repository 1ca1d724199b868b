use Rattle.vch_bounds.proofs.runs.Runs.{limited_of}
use Rattle.vch_bounds.proofs.texts_are_limited.Goals as goal

pub returns : goal.returns
returns c = limited_of
