use Rattle.vch_legal.proofs.bounds.Bounds.{run_bounded}
use Rattle.vch_legal.proofs.every_run_is_bounded.Goals as goal

pub returns : goal.returns
returns c = run_bounded
