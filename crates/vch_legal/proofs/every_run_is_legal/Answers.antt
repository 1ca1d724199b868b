use Rattle.vch_legal.proofs.runs.Runs.{run_legal}
use Rattle.vch_legal.proofs.every_run_is_legal.Goals as goal

pub returns : goal.returns
returns c = run_legal
