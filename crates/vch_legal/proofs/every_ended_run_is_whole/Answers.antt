use Rattle.vch_legal.proofs.runs.Runs.{run_whole}
use Rattle.vch_legal.proofs.every_ended_run_is_whole.Goals as goal

pub returns : goal.returns
returns c = run_whole
