use Rattle.vch_legal.proofs.runs.OneRun.{one_run}
use Rattle.vch_legal.proofs.plain_run_is_one.Goals as goal

pub returns : goal.returns
returns c = one_run
