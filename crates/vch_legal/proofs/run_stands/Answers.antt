use Rattle.vch_legal.proofs.runs.Runs.{reached_stands}
use Rattle.vch_legal.proofs.run_stands.Goals as goal

pub returns : goal.returns
returns c = reached_stands
