use Rattle.vch_legal.proofs.forming.RunsEvaluated.{run_evaluated}
use Rattle.vch_legal.proofs.forming_is_what_was_evaluated.Goals as goal

pub returns : goal.returns
returns c = run_evaluated
