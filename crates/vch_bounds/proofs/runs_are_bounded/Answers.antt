use Rattle.vch_bounds.proofs.runs.Runs.{reached_spent, run_bounded, run_in_numbers}
use Rattle.vch_bounds.proofs.runs_are_bounded.Goals as goal

pub returns-clause-spent : goal.returns-clause-spent
returns-clause-spent c = reached_spent

pub returns-clause-bounded : goal.returns-clause-bounded
returns-clause-bounded c = run_bounded

pub returns-clause-numbers : goal.returns-clause-numbers
returns-clause-numbers c = run_in_numbers
