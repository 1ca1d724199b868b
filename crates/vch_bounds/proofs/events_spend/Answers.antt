use Rattle.vch_bounds.proofs.runs.Steps.{event_spent, phase_spent}
use Rattle.vch_bounds.proofs.events_spend.Goals as goal

pub returns-clause-of_task : goal.returns-clause-of_task
returns-clause-of_task c = event_spent

pub returns-clause-of_phase : goal.returns-clause-of_phase
returns-clause-of_phase c = phase_spent
