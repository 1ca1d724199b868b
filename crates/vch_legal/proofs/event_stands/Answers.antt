use Rattle.vch_legal.proofs.steps.EventSteps as events
use Rattle.vch_legal.proofs.runs.Runs.{phase_stands}
use Rattle.vch_legal.proofs.event_stands.Goals as goal

pub returns-clause-of_task : goal.returns-clause-of_task
returns-clause-of_task c = events.event_stands

pub returns-clause-of_phase : goal.returns-clause-of_phase
returns-clause-of_phase c = phase_stands
