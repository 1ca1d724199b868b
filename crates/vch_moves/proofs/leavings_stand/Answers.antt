use Rattle.vch_moves.proofs.leavings_stand.Goals as goal
use Rattle.vch_moves.proofs.stating.Leaves.{drops_leave, names_leave, messages_leave, tasks_leave}

pub returns-clause-drop : goal.returns-clause-drop
returns-clause-drop c = drops_leave

pub returns-clause-name : goal.returns-clause-name
returns-clause-name c = names_leave

pub returns-clause-message : goal.returns-clause-message
returns-clause-message c = messages_leave

pub returns-clause-task : goal.returns-clause-task
returns-clause-task c = tasks_leave
