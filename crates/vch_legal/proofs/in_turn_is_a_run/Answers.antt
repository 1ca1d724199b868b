use Rattle.vch_legal.proofs.runs.ScheduleRuns.{turn_from_start}
use Rattle.vch_legal.proofs.in_turn_is_a_run.Goals as goal

pub returns : goal.returns
returns c = turn_from_start
