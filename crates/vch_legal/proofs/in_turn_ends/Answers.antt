use Rattle.vch_legal.proofs.runs.ScheduleEnds.{turn_ends_from_start}
use Rattle.vch_legal.proofs.in_turn_ends.Goals as goal

pub returns : goal.returns
returns c = turn_ends_from_start
