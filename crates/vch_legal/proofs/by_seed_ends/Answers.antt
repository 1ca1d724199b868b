use Rattle.vch_legal.proofs.runs.ScheduleEnds.{seed_ends_from_start}
use Rattle.vch_legal.proofs.by_seed_ends.Goals as goal

pub returns : goal.returns
returns c = seed_ends_from_start
