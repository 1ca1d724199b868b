use Rattle.vch_legal.proofs.runs.ScheduleRuns.{seed_from_start}
use Rattle.vch_legal.proofs.by_seed_is_a_run.Goals as goal

pub returns : goal.returns
returns c = seed_from_start
