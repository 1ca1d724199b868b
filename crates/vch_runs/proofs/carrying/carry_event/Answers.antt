use Rattle.vch_whole.proofs.CallerLemmas.{reached_may}
use Rattle.vch_runs.proofs.carrying.carry_event.Goals as goal

pub invariant_of-core : goal.invariant_of-core
invariant_of-core c = reached_may c.parts_event.result c.args.task c.core.inside.parts c.parts_event.new.parts c.core.invariant c.parts_event.ensures
