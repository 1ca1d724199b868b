use Rattle.vch_parts.proofs.CallerLemmas.{task_inside}
use Rattle.vch_making.proofs.asking.prepared.Goals as goal

pub at-working-requires : goal.at-working-requires
at-working-requires c = record { task = task_inside c.args.parts.now c.args.task c.requires.reached c.requires.task }
