use Rattle.vch_parts.proofs.CallerLemmas.{task_inside}
use Rattle.vch_runs.proofs.Framed.{is_true}
use Rattle.vch_runs.proofs.carrying.has_asked.Goals as goal

pub at-requires : goal.at-requires
at-requires c = let n = task_inside c.args.parts.now c.args.task c.requires.reached (is_true _ c.requires.task) in record { task = (n.0, n.1) }
