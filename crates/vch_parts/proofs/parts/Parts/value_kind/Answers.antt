use Rattle.vch_parts.proofs.framing.OfParts.{task_inside}
use Rattle.vch_parts.proofs.parts.Parts.value_kind.Goals as goal

pub at-requires : goal.at-requires
at-requires c = let n = task_inside c.args.self.now c.args.task c.requires.reached c.requires.task in record { task = (n.0, n.1) }
