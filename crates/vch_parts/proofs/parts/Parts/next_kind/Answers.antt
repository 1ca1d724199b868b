use Rattle.vch_parts.proofs.framing.NextKinds.{desk_inside, is_next}
use Rattle.vch_parts.proofs.framing.OfParts.{task_inside}
use Rattle.vch_parts.proofs.parts.Parts.next_kind.Goals as goal

pub at-working-requires : goal.at-working-requires
at-working-requires c = let n = task_inside c.args.self.now c.args.task c.requires.reached c.requires.task in record { task = (n.0, n.1) }

pub task_kind-requires : goal.task_kind-requires
task_kind-requires c = let n = desk_inside c.args.self.now c.args.task c.requires.reached c.requires.task in record { task = (n.0, n.1) }

pub returns : goal.returns
returns c = is_next c.args.self.now c.args.task c.task_kind.result c.at-working.result.now c.requires.task c.at-working.ensures c.task_kind.ensures
