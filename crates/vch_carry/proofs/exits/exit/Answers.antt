use Rattle.vch_parts.proofs.CallerLemmas.{desk_inside}
use Rattle.vch_carry.proofs.exits.exit.Goals as goal

pub first_name-requires : goal.first_name-requires
first_name-requires c = record { task = desk_inside c.args.parts.now c.args.task c.requires.reached c.requires.task }

pub first-requires : goal.first-requires
first-requires c = record { task = desk_inside c.args.parts.now c.args.task c.requires.reached c.requires.task }
