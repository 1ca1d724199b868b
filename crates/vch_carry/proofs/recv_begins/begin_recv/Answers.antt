use Rattle.vch_parts.proofs.CallerLemmas.{desk_inside}
use Rattle.vch_carry.proofs.recv_begins.begin_recv.Goals as goal

pub first-requires : goal.first-requires
first-requires c = record { task = desk_inside c.args.parts.now c.args.task c.requires.reached c.requires.task }
