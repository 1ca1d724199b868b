use Rattle.vch_parts.proofs.CallerLemmas.{desk_inside}
use Rattle.vch_carry.proofs.begun.SendBegins.{full_is}
use Rattle.vch_carry.proofs.send_begins.is_full_queue.Goals as goal

pub is_full-requires : goal.is_full-requires
is_full-requires c = record { task = desk_inside c.args.parts.now c.args.to c.requires.reached c.requires.task }

pub returns : goal.returns
returns c = full_is c.args.parts.now c.args.to c.requires.reached c.requires.task c.know.ensures c.is_full.result c.is_full.ensures
