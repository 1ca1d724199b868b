use Rattle.vch_creating.proofs.placed.CreatePlaces.{idle_now, place_room, refused_follows}
use Rattle.vch_creating.proofs.naming.refuse_create.Goals as goal

pub out_of_memory-requires-clause-idle : goal.out_of_memory-requires-clause-idle
out_of_memory-requires-clause-idle c = idle_now c.args.parts.now c.args.task c.requires.reached c.requires.task c.requires.next c.requires.call

pub out_of_memory-requires-clause-room : goal.out_of_memory-requires-clause-room
out_of_memory-requires-clause-room c = place_room c.args.parts.now c.args.task c.requires.reached c.requires.task c.requires.next c.requires.call

pub returns : goal.returns
returns c = refused_follows c.args.parts.now c.args.task c.requires.reached c.requires.task c.requires.next c.requires.call
    c.out_of_memory.new.parts c.out_of_memory.ensures.scenario c.out_of_memory.ensures.plain
