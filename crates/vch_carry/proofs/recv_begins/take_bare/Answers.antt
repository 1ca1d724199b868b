use Rattle.vch_parts.proofs.CallerLemmas.{task_inside, desk_inside}
use Rattle.vch_carry.proofs.glue.Begun.{begun_few}
use Rattle.vch_carry.proofs.begun.RecvBegins.{bare_room, bare_then}
use Rattle.vch_carry.proofs.recv_begins.take_bare.Goals as goal

pub take_first-requires : goal.take_first-requires
take_first-requires c = record { task = desk_inside c.args.parts.now c.args.task c.requires.reached c.requires.task }

pub answer-requires-clause-task : goal.answer-requires-clause-task
answer-requires-clause-task c = task_inside c.args.parts.now c.args.task c.requires.reached c.requires.task

pub answer-requires-clause-few : goal.answer-requires-clause-few
answer-requires-clause-few c = begun_few c.args.parts.now c.args.task c.requires.reached c.requires.task

pub answer-requires-clause-room : goal.answer-requires-clause-room
answer-requires-clause-room c = bare_room c.args.parts.now c.args.task c.requires.reached c.requires.task c.requires.next c.requires.free c.requires.call c.args.sender c.args.id c.requires.first

pub returns : goal.returns
returns c = bare_then c.args.parts.now c.args.task c.requires.reached c.requires.task c.requires.next c.requires.free c.requires.call c.args.sender c.args.id c.requires.first
    c.take_first.new.self c.take_first.ensures.queue c.answer.new.parts c.answer.ensures.parts c.answer.ensures.entries c.answer.ensures.spare
