use Rattle.vch_parts.proofs.CallerLemmas.{task_inside}
use Rattle.vch_carry.proofs.glue.Begun.{begun_few}
use Rattle.vch_carry.proofs.begun.SendBegins.{to_inside, queue_room, nothing_room, nothing_then}
use Rattle.vch_carry.proofs.send_begins.send_nothing.Goals as goal

pub send_bare-requires-clause-task : goal.send_bare-requires-clause-task
send_bare-requires-clause-task c = to_inside c.args.parts.now c.args.task c.requires.reached c.requires.task c.requires.next c.requires.free c.args.sending.to c.args.sending.moving c.args.sending.name c.args.sending.id c.requires.call c.requires.accepted

pub send_bare-requires-clause-room : goal.send_bare-requires-clause-room
send_bare-requires-clause-room c = queue_room c.args.parts.now c.args.task c.requires.reached c.requires.task c.requires.next c.requires.free c.args.sending.to c.args.sending.moving c.args.sending.name c.args.sending.id c.requires.call c.requires.accepted c.requires.nothing c.know.ensures

pub answer-requires-clause-task : goal.answer-requires-clause-task
answer-requires-clause-task c = task_inside c.args.parts.now c.args.task c.requires.reached c.requires.task

pub answer-requires-clause-few : goal.answer-requires-clause-few
answer-requires-clause-few c = begun_few c.args.parts.now c.args.task c.requires.reached c.requires.task

pub answer-requires-clause-room : goal.answer-requires-clause-room
answer-requires-clause-room c = nothing_room c.args.parts.now c.args.task c.requires.reached c.requires.task c.requires.next c.requires.free c.args.sending.to c.args.sending.moving c.args.sending.name c.args.sending.id c.requires.call c.requires.accepted c.requires.nothing

pub returns : goal.returns
returns c = nothing_then c.args.parts.now c.args.task c.requires.reached c.requires.task c.requires.next c.requires.free c.args.sending.to c.args.sending.moving c.args.sending.name c.args.sending.id c.requires.call c.requires.accepted c.requires.nothing
    c.send_bare.new.self c.send_bare.ensures c.answer.new.parts c.answer.ensures.parts c.answer.ensures.entries c.answer.ensures.spare
