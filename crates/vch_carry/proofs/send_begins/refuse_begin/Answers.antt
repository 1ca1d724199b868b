use Rattle.std.proofs.Common.{refl}
use Rattle.vch_model.specs.declared.call.Call.TheVariants as calls
use Rattle.vch_model.specs.Replies.{refused}
use Rattle.vch_parts.proofs.CallerLemmas.{task_inside}
use Rattle.vch_carry.proofs.glue.Begun.{begun_few}
use Rattle.vch_carry.proofs.begun.Answered.{answer_room, answered_then}
use Rattle.vch_carry.proofs.begun.SendBegins.{refuses}
use Rattle.vch_parts.specs.Reached.{plain_of}
use Rattle.vch_carry.proofs.amounts.Others.{send_other}
use Rattle.vch_carry.proofs.send_begins.refuse_begin.Goals as goal

pub answer-requires-clause-other : goal.answer-requires-clause-other
answer-requires-clause-other c = send_other c.args.parts.now.scenario (plain_of c.args.parts.now) c.args.task c.args.sending.to c.args.sending.name c.args.code c.requires.code

pub answer-requires-clause-task : goal.answer-requires-clause-task
answer-requires-clause-task c = task_inside c.args.parts.now c.args.task c.requires.reached c.requires.task

pub answer-requires-clause-few : goal.answer-requires-clause-few
answer-requires-clause-few c = begun_few c.args.parts.now c.args.task c.requires.reached c.requires.task

pub answer-requires-clause-room : goal.answer-requires-clause-room
answer-requires-clause-room c = answer_room c.args.parts.now c.args.task c.requires.reached c.requires.task c.requires.next c.requires.free
    (calls.Send c.args.sending.to c.args.sending.moving c.args.sending.name c.args.sending.id) c.requires.call refl (refused c.args.code.number)
    (refuses c.args.parts.now c.args.task c.requires.reached c.requires.task c.requires.next c.requires.free c.args.sending.to c.args.sending.moving c.args.sending.name c.args.sending.id c.requires.call c.args.code c.requires.code)

pub returns : goal.returns
returns c = answered_then c.args.parts.now c.args.task c.requires.reached c.requires.task c.requires.next c.requires.free
    (calls.Send c.args.sending.to c.args.sending.moving c.args.sending.name c.args.sending.id) c.requires.call refl (refused c.args.code.number)
    (refuses c.args.parts.now c.args.task c.requires.reached c.requires.task c.requires.next c.requires.free c.args.sending.to c.args.sending.moving c.args.sending.name c.args.sending.id c.requires.call c.args.code c.requires.code)
    c.answer.new.parts c.answer.ensures.parts c.answer.ensures.entries c.answer.ensures.spare
