use Rattle.std.proofs.Common.{◌∙◌, refl}
use Rattle.vch_base.specs.declared.codes.TheConstants.{MACH_RCV_TIMED_OUT}
use Rattle.vch_model.specs.declared.call.Call.TheVariants as calls
use Rattle.vch_model.specs.Replies.{refused}
use Rattle.vch_parts.proofs.CallerLemmas.{task_inside}
use Rattle.vch_carry.proofs.glue.Begun.{begun_few}
use Rattle.vch_carry.proofs.begun.Answered.{answer_room, answered_then}
use Rattle.vch_carry.proofs.begun.RecvBegins.{empty_replies}
use Rattle.vch_carry.proofs.recv_begins.refuse_empty.Goals as goal

pub answer-requires-clause-task : goal.answer-requires-clause-task
answer-requires-clause-task c = task_inside c.args.parts.now c.args.task c.requires.reached c.requires.task

pub answer-requires-clause-few : goal.answer-requires-clause-few
answer-requires-clause-few c = begun_few c.args.parts.now c.args.task c.requires.reached c.requires.task

pub answer-requires-clause-room : goal.answer-requires-clause-room
answer-requires-clause-room c = answer_room c.args.parts.now c.args.task c.requires.reached c.requires.task c.requires.next c.requires.free calls.Recv c.requires.call refl (refused MACH_RCV_TIMED_OUT)
    (empty_replies c.args.parts.now c.args.task c.requires.reached c.requires.task c.requires.next c.requires.free c.requires.call c.requires.empty)

pub returns : goal.returns
returns c = answered_then c.args.parts.now c.args.task c.requires.reached c.requires.task c.requires.next c.requires.free calls.Recv c.requires.call refl (refused MACH_RCV_TIMED_OUT)
    (empty_replies c.args.parts.now c.args.task c.requires.reached c.requires.task c.requires.next c.requires.free c.requires.call c.requires.empty)
    c.answer.new.parts c.answer.ensures.parts (c.answer.ensures.entries ∙ rw c.of-code.ensures refl) c.answer.ensures.spare
