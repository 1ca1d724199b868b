use Rattle.std.proofs.Common.{◌∙◌, sym}
use Rattle.vch_making.proofs.giving.Answered.{mid_reached, mid_next, mid_idle, mid_room, mid_wants}
use Rattle.vch_making.proofs.giving.Follows.{roomier_may}
use Rattle.vch_making.proofs.questions.There.{question_there}
use Rattle.vch_making.proofs.making.make.Goals as goal

pub unreachable-requires : goal.unreachable-requires
unreachable-requires c = question_there c.args.parts.now c.args.task c.requires.reached c.requires.task c.requires.next (sym c.read_question.ensures ∙ c.in_default.is)

pub go_on-requires-clause-reached : goal.go_on-requires-clause-reached
go_on-requires-clause-reached c = mid_reached c.args.parts.now c.prepare.new.parts c.args.task c.in-Some.question c.requires.reached c.requires.task c.requires.next (sym c.read_question.ensures ∙ c.in-Some.is) c.prepare.ensures.roomier

pub go_on-requires-clause-next : goal.go_on-requires-clause-next
go_on-requires-clause-next c = mid_next c.args.parts.now c.prepare.new.parts c.args.task c.in-Some.question c.requires.reached c.requires.task c.requires.next (sym c.read_question.ensures ∙ c.in-Some.is) c.prepare.ensures.roomier

pub out_of_memory-requires-clause-reached : goal.out_of_memory-requires-clause-reached
out_of_memory-requires-clause-reached c = mid_reached c.args.parts.now c.prepare.new.parts c.args.task c.in-Some.question c.requires.reached c.requires.task c.requires.next (sym c.read_question.ensures ∙ c.in-Some.is) c.prepare.ensures.roomier

pub out_of_memory-requires-clause-idle : goal.out_of_memory-requires-clause-idle
out_of_memory-requires-clause-idle c = mid_idle c.args.parts.now c.prepare.new.parts c.args.task c.in-Some.question c.requires.reached c.requires.task c.requires.next (sym c.read_question.ensures ∙ c.in-Some.is) c.prepare.ensures.roomier

pub out_of_memory-requires-clause-room : goal.out_of_memory-requires-clause-room
out_of_memory-requires-clause-room c = mid_room c.args.parts.now c.prepare.new.parts c.args.task c.in-Some.question c.requires.reached c.requires.task c.requires.next (sym c.read_question.ensures ∙ c.in-Some.is) c.prepare.ensures.roomier

pub returns-in-Ok : goal.returns-in-Ok
returns-in-Ok c = roomier_may c.args.parts.now c.prepare.new.parts c.go_on.new.parts c.args.task c.prepare.ensures.roomier c.go_on.ensures

pub returns-in-Err : goal.returns-in-Err
returns-in-Err c = mid_wants c.args.parts.now c.prepare.new.parts c.args.task c.in-Some.question c.requires.reached c.requires.task c.requires.next (sym c.read_question.ensures ∙ c.in-Some.is) c.prepare.ensures.roomier c.out_of_memory.new.parts c.out_of_memory.ensures
