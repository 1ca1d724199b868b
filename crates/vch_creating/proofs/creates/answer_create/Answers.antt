use Rattle.std.proofs.Common.{subst}
use Rattle.vch_model.specs.declared.call.Word.TheVariants as words
use Rattle.vch_answers.specs.Answered.{Answers}
use Rattle.vch_creating.proofs.beginning.CreateBegins.{create_room, create_answered}
use Rattle.vch_creating.proofs.telling.Others.{create_other}
use Rattle.vch_creating.proofs.creates.answer_create.Goals as goal

pub answer-requires-clause-other : goal.answer-requires-clause-other
answer-requires-clause-other c = create_other c.args.size c.create_answer.result c.create_answer.ensures

pub answer-requires-clause-room : goal.answer-requires-clause-room
answer-requires-clause-room c = create_room c.args.parts.now c.args.task c.args.size c.requires.reached c.requires.task c.requires.begins c.requires.size

pub returns : goal.returns
returns c = create_answered c.args.parts.now c.args.task c.args.size c.requires.reached c.requires.task c.requires.begins c.requires.size c.answer.new.parts
    (subst (λ r. Answers c.args.task words.Create r c.args.parts.now c.answer.new.parts) c.create_answer.ensures c.answer.ensures)
