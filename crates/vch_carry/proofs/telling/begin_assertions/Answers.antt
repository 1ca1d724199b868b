use Rattle.std.proofs.Common.{refl, false}
use Rattle.vch_model.specs.declared.call.Call.TheVariants as calls
use Rattle.vch_model.specs.declared.call.Word.TheVariants as words
use Rattle.vch_model.specs.declared.entry.Reply.TheVariants as replies
use Rattle.vch_answers.proofs.CallerLemmas.{answer_room, answer_follows}
use Rattle.vch_carry.proofs.amounts.Told.{assertions_told}
use Rattle.vch_carry.proofs.telling.begin_assertions.Goals as goal

pub answer-requires-clause-room : goal.answer-requires-clause-room
answer-requires-clause-room c = answer_room c.args.parts.now c.args.task calls.Assertions c.requires.reached c.requires.task c.requires.begins false
    (replies.Assertions c.held-held.result c.out-out.result) (assertions_told c.args.parts.now c.args.task c.requires.task c.held-held.result c.out-out.result c.held-held.ensures c.out-out.ensures)

pub returns : goal.returns
returns c = answer_follows c.args.parts.now c.args.task calls.Assertions c.requires.reached c.requires.task c.requires.begins false
    (replies.Assertions c.held-held.result c.out-out.result) (assertions_told c.args.parts.now c.args.task c.requires.task c.held-held.result c.out-out.result c.held-held.ensures c.out-out.ensures)
    c.answer.new.parts words.Assertions refl refl c.answer.ensures
