use Rattle.std.proofs.Common.{refl, false}
use Rattle.vch_model.specs.declared.call.Call.TheVariants as calls
use Rattle.vch_model.specs.declared.call.Word.TheVariants as words
use Rattle.vch_model.specs.declared.entry.Reply.TheVariants as replies
use Rattle.vch_answers.proofs.CallerLemmas.{answer_room, answer_follows}
use Rattle.vch_carry.proofs.amounts.Told.{ledger_told}
use Rattle.vch_carry.proofs.telling.begin_ledger.Goals as goal

pub answer-requires-clause-room : goal.answer-requires-clause-room
answer-requires-clause-room c = answer_room c.args.parts.now c.args.task calls.Ledger c.requires.reached c.requires.task c.requires.begins false
    (replies.Ledger c.ledger-amount.result) (ledger_told c.args.parts.now c.args.task c.requires.task c.ledger-amount.result c.ledger-amount.ensures)

pub returns : goal.returns
returns c = answer_follows c.args.parts.now c.args.task calls.Ledger c.requires.reached c.requires.task c.requires.begins false
    (replies.Ledger c.ledger-amount.result) (ledger_told c.args.parts.now c.args.task c.requires.task c.ledger-amount.result c.ledger-amount.ensures)
    c.answer.new.parts words.Ledger refl refl c.answer.ensures
