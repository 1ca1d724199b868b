use Rattle.std.proofs.Common.{refl, false}
use Rattle.vch_model.specs.declared.call.Call.TheVariants as calls
use Rattle.vch_model.specs.declared.call.Word.TheVariants as words
use Rattle.vch_model.specs.declared.entry.Reply.TheVariants as replies
use Rattle.vch_answers.proofs.CallerLemmas.{answer_room, answer_follows}
use Rattle.vch_carry.proofs.amounts.Told.{live_told, live_few}
use Rattle.vch_carry.proofs.telling.begin_live.Goals as goal

pub live-values-requires : goal.live-values-requires
live-values-requires c = live_few c.args.parts.now c.requires.reached

pub answer-requires-clause-room : goal.answer-requires-clause-room
answer-requires-clause-room c = answer_room c.args.parts.now c.args.task calls.Live c.requires.reached c.requires.task c.requires.begins false
    (replies.Live c.count-vouchers.result c.live-values.result)
    (live_told c.args.parts.now c.args.task c.requires.task c.count-vouchers.result c.live-values.result c.requires.reached c.know.ensures.apart c.count-vouchers.ensures c.live-values.ensures)

pub returns : goal.returns
returns c = answer_follows c.args.parts.now c.args.task calls.Live c.requires.reached c.requires.task c.requires.begins false
    (replies.Live c.count-vouchers.result c.live-values.result)
    (live_told c.args.parts.now c.args.task c.requires.task c.count-vouchers.result c.live-values.result c.requires.reached c.know.ensures.apart c.count-vouchers.ensures c.live-values.ensures)
    c.answer.new.parts words.Live refl refl c.answer.ensures
