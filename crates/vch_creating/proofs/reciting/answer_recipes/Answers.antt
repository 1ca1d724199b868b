use Rattle.std.proofs.Common.{refl, false}
use Rattle.vch_model.specs.declared.call.Call.TheVariants as calls
use Rattle.vch_model.specs.declared.call.Word.TheVariants as words
use Rattle.vch_answers.proofs.CallerLemmas.{answer_room, answer_follows}
use Rattle.vch_creating.proofs.telling.Recited.{recipes_reply_told}
use Rattle.vch_creating.proofs.telling.Others.{recipes_other}
use Rattle.vch_parts.specs.Reached.{plain_of}
use Rattle.vch_replies.specs.Told.{values_by}
use Rattle.vch_creating.proofs.reciting.answer_recipes.Goals as goal

pub answer-requires-clause-other : goal.answer-requires-clause-other
answer-requires-clause-other c = recipes_other c.args.task (values_by (plain_of c.args.parts.now) c.args.task c.args.name) c.args.reply c.requires.told

pub answer-requires-clause-room : goal.answer-requires-clause-room
answer-requires-clause-room c = answer_room c.args.parts.now c.args.task (calls.Recipes c.args.name) c.requires.reached c.requires.task c.requires.begins false c.args.reply
    (recipes_reply_told c.args.parts.now c.args.task c.requires.task c.args.name c.args.reply c.requires.told)

pub returns : goal.returns
returns c = answer_follows c.args.parts.now c.args.task (calls.Recipes c.args.name) c.requires.reached c.requires.task c.requires.begins false c.args.reply
    (recipes_reply_told c.args.parts.now c.args.task c.requires.task c.args.name c.args.reply c.requires.told)
    c.answer.new.parts words.Recipes refl refl c.answer.ensures
