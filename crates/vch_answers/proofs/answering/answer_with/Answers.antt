use Rattle.std.proofs.Common.{◌∙◌, ap}
use Rattle.std.specs.Prelude.{◌++◌, ◌∷◌, []}
use Rattle.vch_model.specs.declared.entry.Entry.TheVariants as entries
use Rattle.vch_parts.proofs.CallerLemmas.{task_inside}
use Rattle.vch_answers.proofs.answered.Begun.{begun_few, answer_is}
use Rattle.vch_answers.proofs.answering.answer_with.Goals as goal

pub begin-number-requires-clause-task : goal.begin-number-requires-clause-task
begin-number-requires-clause-task c = task_inside c.args.parts.now c.args.task c.requires.reached c.requires.task

pub begin-number-requires-clause-room : goal.begin-number-requires-clause-room
begin-number-requires-clause-room c = begun_few c.args.parts.now c.args.task c.requires.reached c.requires.task

pub returns : goal.returns
returns c = answer_is c.args.parts.now c.args.task c.requires.reached c.requires.task c.args.word c.args.reply c.begin-number.new.self c.push.new.self c.begin-number.ensures.frames
    (c.push.ensures.entries ∙ ap (λ n. c.args.parts.now.history.entries ++ entries.Call c.args.task n c.args.word c.args.reply ∷ []) c.begin-number.ensures.number) c.push.ensures.spare
