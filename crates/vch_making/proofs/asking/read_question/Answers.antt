use Rattle.vch_parts.proofs.CallerLemmas.{task_inside, desk_inside}
use Rattle.vch_making.proofs.asking.read_question.Goals as goal

pub at-working-requires : goal.at-working-requires
at-working-requires c = record { task = task_inside c.args.parts.now c.args.task c.requires.reached c.requires.task }

pub call_question-requires : goal.call_question-requires
call_question-requires c = record { task = desk_inside c.args.parts.now c.args.task c.requires.reached c.requires.task }
