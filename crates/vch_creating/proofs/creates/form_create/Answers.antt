use Rattle.std.proofs.Common.{◌∙◌, refl}
use Rattle.vch_parts.proofs.CallerLemmas.{task_inside}
use Rattle.vch_moves.proofs.CallerLemmas.{begun_few, begun_range}
use Rattle.vch_creating.proofs.beginning.CreateBegins.{create_opened}
use Rattle.vch_creating.proofs.creates.form_create.Goals as goal

pub begin-requires-clause-task : goal.begin-requires-clause-task
begin-requires-clause-task c = task_inside c.args.parts.now c.args.task c.requires.reached c.requires.task

pub begin-requires-clause-room : goal.begin-requires-clause-room
begin-requires-clause-room c = begun_few c.args.parts.now c.args.task c.requires.reached c.requires.task

pub put-requires : goal.put-requires
put-requires c = record { task = begun_range c.args.parts.now c.args.task c.requires.reached c.requires.task c.begin.new.self c.begin.ensures.frames }

pub returns : goal.returns
returns c = create_opened c.args.parts.now c.args.task c.args.size c.requires.reached c.requires.task c.requires.begins c.requires.size c.put.new.self
    (c.put.ensures ∙ rw (c.begin.ensures.frames, c.fresh_frame.ensures) refl)
