use Rattle.std.proofs.Common.{◌∙◌, refl}
use Rattle.vch_parts.proofs.CallerLemmas.{task_inside}
use Rattle.vch_carry.proofs.glue.Begun.{begun_few, begun_range}
use Rattle.vch_carry.proofs.leaving.ExitBegins.{exit_begins}
use Rattle.vch_carry.proofs.exits.begin_exit.Goals as goal

pub begin-requires-clause-task : goal.begin-requires-clause-task
begin-requires-clause-task c = task_inside c.args.parts.now c.args.task c.requires.reached c.requires.task

pub begin-requires-clause-room : goal.begin-requires-clause-room
begin-requires-clause-room c = begun_few c.args.parts.now c.args.task c.requires.reached c.requires.task

pub put-requires : goal.put-requires
put-requires c = record { task = begun_range c.args.parts.now c.args.task c.requires.reached c.requires.task c.begin.new.self c.begin.ensures.frames }

pub returns : goal.returns
returns c = exit_begins c.args.parts.now c.args.task c.requires.reached c.requires.task c.requires.next c.requires.free c.requires.call c.put.new.self
    (c.put.ensures ∙ rw (c.begin.ensures.frames, c.exiting_frame.ensures) refl)
