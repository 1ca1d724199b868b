use Rattle.std.proofs.Common.{◌∙◌, refl}
use Rattle.vch_parts.proofs.CallerLemmas.{task_inside, desk_inside}
use Rattle.vch_moves.proofs.CallerLemmas.{begun_few, begun_range}
use Rattle.vch_creating.proofs.beginning.DropBegins.{drop_room, drop_follows}
use Rattle.vch_creating.proofs.drops.begin_drop.Goals as goal

pub voucher-requires : goal.voucher-requires
voucher-requires c = record { task = desk_inside c.args.parts.now c.args.task c.requires.reached c.requires.task }

pub begin-number-requires-clause-task : goal.begin-number-requires-clause-task
begin-number-requires-clause-task c = task_inside c.args.parts.now c.args.task c.requires.reached c.requires.task

pub begin-number-requires-clause-room : goal.begin-number-requires-clause-room
begin-number-requires-clause-room c = begun_few c.args.parts.now c.args.task c.requires.reached c.requires.task

pub drop_name-orphan-requires : goal.drop_name-orphan-requires
drop_name-orphan-requires c = record { task = desk_inside c.args.parts.now c.args.task c.requires.reached c.requires.task }

pub put-requires : goal.put-requires
put-requires c = record { task = begun_range c.args.parts.now c.args.task c.requires.reached c.requires.task c.begin-number.new.self c.begin-number.ensures.frames }

pub push-requires : goal.push-requires
push-requires c = drop_room c.args.parts.now c.args.task c.requires.reached c.requires.task c.args.name c.requires.begins
    c.is_some-known.result (c.is_some-known.ensures ∙ rw c.voucher.ensures refl)

pub returns : goal.returns
returns c = drop_follows c.args.parts.now c.args.task c.requires.reached c.requires.task c.args.name c.requires.begins
    c.is_some-known.result (c.is_some-known.ensures ∙ rw c.voucher.ensures refl) c.know.ensures.apart
    c.drop_name-orphan.new.self c.drop_name-orphan.ensures.names c.drop_name-orphan.result c.drop_name-orphan.ensures.orphan
    c.put.new.self (c.put.ensures ∙ rw (c.begin-number.ensures.frames, c.leaving.ensures) refl)
    c.push.new.self c.begin-number.result c.begin-number.ensures.number (c.push.ensures.entries ∙ rw c.drop_answer.ensures refl) c.push.ensures.spare
