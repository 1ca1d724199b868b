use Rattle.std.proofs.Common.{subst}
use Rattle.vch_model.specs.declared.call.Word.TheVariants as words
use Rattle.vch_carry.specs.Amounts.{Notes}
use Rattle.vch_base.specs.declared.key.Key.TheVariants as keys
use Rattle.vch_carry.proofs.amounts.Named.{found}
use Rattle.vch_carry.proofs.amounts.Noting.{mid_inside, mid_few, mid_room}
use Rattle.vch_carry.proofs.amounts.Counted.{count_room, count_follows}
use Rattle.vch_base.specs.Managers.{live_at}
use Rattle.vch_carry.proofs.amounts.Others.{count_other}
use Rattle.vch_carry.proofs.counting.count.Goals as goal

pub note-requires-clause-other : goal.note-requires-clause-other
note-requires-clause-other c = count_other c.args.adding (live_at c.args.parts.now.values.importance.kept.slots c.args.handle) c.args.task c.args.n c.recount-reply.result c.recount-reply.ensures.reply

pub recount-reply-requires : goal.recount-reply-requires
recount-reply-requires c = record { live = (found c.args.parts.now c.args.task c.requires.reached c.requires.task c.args.name keys.Importance c.args.handle c.requires.handle).live }

pub note-requires-clause-inside : goal.note-requires-clause-inside
note-requires-clause-inside c = mid_inside c.args.parts.now c.args.task c.requires.reached c.requires.task _ c.recount-reply.new.parts c.recount-reply.ensures.values

pub note-requires-clause-few : goal.note-requires-clause-few
note-requires-clause-few c = mid_few c.args.parts.now c.args.task c.requires.reached c.requires.task _ c.recount-reply.new.parts c.recount-reply.ensures.values

pub note-requires-clause-room : goal.note-requires-clause-room
note-requires-clause-room c = mid_room c.args.parts.now c.args.task c.requires.reached c.requires.task _ c.recount-reply.new.parts c.recount-reply.ensures.values
    (count_room c.args.parts.now c.args.task c.args.name c.args.n c.args.adding c.requires.reached c.requires.task c.requires.begins c.args.handle c.requires.handle)

pub returns : goal.returns
returns c = count_follows c.args.parts.now c.args.task c.args.name c.args.n c.args.adding c.requires.reached c.requires.task c.requires.begins c.args.handle c.requires.handle c.recount-reply.new.parts c.note.new.parts c.recount-reply.ensures.values
    (subst (λ reply. Notes c.args.task words.Extern reply c.recount-reply.new.parts c.note.new.parts) c.recount-reply.ensures.reply c.note.ensures)
