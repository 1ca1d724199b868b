use Rattle.std.proofs.Common.{subst}
use Rattle.vch_model.specs.declared.call.Word.TheVariants as words
use Rattle.vch_carry.specs.Amounts.{Notes}
use Rattle.vch_base.specs.declared.key.Key.TheVariants as keys
use Rattle.vch_carry.proofs.amounts.Named.{found}
use Rattle.vch_carry.proofs.amounts.Noting.{mid_inside, mid_few, mid_room}
use Rattle.vch_carry.proofs.amounts.Charged.{charge_room, charge_follows}
use Rattle.vch_bank.specs.Bank.{payer_at}
use Rattle.vch_carry.proofs.amounts.Others.{charge_other}
use Rattle.vch_carry.proofs.charging.charge.Goals as goal

pub note-requires-clause-other : goal.note-requires-clause-other
note-requires-clause-other c = charge_other (payer_at c.args.parts.now.values.bank.kept c.args.handle c.args.task) c.pay-reply.result c.pay-reply.ensures.reply

pub pay-reply-requires-clause-live : goal.pay-reply-requires-clause-live
pay-reply-requires-clause-live c = (found c.args.parts.now c.args.task c.requires.reached c.requires.task c.args.name keys.Bank c.args.handle c.requires.handle).live

pub note-requires-clause-inside : goal.note-requires-clause-inside
note-requires-clause-inside c = mid_inside c.args.parts.now c.args.task c.requires.reached c.requires.task _ c.pay-reply.new.parts c.pay-reply.ensures.values

pub note-requires-clause-few : goal.note-requires-clause-few
note-requires-clause-few c = mid_few c.args.parts.now c.args.task c.requires.reached c.requires.task _ c.pay-reply.new.parts c.pay-reply.ensures.values

pub note-requires-clause-room : goal.note-requires-clause-room
note-requires-clause-room c = mid_room c.args.parts.now c.args.task c.requires.reached c.requires.task _ c.pay-reply.new.parts c.pay-reply.ensures.values
    (charge_room c.args.parts.now c.args.task c.args.name c.args.n c.requires.reached c.requires.task c.requires.begins c.args.handle c.requires.handle)

pub returns : goal.returns
returns c = charge_follows c.args.parts.now c.args.task c.args.name c.args.n c.requires.reached c.requires.task c.requires.begins c.args.handle c.requires.handle c.pay-reply.new.parts c.note.new.parts c.pay-reply.ensures.values
    (subst (λ reply. Notes c.args.task words.Charge reply c.pay-reply.new.parts c.note.new.parts) c.pay-reply.ensures.reply c.note.ensures)
