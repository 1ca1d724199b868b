use Rattle.std.proofs.Common.{ℕ, sym, ap, ◌∙◌, Some, slice_get, Option}
use Rattle.std.specs.Option.{option_map}
use Rattle.vch_vouchers.specs.declared.answers.Message.{Message}
use Rattle.vch_vouchers.specs.declared.desks.SlotDesk.{SlotDesk}
use Rattle.vch_vouchers.specs.Desks.{Voucher}
use Rattle.vch_vouchers.specs.Slots.{message_at}
use Rattle.vch_vouchers.proofs.Seen.{first_seen, inside}
use Rattle.vch_vouchers.proofs.Taking.{first_live, slot_in}
use Rattle.vch_vouchers.proofs.vouchers.Vouchers.first.Goals as goal

abbrev found : ℕ → ℕ → Option Voucher → Option Message
found sender id voucher = Some (record { sender = sender; id = id; voucher = voucher })

pub at-requires : goal.at-requires
at-requires c = record { task = inside c.self.inside.table c.self.inside.desks c.args.self.now c.self.view_is c.args.task c.requires.task }

pub returns-in_err-message : goal.returns-in_err-message
returns-in_err-message c = c.from_residual.ensures ∙ ap (option_map (message_at c.self.inside.table)) (sym c.in_err-message.was ∙ c.first.ensures ∙ ap (λ (d : SlotDesk). slice_get d.mail.messages 0) c.at.ensures) ∙ sym (first_seen c.self.inside.table c.self.inside.desks c.args.self.now c.self.view_is c.args.task c.requires.task)

pub voucher_in-requires : goal.voucher_in-requires
voucher_in-requires c = first_live c.self.inside.table c.self.inside.desks c.args.task c.know.ensures c.self.invariant c.know-2.ensures (inside c.self.inside.table c.self.inside.desks c.args.self.now c.self.view_is c.args.task c.requires.task) c.in_ok-message.message.slot (ap slot_in (sym c.in_ok-message.was ∙ c.first.ensures ∙ ap (λ (d : SlotDesk). slice_get d.mail.messages 0) c.at.ensures))

pub returns : goal.returns
returns c = ap (λ o. found c.in_ok-message.message.sender c.in_ok-message.message.id o) c.voucher_in.ensures ∙ ap (option_map (message_at c.self.inside.table)) (sym c.in_ok-message.was ∙ c.first.ensures ∙ ap (λ (d : SlotDesk). slice_get d.mail.messages 0) c.at.ensures) ∙ sym (first_seen c.self.inside.table c.self.inside.desks c.args.self.now c.self.view_is c.args.task c.requires.task)
