use Rattle.std.proofs.Common.{sym, ap, ◌∙◌}
use Rattle.std.specs.Option.{option_map}
use Rattle.vch_ports.specs.Names.{by_name, looked}
use Rattle.vch_vouchers.specs.declared.desks.SlotDesk.{SlotDesk}
use Rattle.vch_vouchers.specs.Desks.{Desk, voucher_of}
use Rattle.vch_vouchers.specs.Slots.{slot_desk, voucher_at}
use Rattle.vch_vouchers.proofs.Naming.{voucher_found}
use Rattle.vch_vouchers.proofs.Seen.{desk_seen, inside}
use Rattle.vch_vouchers.proofs.Taking.{out_live}
use Rattle.vch_vouchers.proofs.vouchers.Vouchers.voucher.Goals as goal

pub at-requires : goal.at-requires
at-requires c = record { task = inside c.self.inside.table c.self.inside.desks c.args.self.now c.self.view_is c.args.task c.requires.task }

pub voucher_in-requires : goal.voucher_in-requires
voucher_in-requires c = out_live c.self.inside.table c.self.inside.desks c.args.task c.know.ensures c.self.invariant c.know-2.ensures (inside c.self.inside.table c.self.inside.desks c.args.self.now c.self.view_is c.args.task c.requires.task) c.look-slot.result c.args.name (c.look-slot.ensures ∙ ap (λ (d : SlotDesk). looked (by_name d.space.names c.args.name)) c.at.ensures)

pub returns : goal.returns
returns c = c.voucher_in.ensures ∙ ap (option_map (voucher_at c.self.inside.table)) (c.look-slot.ensures ∙ ap (λ (d : SlotDesk). looked (by_name d.space.names c.args.name)) c.at.ensures) ∙ sym (voucher_found c.self.inside.table c.args.name (slot_desk c.self.inside.desks c.args.task).space.names) ∙ sym (ap (λ (d : Desk). voucher_of d.names c.args.name) (desk_seen c.self.inside.table c.self.inside.desks c.args.self.now c.self.view_is c.args.task c.requires.task))
