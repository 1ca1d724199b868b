use Rattle.std.proofs.Common.{sym, ap, ◌∙◌}
use Rattle.vch_vouchers.specs.declared.desks.SlotDesk.{SlotDesk}
use Rattle.vch_vouchers.specs.Desks.{Desk, lowest}
use Rattle.vch_vouchers.specs.Slots.{desk_at}
use Rattle.vch_vouchers.proofs.Naming.{lowest_is}
use Rattle.vch_vouchers.proofs.Seen.{desk_seen, inside}
use Rattle.vch_vouchers.proofs.vouchers.Vouchers.first_name.Goals as goal

pub at-requires : goal.at-requires
at-requires c = record { task = inside c.self.inside.table c.self.inside.desks c.args.self.now c.self.view_is c.args.task c.requires.task }

pub returns : goal.returns
returns c = c.first_name.ensures ∙ sym (lowest_is c.self.inside.table c.at.result.now.space.names) ∙ ap (λ (d : SlotDesk). lowest (desk_at c.self.inside.table d).names) c.at.ensures ∙ sym (ap (λ (d : Desk). lowest d.names) (desk_seen c.self.inside.table c.self.inside.desks c.args.self.now c.self.view_is c.args.task c.requires.task))
