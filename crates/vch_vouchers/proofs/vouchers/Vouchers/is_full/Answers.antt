use Rattle.std.proofs.Common.{length, sym, ap, ◌∙◌}
use Rattle.std.proofs.lemmas.List.{length-map}
use Rattle.vch_vouchers.specs.Desks.{Desk}
use Rattle.vch_vouchers.specs.Slots.{desk_at, message_at}
use Rattle.vch_vouchers.proofs.Seen.{desk_seen, inside}
use Rattle.vch_vouchers.proofs.vouchers.Vouchers.is_full.Goals as goal

pub at-requires : goal.at-requires
at-requires c = record { task = inside c.self.inside.table c.self.inside.desks c.args.self.now c.self.view_is c.args.task c.requires.task }

pub returns : goal.returns
returns c =
    let own = desk_seen c.self.inside.table c.self.inside.desks c.args.self.now c.self.view_is c.args.task c.requires.task ∙ sym (ap (desk_at c.self.inside.table) c.at.ensures) in
    let long = ap (λ (d : Desk). length d.queue) own ∙ length-map c.at.result.now.mail.messages (message_at c.self.inside.table) in
    let most = ap (λ (d : Desk). d.limit) own in
    ((λ y. long ∙ c.is_full.ensures.0 y ∙ sym most), (λ e. c.is_full.ensures.1 (sym long ∙ e ∙ most)))
