use Rattle.std.proofs.Common.{sym, ap, ◌∙◌, subst, Some}
use Rattle.std.specs.Option.{option_map}
use Rattle.std.specs.Option.{IfSome, IsSome}
use Rattle.vch_base.specs.Slots.{slot_at}
use Rattle.vch_vouchers.specs.Slots.{voucher_at}
use Rattle.vch_vouchers.proofs.Pictures.{voucher_told}
use Rattle.vch_vouchers.proofs.vouchers.voucher_in.Goals as goal

pub returns : goal.returns
returns c =
    let there = subst (λ o. IfSome o (λ s. IsSome (slot_at c.args.table.now s))) c.in_ok-slot.was c.requires in
    ap Some (voucher_told c.args.table.now c.in_ok-slot.field-0 c.indices.result there c.indices.ensures) ∙ ap (option_map (voucher_at c.args.table.now)) (sym c.in_ok-slot.was)
