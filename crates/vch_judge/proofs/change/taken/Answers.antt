use Rattle.std.proofs.Common.{◌≡◌, ap, ◌∙◌}
use Rattle.vch_judge.specs.Formed.{with_slot, slot_of_number}
use Rattle.vch_judge.proofs.Changed.{takes_some}
use Rattle.vch_judge.proofs.change.taken.Goals as goal

pub returns : goal.returns
returns c = λ a map g h. takes_some a c.args.key c.args.previous c.in-Some.voucher c.args.formed c.with.result map c.in-Some.is g
    (c.with.ensures ∙ ap (λ s. with_slot c.args.key s c.args.formed) (c.slot_of.ensures ∙ ap slot_of_number c.at.ensures)) h
