use Rattle.std.proofs.Common.{◌≡◌, refl, true, false, sym, ap, ◌∙◌}
use Rattle.vch_judge.specs.Formed.{slot_at, slot_of_number}
use Rattle.vch_judge.proofs.Changed.{loses_none, loses_same, loses_other}
use Rattle.vch_judge.proofs.change.lost.Goals as goal

pub returns-in_default : goal.returns-in_default
returns-in_default c = λ a map s g h. loses_none a c.args.key c.args.previous c.args.formed c.with.result map c.in_default.is c.with.ensures h

pub returns-then-is_of : goal.returns-then-is_of
returns-then-is_of c = λ a map s g h.
    loses_same a c.args.key c.args.previous c.in-Some.voucher c.args.formed c.with-then-is_of.result map c.in-Some.is
    (sym c.at.ensures ∙ (c.if-is_of.ensures.0 refl ∙ ap slot_of_number c.at-2.ensures)) c.with-then-is_of.ensures h

pub returns-else-is_of : goal.returns-else-is_of
returns-else-is_of c = λ a map s g h.
    loses_other a c.args.key c.args.previous c.in-Some.voucher c.args.formed map c.in-Some.is s g
    (λ e. let q : false ≡ true = c.if-is_of.ensures.1 (c.at.ensures ∙ (e ∙ ap slot_of_number (sym c.at-2.ensures))) in cc) h
