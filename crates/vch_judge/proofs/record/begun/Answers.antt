use Rattle.std.proofs.Common.{◌≡◌, ap, ◌∙◌}
use Rattle.vch_judge.specs.Formed.{slot_of_number}
use Rattle.vch_judge.proofs.Changed.{begun_none, begun_some}
use Rattle.vch_judge.proofs.record.begun.Goals as goal

pub returns-in_default : goal.returns-in_default
returns-in_default c = λ a map g h. begun_none a c.args.key c.args.previous c.at.result c.args.formed map c.in_default.is c.at.ensures h

pub returns : goal.returns
returns c = λ a map g h. begun_some a c.args.key c.args.previous c.in-Some.voucher c.slot_of.result map c.in-Some.is g
    (c.slot_of.ensures ∙ ap slot_of_number c.at-2.ensures)
