use Rattle.std.proofs.Common.{◌∙◌, ap, sym}
use Rattle.vch_vouchers.specs.Desks.{all_vouchers, different}
use Rattle.vch_vouchers.proofs.Counting.{count_is}
use Rattle.vch_vouchers.proofs.vouchers.Vouchers.count.Goals as goal

pub returns : goal.returns
returns c = c.count.ensures ∙ sym (count_is c.self.inside.table c.know.ensures c.self.inside.desks c.self.invariant.balanced) ∙ ap (λ d. different (all_vouchers d)) c.self.view_is
