use Rattle.std.proofs.Common.{◌∙◌, ap, subst}
use Rattle.vch_vouchers.specs.Desks.{different, all_vouchers}
use Rattle.vch_parts.specs.declared.parts.Parts.{Parts}
use Rattle.vch_replies.specs.Known.{AreApart}
use Rattle.vch_whole.proofs.Reading.{vouchers_are}
use Rattle.vch_whole.proofs.state.Core.vouchers.Goals as goal

pub returns : goal.returns
returns c = vouchers_are c.args.self.now c.count.result c.requires.some_task (subst (λ (p : Parts). AreApart p.values) c.self.view_is c.know.ensures.apart)
    (c.count.ensures ∙ ap (λ (p : Parts). different (all_vouchers p.vouchers)) c.self.view_is)
