use Rattle.std.proofs.Common.{ap, sym, ◌∙◌}
use Rattle.vch_base.specs.declared.key.Key.TheVariants as keys
use Rattle.vch_machine.specs.State.{value_at}
use Rattle.vch_plain.specs.Replied.{ends_with}
use Rattle.vch_plain.proofs.SeenReplies.{counts_seen, counts_none}
use Rattle.vch_plain.proofs.reply.seen.counting.Goals as goal

pub returns-then-ends_with : goal.returns-then-ends_with
returns-then-ends_with c = λ sc keeps. c.counted.ensures
    ∙ counts_seen sc c.args.machine.now.past c.args.task c.args.n c.external.result c.args.adding
    (value_at c.args.machine.now.live keys.Importance c.args.voucher.now.importance)
    (ap (ends_with c.args.task) (sym c.value_of.ensures) ∙ (sym c.ends_with.ensures ∙ c.if-ends_with.true))
    (λ list e. c.external.ensures sc list keeps e)

pub returns : goal.returns
returns c = λ sc keeps. c.refused.ensures
    ∙ counts_none sc c.args.machine.now.past c.args.task c.args.n c.args.adding
    (value_at c.args.machine.now.live keys.Importance c.args.voucher.now.importance)
    (ap (ends_with c.args.task) (sym c.value_of.ensures) ∙ (sym c.ends_with.ensures ∙ c.if-ends_with.false))
