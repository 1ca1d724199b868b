use Rattle.std.proofs.Common.{ap, sym, ◌∙◌, Option, ℕ}
use Rattle.vch_base.specs.declared.key.Key.TheVariants as keys
use Rattle.vch_machine.specs.State.{value_at}
use Rattle.vch_model.specs.After.{store_of}
use Rattle.vch_model.specs.Totals.{with_made}
use Rattle.vch_plain.proofs.SeenReplies.{external_seen}
use Rattle.vch_plain.proofs.reply.seen.external.Goals as goal

pub returns-in-Some : goal.returns-in-Some
returns-in-Some c = λ sc list keeps e. external_seen sc c.args.machine.now c.args.sums.now c.in-Some.handle c.amount.result list keeps
    (ap (λ (o : Option ℕ). value_at c.args.machine.now.live keys.Importance o) (sym (sym c.at.ensures ∙ c.in-Some.is)) ∙ e)
    (λ other past xs is there. c.amount.ensures.external other past xs is
    (ap (λ n. with_made (store_of other past).live n) c.number_at.ensures ∙ there))
