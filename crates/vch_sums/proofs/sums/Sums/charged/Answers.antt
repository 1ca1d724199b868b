use Rattle.std.proofs.Common.{◌∙◌, ℕ, List, ◌∷◌, sym, subst}
use Rattle.std.proofs.lemmas.Result.{on_ok_weaker}
use Rattle.vch_sums.specs.declared.row.Row.{Row}
use Rattle.vch_sums.specs.Steps.{Puts}
use Rattle.vch_sums.specs.Summed.{Summed, IsSummed, accepted}
use Rattle.vch_sums.proofs.Counting.{charges_account, charges_own}
use Rattle.vch_sums.proofs.sums.Sums.charged.Goals as goal

abbrev row_with : Row → ℕ → Row
row_with r a = record r { amount = a }

abbrev ledgers_with : Summed → List ℕ → Summed
ledgers_with s a = record s { ledgers = a }

pub returns-in-Account : goal.returns-in-Account
returns-in-Account c = on_ok_weaker c.put.result
    (λ g sc past n name word call at h is. charges_account sc past c.args.task n word h name c.args.n c.args.number call at
    c.in-Some.row c.in-Account.holder c.args.self.now c.put.new.self c.in-Account.is (sym c.row.ensures ∙ c.in-Some.is)
    (subst (λ (a : ℕ). Puts c.args.number (row_with c.in-Some.row a) c.args.self.now c.put.new.self) c.in_ok-amount.ensures g) is)
    c.put.ensures

pub returns : goal.returns
returns c = on_ok_weaker c.earn.result
    (λ g sc past n name word call at h is.
    subst (IsSummed sc (accepted c.args.task n word ∷ past)) (sym g)
    (charges_own sc past c.args.task n word h name c.args.n c.args.number call at
    c.in-Some.row c.args.self.now c.in_default-share.not-Account (sym c.row.ensures ∙ c.in-Some.is) is))
    c.earn.ensures
