use Rattle.std.proofs.Common.{◌≡◌, ◌∙◌, ℕ, Bool, sym, subst, Some}
use Rattle.std.proofs.lemmas.Result.{on_ok_weaker}
use Rattle.vch_model.specs.declared.call.Call.TheVariants as calls
use Rattle.vch_machine.specs.Next.{nth_call}
use Rattle.vch_sums.specs.declared.row.Row.{Row}
use Rattle.vch_sums.specs.Steps.{Gains, Loses}
use Rattle.vch_sums.proofs.Counting.{counts_more, counts_less}
use Rattle.vch_sums.proofs.sums.Sums.counted.Goals as goal

abbrev row_with : Row → ℕ → Row
row_with r a = record r { amount = a }

pub returns-then-adding : goal.returns-then-adding
returns-then-adding c = on_ok_weaker c.put_more.result
    (λ g sc past t n name word call at h is. counts_more sc past t n word h name c.args.n c.args.number
    (subst (λ (b : Bool). nth_call sc t n ≡ Some (calls.Extern name b c.args.n)) c.if-adding.true call) at
    c.in-Some.row c.args.self.now c.put_more.new.self (sym c.row.ensures ∙ c.in-Some.is)
    (subst (λ (a : ℕ). Gains c.args.number (row_with c.in-Some.row a) c.args.n c.args.self.now c.put_more.new.self) c.in_ok-amount.ensures g) is)
    c.put_more.ensures

pub returns : goal.returns
returns c = on_ok_weaker c.put_less.result
    (λ g sc past t n name word call at h is. counts_less sc past t n word h name c.args.n c.args.number
    (subst (λ (b : Bool). nth_call sc t n ≡ Some (calls.Extern name b c.args.n)) c.if-adding.false call) at
    c.in-Some.row c.args.self.now c.put_less.new.self (sym c.row.ensures ∙ c.in-Some.is)
    (subst (λ (a : ℕ). Loses c.args.number (row_with c.in-Some.row a) c.args.n c.args.self.now c.put_less.new.self) c.saturating_sub-amount.ensures g) is)
    c.put_less.ensures
