-- What a task holds, and what is out from it, as sums over the rows of live values.
use Rattle.std.proofs.Common.{◌≡◌, ℕ, ◌-◌, List, [], ◌∷◌, refl, true, arith, length}
use Rattle.std.specs.Prelude.{if◌then◌else◌, nat_lt}
use Rattle.vch_base.specs.declared.value.Value.{Value}
use Rattle.vch_base.specs.declared.value.Value.TheVariants as values
use Rattle.vch_model.specs.declared.entry.Entry.{Entry}
use Rattle.vch_model.specs.declared.lists.Scenario.{Scenario}
use Rattle.vch_model.specs.After.{store_of}
use Rattle.vch_model.specs.Totals.{held, out, weight, last_is, first_is, tasks_of}
use Rattle.vch_legal.specs.ValueAmounts.{amount_of}
use Rattle.vch_sums.specs.Summed.{share_of}
use Rattle.vch_sums.specs.Steps.{share_weight}
use Rattle.vch_sums.proofs.Live.{total, total_same, each_value}
use Rattle.vch_sums.proofs.Tasks.{last_part, first_part}

abbrev pub held_value : Scenario → List Entry → ℕ → Value → ℕ
held_value sc past t x = last_part t (share_of sc x) (share_weight (share_of sc x) (amount_of sc past x))

abbrev pub out_value : Scenario → List Entry → ℕ → Value → ℕ
out_value sc past t x = first_part t (share_of sc x) (share_weight (share_of sc x) (amount_of sc past x))

long : (a b : ℕ) (list : List ℕ) → nat_lt 1 (length (a ∷ b ∷ list)) ≡ true
long a b list = grind arith

one_less : (a b : ℕ) (list : List ℕ) → length (a ∷ b ∷ list) - 1 ≡ length (b ∷ list)
one_less a b list = omega arith

held_of : (sc : Scenario) (past : List Entry) (t : ℕ) (x : Value)
    → (if last_is t (tasks_of x) then weight sc past x else 0) ≡ held_value sc past t x
held_of sc past t (values.Chain []) = refl
held_of sc past t (values.Chain (a ∷ [])) = refl
held_of sc past t (values.Chain (a ∷ b ∷ list)) = rw (long a b list, one_less a b list) refl
held_of sc past t (values.Account a b) = refl
held_of sc past t (values.User bytes) = refl
held_of sc past t values.Default = refl
held_of sc past t (values.Task u) = refl

out_of : (sc : Scenario) (past : List Entry) (t : ℕ) (x : Value)
    → (if first_is t (tasks_of x) then weight sc past x else 0) ≡ out_value sc past t x
out_of sc past t (values.Chain []) = refl
out_of sc past t (values.Chain (a ∷ [])) = refl
out_of sc past t (values.Chain (a ∷ b ∷ list)) = rw (long a b list) refl
out_of sc past t (values.Account a b) = refl
out_of sc past t (values.User bytes) = refl
out_of sc past t values.Default = refl
out_of sc past t (values.Task u) = refl

pub held_total : (sc : Scenario) (past : List Entry) (t : ℕ) → held sc past t ≡ total (held_value sc past t) (store_of sc past).live
held_total sc past t = total_same (held_value sc past t) (λ x. if last_is t (tasks_of x) then weight sc past x else 0) (store_of sc past).live
    (each_value (λ x. (if last_is t (tasks_of x) then weight sc past x else 0) ≡ held_value sc past t x) (store_of sc past).live (held_of sc past t))

pub out_total : (sc : Scenario) (past : List Entry) (t : ℕ) → out sc past t ≡ total (out_value sc past t) (store_of sc past).live
out_total sc past t = total_same (out_value sc past t) (λ x. if first_is t (tasks_of x) then weight sc past x else 0) (store_of sc past).live
    (each_value (λ x. (if first_is t (tasks_of x) then weight sc past x else 0) ≡ out_value sc past t x) (store_of sc past).live (out_of sc past t))
