-- No event takes back a call that was begun, and none but the end of a phase ends one.
use Rattle.std.proofs.Common.{◌≡◌, ℕ, zero, suc, ◌≤◌, List, [], ◌∷◌, refl, ap, ◌∙◌, arith, get_or, Bool, Some}
use Rattle.std.proofs.Math.ListN.{get_or-map, set}
use Rattle.vch_base.specs.Tasks.{at_task, set_task}
use Rattle.vch_model.specs.declared.lists.Scenario.{Scenario}
use Rattle.vch_model.specs.Lines.{phases_in}
use Rattle.vch_machine.specs.State.{Claim, Tasked, Machine, idle, tasked}
use Rattle.vch_machine.specs.Making.{on_task, on_claims}
use Rattle.vch_machine.specs.Events.{event}
use Rattle.vch_machine.proofs.CallerLemmas.{Walk, event_walked}

pub record Grows (m n : Machine) : Type 0 where
  pub begun : (u : ℕ) → (tasked m u).begun ≤ (tasked n u).begun
  pub phases : phases_in n.past ≡ phases_in m.past

same_count : (a b : ℕ) → b ≡ a → a ≤ b
same_count a b e = omega (arith, e)

set_grows : (xs : List Tasked) (i j : ℕ) (x : Tasked) → (get_or xs i idle).begun ≤ x.begun → (get_or xs j idle).begun ≤ (get_or (set xs i x) j idle).begun
set_grows [] i j x l = same_count _ _ refl
set_grows (y ∷ xs) zero zero x l = l
set_grows (y ∷ xs) zero (suc j) x l = same_count _ _ refl
set_grows (y ∷ xs) (suc i) zero x l = same_count _ _ refl
set_grows (y ∷ xs) (suc i) (suc j) x l = set_grows xs i j x l

put_grows : (xs : List Tasked) (t u : ℕ) (x : Tasked) → (at_task xs t idle).begun ≤ x.begun → (at_task xs u idle).begun ≤ (at_task (set_task xs t x) u idle).begun
put_grows xs zero u x l = same_count _ _ refl
put_grows xs (suc i) zero x l = same_count _ _ refl
put_grows xs (suc i) (suc j) x l = set_grows xs i j x l

claims_same : (m : Machine) (g : Claim → Claim) (u : ℕ) → (tasked (on_claims g m) u).begun ≡ (tasked m u).begun
claims_same m g zero = refl
claims_same m g (suc i) = ap (λ (x : Tasked). x.begun) (get_or-map (on_task g) m.tasks i idle)

joined : (a b d : ℕ) → a ≤ b → b ≤ d → a ≤ d
joined a b d x y = omega (arith, x, y)

growing : (t : ℕ) → Walk t Grows
growing t = record {
  self_ = λ m. record { begun = λ u. same_count _ _ refl; phases = refl };
  joined = λ m n o x y. record { begun = λ u. joined (tasked m u).begun (tasked n u).begun (tasked o u).begun (x.begun u) (y.begun u); phases = y.phases ∙ x.phases };
  own = λ m x l. record { begun = λ u. put_grows m.tasks t u x l; phases = refl };
  queued = λ m v queue. record { begun = λ u. put_grows m.tasks v u (record (tasked m v) { queue = queue }) (same_count (tasked m v).begun (tasked m v).begun refl); phases = refl };
  claims = λ m g same. record { begun = λ u. same_count _ _ (claims_same m g u); phases = refl };
  others = λ m live pools past tally e. record { begun = λ u. same_count _ _ refl; phases = e };
}

pub event_grows : (sc : Scenario) (want : Bool) (t : ℕ) (m n : Machine) → event sc want m t ≡ Some n → Grows m n
event_grows sc want t m n e = event_walked t Grows (growing t) sc want m n e
