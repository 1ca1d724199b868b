-- The event of a task begins and ends no call of another task.
use Rattle.std.proofs.Common.{◌≡◌, ◌≢◌, ℕ, zero, suc, List, [], ◌∷◌, refl, ap, ◌∙◌, get_or, Bool, Option, Some, None}
use Rattle.std.specs.Prelude.{is_some}
use Rattle.std.proofs.Math.ListN.{get_or-map, set}
use Rattle.vch_base.specs.Tasks.{at_task, set_task}
use Rattle.vch_model.specs.declared.lists.Scenario.{Scenario}
use Rattle.vch_machine.specs.State.{Claim, Frame, Tasked, Machine, idle, tasked}
use Rattle.vch_machine.specs.Making.{on_task, on_frame, on_claims}
use Rattle.vch_machine.specs.Events.{event}
use Rattle.vch_machine.proofs.CallerLemmas.{Walk, event_walked}

pub record Apart (t : ℕ) (m n : Machine) : Type 0 where
  pub frames : (u : ℕ) → u ≢ t → is_some (tasked n u).frame ≡ is_some (tasked m u).frame
  pub begun : (u : ℕ) → u ≢ t → (tasked n u).begun ≡ (tasked m u).begun

set_apart : (xs : List Tasked) (i j : ℕ) (x : Tasked) → j ≢ i → get_or (set xs i x) j idle ≡ get_or xs j idle
set_apart [] i j x n = refl
set_apart (y ∷ xs) zero zero x n = absurd (n refl)
set_apart (y ∷ xs) zero (suc j) x n = refl
set_apart (y ∷ xs) (suc i) zero x n = refl
set_apart (y ∷ xs) (suc i) (suc j) x n = set_apart xs i j x (λ e. n (ap suc e))

put_apart : (xs : List Tasked) (t u : ℕ) (x : Tasked) → u ≢ t → at_task (set_task xs t x) u idle ≡ at_task xs u idle
put_apart xs zero u x n = refl
put_apart xs (suc i) zero x n = refl
put_apart xs (suc i) (suc j) x n = set_apart xs i j x (λ e. n (ap suc e))

-- a task that changes, but not in this
module _ {A : Type 0} (f : Tasked → A) where
  set_same : (xs : List Tasked) (i j : ℕ) (x : Tasked) → f x ≡ f (get_or xs i idle) → f (get_or (set xs i x) j idle) ≡ f (get_or xs j idle)
  set_same [] i j x e = refl
  set_same (y ∷ xs) zero zero x e = e
  set_same (y ∷ xs) zero (suc j) x e = refl
  set_same (y ∷ xs) (suc i) zero x e = refl
  set_same (y ∷ xs) (suc i) (suc j) x e = set_same xs i j x e

  put_same : (xs : List Tasked) (t u : ℕ) (x : Tasked) → f x ≡ f (at_task xs t idle) → f (at_task (set_task xs t x) u idle) ≡ f (at_task xs u idle)
  put_same xs zero u x e = refl
  put_same xs (suc i) zero x e = refl
  put_same xs (suc i) (suc j) x e = set_same xs i j x e

claimed : (g : Claim → Claim) (o : Option Frame) → is_some (on_frame g o) ≡ is_some o
claimed g None = refl
claimed g (Some f) = refl

claims_framed : (m : Machine) (g : Claim → Claim) (u : ℕ) → is_some (tasked (on_claims g m) u).frame ≡ is_some (tasked m u).frame
claims_framed m g zero = refl
claims_framed m g (suc i) = ap (λ (x : Tasked). is_some x.frame) (get_or-map (on_task g) m.tasks i idle) ∙ claimed g (get_or m.tasks i idle).frame

claims_begun : (m : Machine) (g : Claim → Claim) (u : ℕ) → (tasked (on_claims g m) u).begun ≡ (tasked m u).begun
claims_begun m g zero = refl
claims_begun m g (suc i) = ap (λ (x : Tasked). x.begun) (get_or-map (on_task g) m.tasks i idle)

apart : (t : ℕ) → Walk t (Apart t)
apart t = record {
  self_ = λ m. record { frames = λ u n. refl; begun = λ u n. refl };
  joined = λ m n o x y. record { frames = λ u z. y.frames u z ∙ x.frames u z; begun = λ u z. y.begun u z ∙ x.begun u z };
  own = λ m x l. record {
    frames = λ u n. ap (λ (y : Tasked). is_some y.frame) (put_apart m.tasks t u x n);
    begun = λ u n. ap (λ (y : Tasked). y.begun) (put_apart m.tasks t u x n);
  };
  queued = λ m v queue. record {
    frames = λ u n. put_same (λ (y : Tasked). is_some y.frame) m.tasks v u (record (tasked m v) { queue = queue }) refl;
    begun = λ u n. put_same (λ (y : Tasked). y.begun) m.tasks v u (record (tasked m v) { queue = queue }) refl;
  };
  claims = λ m g same. record { frames = λ u n. claims_framed m g u; begun = λ u n. claims_begun m g u };
  others = λ m live pools past tally e. record { frames = λ u n. refl; begun = λ u n. refl };
}

pub event_apart : (sc : Scenario) (want : Bool) (t : ℕ) (m n : Machine) → event sc want m t ≡ Some n → Apart t m n
event_apart sc want t m n e = event_walked t (Apart t) (apart t) sc want m n e
