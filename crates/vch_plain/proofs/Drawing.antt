-- The tasks that have a next event, and the one that a seed chooses.
use Rattle.std.proofs.Common.{◌≡◌, ℕ, zero, suc, ◌+◌, ◌-◌, ◌<◌, ◌≤◌, ◌%◌, Bool, true, false, List, [], ◌∷◌, ◌++◌, refl, arith, sym, ap, ◌∙◌, length, get_or, subst, Some, None}
use Rattle.std.specs.Prelude.{is_some, ◌==◌, if◌then◌else◌}
use Rattle.std.proofs.lemmas.Grind.{common_steps}
use Rattle.vch_model.specs.declared.lists.Scenario.{Scenario}
use Rattle.vch_machine.specs.State.{Machine}
use Rattle.vch_machine.specs.Events.{numbers, ready}
use Rattle.vch_machine.specs.Next.{next_kind}
use Rattle.vch_machine.specs.Schedules.{picked, seed_after, next_seed, drawn}
use Rattle.vch_plain.specs.Turning.{IsDraw, ready_of}

-- the tasks below a number that have a next event
pub record ReadyBelow (sc : Scenario) (m : Machine) (t : ℕ) (tasks : List ℕ) : Type 0 where
  pub ready_is : ready sc m (numbers (t - 1)) ≡ tasks
  pub few : length tasks + 1 ≤ t

ready_append : (sc : Scenario) (m : Machine) (ts : List ℕ) (t : ℕ) → ready sc m (ts ++ t ∷ []) ≡ ready sc m ts ++ (if is_some (next_kind sc m t) then t ∷ [] else [])
ready_append sc m [] t = refl
ready_append sc m (u ∷ ts) t = by (is_some (next_kind sc m u)) (ready_append sc m ts t)
  where
    by : (b : Bool) → ready sc m (ts ++ t ∷ []) ≡ ready sc m ts ++ (if is_some (next_kind sc m t) then t ∷ [] else [])
        → (if b then u ∷ ready sc m (ts ++ t ∷ []) else ready sc m (ts ++ t ∷ [])) ≡ (if b then u ∷ ready sc m ts else ready sc m ts) ++ (if is_some (next_kind sc m t) then t ∷ [] else [])
    by true r = ap (λ xs. u ∷ xs) r
    by false r = r

number_next : (t : ℕ) → 0 < t → numbers ((t + 1) - 1) ≡ numbers (t - 1) ++ t ∷ []
number_next zero l = absurd (omega (arith, l))
number_next (suc n) l = let a : (suc n + 1) - 1 ≡ suc n = omega arith in let b : suc n - 1 ≡ n = omega arith in rw (a, b) refl

append_none : (xs : List ℕ) → xs ++ [] ≡ xs
append_none [] = refl
append_none (x ∷ xs) = ap (λ ys. x ∷ ys) (append_none xs)

length_one : (xs : List ℕ) (x : ℕ) → length (xs ++ x ∷ []) ≡ length xs + 1
length_one [] x = refl
length_one (y ∷ xs) x = let e : length (xs ++ x ∷ []) ≡ length xs + 1 = length_one xs x in omega (arith, e)

pub ready_none_yet : (sc : Scenario) (m : Machine) → ReadyBelow sc m 1 []
ready_none_yet sc m = record { ready_is = refl; few = omega arith }

pub ready_some : (sc : Scenario) (m : Machine) (t : ℕ) (tasks : List ℕ) → 0 < t → is_some (next_kind sc m t) ≡ true → ReadyBelow sc m t tasks → ReadyBelow sc m (t + 1) (tasks ++ t ∷ [])
ready_some sc m t tasks l e r = record {
  ready_is =
      ap (ready sc m) (number_next t l) ∙ ready_append sc m (numbers (t - 1)) t
      ∙ ap (λ b. ready sc m (numbers (t - 1)) ++ (if b then t ∷ [] else [])) e
      ∙ ap (λ xs. xs ++ t ∷ []) r.ready_is;
  few = let a = r.few in let b : length (tasks ++ t ∷ []) ≡ length tasks + 1 = length_one tasks t in omega (arith, a, b);
}

pub ready_not : (sc : Scenario) (m : Machine) (t : ℕ) (tasks : List ℕ) → 0 < t → is_some (next_kind sc m t) ≡ false → ReadyBelow sc m t tasks → ReadyBelow sc m (t + 1) tasks
ready_not sc m t tasks l e r = record {
  ready_is =
      ap (ready sc m) (number_next t l) ∙ ready_append sc m (numbers (t - 1)) t
      ∙ ap (λ b. ready sc m (numbers (t - 1)) ++ (if b then t ∷ [] else [])) e
      ∙ append_none (ready sc m (numbers (t - 1))) ∙ r.ready_is;
  few = let a = r.few in omega (arith, a);
}

pub are_ready : (sc : Scenario) (m : Machine) (k : ℕ) (tasks : List ℕ) → k ≡ length sc.flags + 1 → ReadyBelow sc m k tasks → tasks ≡ ready_of sc m
are_ready sc m k tasks e r = let a : k - 1 ≡ length sc.flags = omega (arith, e) in sym (subst (λ n. ready sc m (numbers n) ≡ tasks) a r.ready_is)

-- The choice.

none_of : (tasks : List ℕ) → (length tasks == 0) ≡ true → tasks ≡ []
none_of [] e = refl
none_of (t ∷ tasks) e = absurd (grind (arith, common_steps))

pub draws_none : (sc : Scenario) (m : Machine) (seed : ℕ) (tasks : List ℕ) → (length tasks == 0) ≡ true → tasks ≡ ready_of sc m → IsDraw sc m seed None seed
draws_none sc m seed tasks e a =
    let z : ready_of sc m ≡ [] = sym a ∙ none_of tasks e in
    record { picks = ap (λ ts. picked ts seed) z; after = ap (λ ts. seed_after ts seed) z }

draws : (sc : Scenario) (m : Machine) (seed next : ℕ) (tasks : List ℕ) → (length tasks == 0) ≡ false → next ≡ next_seed seed
    → (picked tasks next ≡ Some (get_or tasks (drawn next % length tasks) 0)) × (seed_after tasks seed ≡ next)
draws sc m seed next [] e q = cc
draws sc m seed next (t ∷ tasks) e q = (refl, sym q)

pub draws_at : (sc : Scenario) (m : Machine) (seed next : ℕ) (tasks : List ℕ) → (length tasks == 0) ≡ false → tasks ≡ ready_of sc m → next ≡ next_seed seed
    → IsDraw sc m seed (Some (get_or tasks (drawn next % length tasks) 0)) next
draws_at sc m seed next tasks e a q =
    let d = draws sc m seed next tasks e q in
    record { picks = ap (λ ts. picked ts next) (sym a) ∙ d.0; after = ap (λ ts. seed_after ts seed) (sym a) ∙ d.1 }
