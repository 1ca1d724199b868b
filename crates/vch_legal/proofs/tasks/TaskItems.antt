-- Lists by task: what a map makes of one, and tests of its items.
use Rattle.std.proofs.Common.{◌≡◌, ℕ, zero, suc, ◌≤◌, Bool, List, [], ◌∷◌, refl, true, false, arith, sym, subst, length, map, get_or, inl, inr}
use Rattle.std.proofs.Math.ListN.{get_or-map, set}
use Rattle.std.proofs.Math.Seq.{map-set_same}
use Rattle.std.proofs.lemmas.List.{map-set}
use Rattle.std.specs.Prelude.{◌⊎◌}
use Rattle.std.specs.List.{list_any}
use Rattle.vch_base.specs.Tasks.{at_task, set_task}
use Rattle.vch_base.proofs.CallerLemmas.{as_long}
use Rattle.vch_legal.proofs.tasks.TaskLists.{IsAmong}
use Rattle.vch_legal.proofs.facts.Choices.{or_case, or_left, or_right, neither_left, neither_right, both_ways}

pub at_map : {A B : Type 0} (f : A → B) (xs : List A) (t : ℕ) (d : A) → at_task (map f xs) t (f d) ≡ f (at_task xs t d)
at_map f xs zero d = refl
at_map f xs (suc t) d = get_or-map f xs t d

pub map_set : {A B : Type 0} (f : A → B) (xs : List A) (t : ℕ) (x : A) → map f (set_task xs t x)
    ≡ set_task (map f xs) t (f x)
map_set f xs zero x = refl
map_set f xs (suc t) x = map-set f xs t x

-- an item is replaced by one of which the map makes the same
pub map_same : {A B : Type 0} (f : A → B) (xs : List A) (t : ℕ) (x d : A) → f x ≡ f (at_task xs t d)
    → map f (set_task xs t x) ≡ map f xs
map_same f xs zero x d e = refl
map_same f xs (suc t) x d e = map-set_same f xs t x d e

-- what holds of the other item, and of each that is there, holds of a task's
pub any_at : {A : Type 0} (p : A → Bool) (xs : List A) (t : ℕ) (d : A) → p d ≡ false → p (at_task xs t d) ≡ true
    → list_any p xs ≡ true
any_at p xs zero d none h = absurd (both_ways h none)
any_at p xs (suc t) d none h = from xs t h
  where
    from : (xs : List _) (i : ℕ) → p (get_or xs i d) ≡ true → list_any p xs ≡ true
    from [] i h = absurd (both_ways h none)
    from (x ∷ xs) zero h = or_left (p x) (list_any p xs) h
    from (x ∷ xs) (suc i) h = or_right (p x) (list_any p xs) (from xs i h)

pub none_at : {A : Type 0} (p : A → Bool) (xs : List A) (t : ℕ) (d : A) → p d ≡ false → list_any p xs ≡ false
    → p (at_task xs t d) ≡ false
none_at p xs zero d none h = none
none_at p xs (suc t) d none h = from xs t h
  where
    from : (xs : List _) (i : ℕ) → list_any p xs ≡ false → p (get_or xs i d) ≡ false
    from [] i h = none
    from (x ∷ xs) zero h = neither_left (p x) (list_any p xs) h
    from (x ∷ xs) (suc i) h = from xs i (neither_right (p x) (list_any p xs) h)

-- a property of a task's item, where the item of any task is replaced by one that has it where that task's had
pub set_keeps : {A : Type 0} (P : A → Type 0) (xs : List A) (t u : ℕ) (x d : A) → (P (at_task xs t d) → P x)
    → P (at_task xs u d) → P (at_task (set_task xs t x) u d)
set_keeps P xs zero u x d f h = h
set_keeps P xs (suc t) zero x d f h = h
set_keeps P xs (suc t) (suc u) x d f h = from xs t u f h
  where
    from : (xs : List _) (i j : ℕ) → (P (get_or xs i d) → P x) → P (get_or xs j d) → P (get_or (set xs i x) j d)
    from [] i j f h = h
    from (y ∷ xs) zero zero f h = f h
    from (y ∷ xs) zero (suc j) f h = h
    from (y ∷ xs) (suc i) zero f h = h
    from (y ∷ xs) (suc i) (suc j) f h = from xs i j f h

pub still_in : {A : Type 0} (xs : List A) (t u : ℕ) (x : A) → IsAmong t xs → IsAmong t (set_task xs u x)
still_in xs t u x l = (l.0, subst (λ n. t ≤ n) (sym (as_long xs u x)) l.1)

-- an item that is not the other one is there
pub differs_in : {A : Type 0} (xs : List A) (t : ℕ) (d : A) → (at_task xs t d ≡ d → ⊥) → IsAmong t xs
differs_in xs zero d h = absurd (h refl)
differs_in xs (suc t) d h = (least t, within xs t h)
  where
    least : (t : ℕ) → 1 ≤ suc t
    least t = omega arith

    within : (xs : List _) (i : ℕ) → (get_or xs i d ≡ d → ⊥) → suc i ≤ length xs
    within [] i h = absurd (h refl)
    within (x ∷ xs) zero h = omega arith
    within (x ∷ xs) (suc i) h = let l : suc i ≤ length xs = within xs i h in omega arith

-- one item is replaced, and a test passes
pub any_set_task : {A : Type 0} (p : A → Bool) (xs : List A) (t : ℕ) (y d : A) (N : Type 0) → p d ≡ false
    → (p y ≡ true → (p (at_task xs t d) ≡ true) ⊎ N) → list_any p (set_task xs t y) ≡ true → (list_any p xs ≡ true) ⊎ N
any_set_task p xs zero y d N none f h = inl h
any_set_task p xs (suc t) y d N none f h = from xs t f h
  where
    from : (xs : List _) (i : ℕ) → (p y ≡ true → (p (get_or xs i d) ≡ true) ⊎ N) → list_any p (set xs i y) ≡ true
        → (list_any p xs ≡ true) ⊎ N
    from [] i f h = inl h
    from (x ∷ xs) zero f h = elim (or_case (p y) (list_any p xs) h) as
        (λ _. (list_any p (x ∷ xs) ≡ true) ⊎ N) [
          | inl here ↦ elim (f here) as (λ _. (list_any p (x ∷ xs) ≡ true) ⊎ N)
              [ inl old ↦ inl (or_left (p x) (list_any p xs) old) | inr new ↦ inr new ]
          | inr later ↦ inl (or_right (p x) (list_any p xs) later)
        ]
    from (x ∷ xs) (suc i) f h = elim (or_case (p x) (list_any p (set xs i y)) h) as
        (λ _. (list_any p (x ∷ xs) ≡ true) ⊎ N) [
          | inl here ↦ inl (or_left (p x) (list_any p xs) here)
          | inr later ↦ elim (from xs i f later) as (λ _. (list_any p (x ∷ xs) ≡ true) ⊎ N)
              [ inl old ↦ inl (or_right (p x) (list_any p xs) old) | inr new ↦ inr new ]
        ]
