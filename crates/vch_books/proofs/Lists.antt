-- Lists by task, and what a map makes of them.
use Rattle.std.proofs.Common.{◌≡◌, ℕ, zero, suc, ◌+◌, ◌<◌, ◌≤◌, Bool, List, [], ◌∷◌, ◌++◌, refl, true, false, arith, ap, ◌∙◌, length, map, get_or, replicate, take, reverse, Some, add-one, cond, subst}
use Rattle.std.specs.Prelude.{slice_get}
use Rattle.std.proofs.Math.ListN.{get_or-map, set}
use Rattle.std.proofs.Math.Seq.{map-set_same}
use Rattle.std.proofs.lemmas.List.{map-set, reverse-append}
use Rattle.std.specs.List.{AllByRecursion, filter}
use Rattle.vch_base.specs.Tasks.{at_task, set_task}

pub at_map : {A B : Type 0} (f : A → B) (xs : List A) (t : ℕ) (d : A) → at_task (map f xs) t (f d) ≡ f (at_task xs t d)
at_map f xs zero d = refl
at_map f xs (suc t) d = get_or-map f xs t d

pub map_set : {A B : Type 0} (f : A → B) (xs : List A) (t : ℕ) (x : A) → map f (set_task xs t x)
    ≡ set_task (map f xs) t (f x)
map_set f xs zero x = refl
map_set f xs (suc t) x = map-set f xs t x

-- an item is replaced by one of which the map makes the same
pub map_same : {A B : Type 0} (f : A → B) (xs : List A) (t : ℕ) (x d : A) → f x ≡ f (at_task xs t d)
    → map f (set_task xs t x) ≡ map f xs
map_same f xs zero x d e = refl
map_same f xs (suc t) x d e = map-set_same f xs t x d e

pub map_replicate : {A B C : Type 0} (f : A → B) (x : A) (y : B) (zs : List C) → f x ≡ y
    → map f (replicate (length zs) x) ≡ map (λ _. y) zs
map_replicate f x y [] e = refl
map_replicate f x y (z ∷ zs) e = rw (e, map_replicate f x y zs e) refl

-- what holds of each, and of the other item, holds of a task's
pub all_at : {A : Type 0} (P : A → Type 0) (xs : List A) (t : ℕ) (d : A) → P d → AllByRecursion P xs → P (at_task xs t d)
all_at P xs zero d none h = none
all_at P xs (suc t) d none h = from xs t h
  where
    from : (xs : List _) (i : ℕ) → AllByRecursion P xs → P (get_or xs i d)
    from [] i h = none
    from (x ∷ xs) zero h = h.0
    from (x ∷ xs) (suc i) h = from xs i h.1

pub all_set : {A : Type 0} (P : A → Type 0) (xs : List A) (t : ℕ) (x : A) → P x → AllByRecursion P xs
    → AllByRecursion P (set_task xs t x)
all_set P xs zero x p h = h
all_set P xs (suc t) x p h = from xs t h
  where
    from : (xs : List _) (i : ℕ) → AllByRecursion P xs → AllByRecursion P (set xs i x)
    from [] i h = h
    from (y ∷ xs) zero h = (p, h.1)
    from (y ∷ xs) (suc i) h = (h.0, from xs i h.1)

pub all_append : {A : Type 0} (P : A → Type 0) (xs : List A) (x : A) → AllByRecursion P xs → P x → AllByRecursion P (xs ++ x ∷ [])
all_append P [] x h p = (p, tt)
all_append P (y ∷ xs) x h p = (h.0, all_append P xs x h.1 p)

pub all_change : {A : Type 0} (P Q : A → Type 0) (xs : List A) → ((x : A) → P x → Q x) → AllByRecursion P xs → AllByRecursion Q xs
all_change P Q [] f h = tt
all_change P Q (x ∷ xs) f h = (f x h.0, all_change P Q xs f h.1)

pub all_replicate : {A : Type 0} (P : A → Type 0) (n : ℕ) (x : A) → P x → AllByRecursion P (replicate n x)
all_replicate P zero x p = tt
all_replicate P (suc n) x p = (p, all_replicate P n x p)

take_next : {A : Type 0} (xs : List A) (i : ℕ) (x : A) → slice_get xs i ≡ Some x → take (suc i) xs ≡ take i xs ++ x ∷ []
take_next [] i x e = absurd (cc)
take_next (y ∷ xs) zero x e = let s : y ≡ x = cc in rw s refl
take_next (y ∷ xs) (suc i) x e = ap (λ l. y ∷ l) (take_next xs i x e)

-- one entry more
pub take_one : {A : Type 0} (xs : List A) (i : ℕ) (x : A) → slice_get xs i ≡ Some x → take (i + 1) xs ≡ take i xs ++ x ∷ []
take_one xs i x e = ap (λ n. take n xs) (add-one i) ∙ take_next xs i x e

pub past_one : {A : Type 0} (xs : List A) (i : ℕ) (x : A) → slice_get xs i ≡ Some x → reverse (take (i + 1) xs) ≡ x ∷ reverse (take i xs)
past_one xs i x e = ap reverse (take_one xs i x e) ∙ reverse-append (take i xs) (x ∷ [])

pub inside_of : {A : Type 0} (xs : List A) (i : ℕ) (x : A) → slice_get xs i ≡ Some x → i < length xs
inside_of [] i x e = absurd (cc)
inside_of (y ∷ xs) zero x e = omega arith
inside_of (y ∷ xs) (suc i) x e = let l : i < length xs = inside_of xs i x e in omega (arith, l)

pub there_is : {A : Type 0} (xs : List A) (i : ℕ) → i < length xs → (x : A) × (slice_get xs i ≡ Some x)
there_is [] i l = absurd (omega arith)
there_is (y ∷ xs) zero l = (y, refl)
there_is (y ∷ xs) (suc i) l = there_is xs i (omega (arith, l))

pub item_of : {A : Type 0} (P : A → Type 0) (xs : List A) (i : ℕ) (x : A) → AllByRecursion P xs → slice_get xs i ≡ Some x → P x
item_of P [] i x h e = absurd (cc)
item_of P (y ∷ xs) zero x h e = let q : y ≡ x = cc in subst P q h.0
item_of P (y ∷ xs) (suc i) x h e = item_of P xs i x h.1 e

pub all_pass : {A : Type 0} (p : A → Bool) (xs : List A) → AllByRecursion (λ x. p x ≡ true) (filter p xs)
all_pass p [] = tt
all_pass p (x ∷ xs) = by (p x) refl (all_pass p xs)
  where
    by : (b : Bool) → p x ≡ b → AllByRecursion (λ x. p x ≡ true) (filter p xs) → AllByRecursion (λ x. p x ≡ true) (cond b (x ∷ filter p xs) (filter p xs))
    by true e h = (e, h)
    by false e h = h

pub filter_few : {A : Type 0} (f : A → Bool) (xs : List A) → length (filter f xs) ≤ length xs
filter_few f [] = omega arith
filter_few f (x ∷ xs) = by (f x) (filter_few f xs)
  where
    by : (b : Bool) → length (filter f xs) ≤ length xs → length (cond b (x ∷ filter f xs) (filter f xs)) ≤ suc (length xs)
    by true h = omega (arith, h)
    by false h = omega (arith, h)
