-- What holds of all items of a list, from a place on.
use Rattle.std.proofs.Common.{◌≡◌, ℕ, zero, suc, ◌+◌, ◌≤◌, List, [], ◌∷◌, refl, arith, sym, ap, ◌∙◌, length, drop, subst, Some}
use Rattle.std.specs.Prelude.{slice_get}
use Rattle.std.specs.List.{AllByRecursion}

-- all items are so exactly where those from a place on are
pub record AllRest {A : Type 0} (P : A → Type 0) (xs : List A) (i : ℕ) : Type 0 where
  pub down : AllByRecursion P xs → AllByRecursion P (drop i xs)
  pub up : AllByRecursion P (drop i xs) → AllByRecursion P xs

pub rest_first : {A : Type 0} (P : A → Type 0) (xs : List A) → AllRest P xs 0
rest_first P xs = record { down = λ h. h; up = λ h. h }

drop_at : {A : Type 0} (xs : List A) (i : ℕ) (x : A) → slice_get xs i ≡ Some x → drop i xs ≡ x ∷ drop (i + 1) xs
drop_at [] i x e = cc
drop_at (y ∷ xs) zero x e = let q : y ≡ x = cc in ap (λ z. z ∷ xs) q
drop_at (y ∷ xs) (suc i) x e = drop_at xs i x e ∙ ap (λ n. x ∷ drop n (y ∷ xs)) (next i)
  where
    next : (i : ℕ) → suc (i + 1) ≡ suc i + 1
    next i = omega arith

pub rest_more : {A : Type 0} (P : A → Type 0) (xs : List A) (i : ℕ) (x : A) → slice_get xs i ≡ Some x → P x → AllRest P xs i → AllRest P xs (i + 1)
rest_more P xs i x e p r = record {
  down = λ h. (subst (AllByRecursion P) (drop_at xs i x e) (r.down h)).1;
  up = λ h. r.up (subst (AllByRecursion P) (sym (drop_at xs i x e)) (p, h));
}

pub rest_not : {A : Type 0} (P : A → Type 0) (xs : List A) (i : ℕ) (x : A) → slice_get xs i ≡ Some x → (P x → ⊥) → AllRest P xs i → AllByRecursion P xs → ⊥
rest_not P xs i x e never r h = never (subst (AllByRecursion P) (drop_at xs i x e) (r.down h)).0

drop_end : {A : Type 0} (xs : List A) (i : ℕ) → length xs ≤ i → drop i xs ≡ []
drop_end [] zero l = refl
drop_end [] (suc i) l = refl
drop_end (x ∷ xs) zero l = absurd (omega (arith, l))
drop_end (x ∷ xs) (suc i) l = drop_end xs i (omega (arith, l))

pub rest_all : {A : Type 0} (P : A → Type 0) (xs : List A) (i : ℕ) → length xs ≤ i → AllRest P xs i → AllByRecursion P xs
rest_all P xs i l r = r.up (subst (AllByRecursion P) (sym (drop_end xs i l)) tt)
