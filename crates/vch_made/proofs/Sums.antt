-- Sums over all views where one or two of them change, and lists that are read at a place.
use Rattle.std.proofs.Common.{◌≡◌, ◌≢◌, ℕ, zero, suc, ◌+◌, ◌<◌, ◌≤◌, Bool, true, false, ◌||◌, List, [], ◌∷◌, get_or, set, sum, sum_by, length, replicate, sym, refl, ap, ◌∙◌, subst, arith, lt_of_not-le}
use Rattle.std.proofs.lemmas.List.{get_or_past}
use Rattle.std.proofs.lemmas.List.Sums.{sum_by-cons, sum_by-set, get_or-le-sum_by}
use mathlib.Core.Logic.{dite}
use mathlib.Core.Option.{some, some-injective, some-ne-none}
use native.Mathlib.Decide.{dec_le}
use lib.ListN.{get_elem?}
use Rattle.vch_made.specs.SeatSteps.{counts_added}
use Rattle.vch_made.specs.Counting.{bit}

module _ {X : Type 0} where
  pub at_get : (l : List X) (i : ℕ) (v : X) → get_elem? l i ≡ some v → (i < length l) × (get_or l i v ≡ v)
  at_get [] i v e = absurd (some-ne-none v (sym e))
  at_get (x ∷ xs) zero v e = (omega arith, some-injective x v e)
  at_get (x ∷ xs) (suc i) v e = let r = at_get xs i v e in let h = r.0 in (omega arith, r.1)

  -- one view changes
  pub sum-set : (f : X → ℕ) (l : List X) (i : ℕ) (v w : X) → get_elem? l i ≡ some v → sum_by f (set l i w) + f v ≡ sum_by f l + f w
  sum-set f l i v w at = let there = at_get l i v at in ap (λ x. sum_by f (set l i w) + f x) (sym there.1) ∙ sum_by-set f l i w v there.0

  pub sum-at : (f : X → ℕ) (l : List X) (i : ℕ) (v : X) → get_elem? l i ≡ some v → f v ≤ sum_by f l
  sum-at f l i v at = let there = at_get l i v at in subst (λ x. f x ≤ sum_by f l) there.1 (get_or-le-sum_by f l i v there.0)

  pub sum-two : (f : X → ℕ) (l : List X) (i j : ℕ) (v w : X) → get_elem? l i ≡ some v → j ≢ i → get_elem? l j ≡ some w → f v + f w ≤ sum_by f l
  sum-two f [] i j v w at apart there = absurd (some-ne-none v (sym at))
  sum-two f (x ∷ xs) zero zero v w at apart there = absurd (apart refl)
  sum-two f (x ∷ xs) zero (suc j) v w at apart there =
      let e : f x ≡ f v = ap f (some-injective x v at) in
      let r = sum-at f xs j w there in
      let a = sum_by-cons f x xs in omega arith
  sum-two f (x ∷ xs) (suc i) zero v w at apart there =
      let e : f x ≡ f w = ap f (some-injective x w there) in
      let r = sum-at f xs i v at in
      let a = sum_by-cons f x xs in omega arith
  sum-two f (x ∷ xs) (suc i) (suc j) v w at apart there =
      let r = sum-two f xs i j v w at (λ e. apart (ap suc e)) there in
      let a = sum_by-cons f x xs in omega arith

  -- a sum below another, view by view
  pub sum-below : (f g : X → ℕ) (l : List X) → ((i : ℕ) (v : X) → get_elem? l i ≡ some v → f v ≤ g v) → sum_by f l ≤ sum_by g l
  sum-below f g [] h = omega arith
  sum-below f g (x ∷ xs) h =
      let r = sum-below f g xs (λ i v e. h (suc i) v e) in
      let here = h zero x refl in
      let a = sum_by-cons f x xs in
      let b = sum_by-cons g x xs in omega arith

  -- where f is at most g everywhere, what g leaves beside one view bounds what f leaves there
  pub sum-beside : (f g : X → ℕ) (l : List X) → ((i : ℕ) (v : X) → get_elem? l i ≡ some v → f v ≤ g v) → (i : ℕ) (v : X) → get_elem? l i ≡ some v → sum_by f l + g v ≤ sum_by g l + f v
  sum-beside f g [] h i v at = absurd (some-ne-none v (sym at))
  sum-beside f g (x ∷ xs) h zero v at =
      let r = sum-below f g xs (λ i v e. h (suc i) v e) in
      let a = sum_by-cons f x xs in
      let b = sum_by-cons g x xs in
      let same_f : f x ≡ f v = ap f (some-injective x v at) in
      let same_g : g x ≡ g v = ap g (some-injective x v at) in omega arith
  sum-beside f g (x ∷ xs) h (suc i) v at =
      let r = sum-beside f g xs (λ i v e. h (suc i) v e) i v at in
      let here = h zero x refl in
      let a = sum_by-cons f x xs in
      let b = sum_by-cons g x xs in omega arith

  pub all_same : (n j : ℕ) (a : X) → get_or (replicate n a) j a ≡ a
  all_same zero j a = refl
  all_same (suc n) zero a = refl
  all_same (suc n) (suc j) a = all_same n j a

pub at-le-sum : (xs : List ℕ) (j : ℕ) → get_or xs j 0 ≤ sum xs
at-le-sum xs j = dite (dec_le (length xs) j) (λ past. let e = get_or_past xs j 0 past in omega arith) (λ inside. get_or-le-sum_by (λ x. x) xs j 0 (lt_of_not-le inside))

pub sum_of_zeros : (n : ℕ) → sum (replicate n 0) ≡ 0
sum_of_zeros zero = refl
sum_of_zeros (suc n) = let r = sum_of_zeros n in let a = sum_by-cons (λ (x : ℕ). x) 0 (replicate n 0) in omega arith

-- counts that are added
pub sum-added : (xs ys : List ℕ) → sum (counts_added xs ys) ≡ sum xs + sum ys
sum-added [] ys = omega arith
sum-added (x ∷ xs) [] = omega arith
sum-added (x ∷ xs) (y ∷ ys) =
    let r = sum-added xs ys in
    let a = sum_by-cons (λ (x : ℕ). x) x xs in
    let b = sum_by-cons (λ (x : ℕ). x) y ys in
    let c = sum_by-cons (λ (x : ℕ). x) (x + y) (counts_added xs ys) in omega arith

pub bit-or-le : (a b : Bool) → bit (a || b) ≤ bit a + bit b
bit-or-le true b = omega arith
bit-or-le false b = omega arith

pub bit-or-one : (a b : Bool) → bit a + bit b ≤ 1 → bit (a || b) ≡ bit a + bit b
bit-or-one true true h = absurd (omega arith)
bit-or-one true false h = refl
bit-or-one false b h = omega arith

pub bit_none : (b : Bool) → bit b ≡ 0 → b ≡ false
bit_none true e = absurd (omega arith)
bit_none false e = refl

pub bit_one : (b : Bool) → 1 ≤ bit b → b ≡ true
bit_one true h = refl
bit_one false h = absurd (omega arith)
