-- What a crate above may cite: counts that were added and sets that were united, slot by slot.
use Rattle.std.proofs.Common.{◌≡◌, ℕ, zero, suc, ◌+◌, Bool, true, false, ◌||◌, List, [], ◌∷◌, get_or, length, sym, refl, ap, arith}
use Rattle.vch_made.specs.SeatSteps.{slot_by_slot, counts_added, marks_united}

module _ {A : Type 0} (f : A → A → A) where
  slots-at : (d : A) → ((x : A) → f d x ≡ x) → ((x : A) → f x d ≡ x) → (xs ys : List A) (j : ℕ) → get_or (slot_by_slot f xs ys) j d ≡ f (get_or xs j d) (get_or ys j d)
  slots-at d left right [] ys j = sym (left (get_or ys j d))
  slots-at d left right (x ∷ xs) [] j = sym (right (get_or (x ∷ xs) j d))
  slots-at d left right (x ∷ xs) (y ∷ ys) zero = refl
  slots-at d left right (x ∷ xs) (y ∷ ys) (suc j) = slots-at d left right xs ys j

  length-slots : (xs ys : List A) → length xs ≡ length ys → length (slot_by_slot f xs ys) ≡ length xs
  length-slots [] ys e = sym e
  length-slots (x ∷ xs) [] e = refl
  length-slots (x ∷ xs) (y ∷ ys) e =
      let h : length xs ≡ length ys = omega arith in
      ap suc (length-slots xs ys h)

or_false : (b : Bool) → b || false ≡ b
or_false true = refl
or_false false = refl

pub added-at : (xs ys : List ℕ) (j : ℕ) → get_or (counts_added xs ys) j 0 ≡ get_or xs j 0 + get_or ys j 0
added-at = slots-at (λ (x : ℕ) (y : ℕ). x + y) 0 (λ x. omega arith) (λ x. omega arith)

pub length-added : (xs ys : List ℕ) → length xs ≡ length ys → length (counts_added xs ys) ≡ length xs
length-added = length-slots (λ (x : ℕ) (y : ℕ). x + y)

pub united-at : (xs ys : List Bool) (j : ℕ) → get_or (marks_united xs ys) j false ≡ (get_or xs j false || get_or ys j false)
united-at = slots-at (λ (x : Bool) (y : Bool). x || y) false (λ x. refl) or_false

pub length-united : (xs ys : List Bool) → length xs ≡ length ys → length (marks_united xs ys) ≡ length xs
length-united = length-slots (λ (x : Bool) (y : Bool). x || y)
