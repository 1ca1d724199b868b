-- What a step of reading finds is so: a fact of the value, and nothing where there is none.
use Rattle.std.proofs.Common.{◌≡◌, ℕ, Bool, true, false, cond, eqb, List, [], ◌∷◌, ◌&&◌, Option, Some, None, refl, arith}
use Rattle.std.proofs.lemmas.Grind.{common_steps}
use Rattle.std.specs.Cmp.Lexicographic.{pointwise}
use Rattle.vch_text.specs.Reading.{◌>>=◌}
use Rattle.vch_text.specs.Words.{is_word}

abbrev pub Told : {X : Type 0} → (X → Type 0) → Option X → Type 0
Told R (Some x) = R x
Told R None = Unit {0}

pub told_bind : {X Y : Type 0} (R : X → Type 0) (S : Y → Type 0) (r : Option X) (f : X → Option Y) → Told R r → ((x : X) → R x → Told S (f x)) → Told S (r >>= f)
told_bind R S (Some x) f h g = g x h
told_bind R S None f h g = tt

pub told_test : {X : Type 0} (R : X → Type 0) (b : Bool) (r s : Option X) → (b ≡ true → Told R r) → (b ≡ false → Told R s) → Told R (cond b r s)
told_test R true r s g h = g refl
told_test R false r s g h = h refl

pub told_map : {X : Type 0} (R S : X → Type 0) (r : Option X) → ((x : X) → R x → S x) → Told R r → Told S r
told_map R S (Some x) g h = g x h
told_map R S None g h = tt

-- ---- a word that is a text

pub both : (b c : Bool) → b && c ≡ true → (b ≡ true) × (c ≡ true)
both true c e = (refl, e)
both false c e = absurd cc

same_text : (xs ys : List ℕ) → pointwise eqb xs ys ≡ true → xs ≡ ys
same_text [] [] e = refl
same_text [] (y ∷ ys) e = absurd cc
same_text (x ∷ xs) [] e = absurd cc
same_text (x ∷ xs) (y ∷ ys) e =
    let b = both (eqb x y) (pointwise eqb xs ys) e in
    let h : x ≡ y = let t = b.0 in grind (arith, common_steps) in
    let t = same_text xs ys b.1 in cc

pub word_true : (w t : List ℕ) → is_word w t ≡ true → w ≡ t
unfolding is_word
word_true w t e = same_text w t e

text_same : (xs : List ℕ) → pointwise eqb xs xs ≡ true
text_same [] = refl
text_same (x ∷ xs) = let same : eqb x x ≡ true = grind (arith, common_steps) in rw (same, text_same xs) refl

pub word_same : (w t : List ℕ) → w ≡ t → is_word w t ≡ true
unfolding is_word
word_same w t e = rw e (text_same t)

by_bool : (b : Bool) → (b ≡ true → ⊥) → b ≡ false
by_bool true not_true = absurd (not_true refl)
by_bool false not_true = refl

pub word_false : (w t : List ℕ) → (w ≡ t → ⊥) → is_word w t ≡ false
word_false w t differ = by_bool (is_word w t) (λ e. differ (word_true w t e))
