-- A word that spells a number below a top, both ways.
use Rattle.std.proofs.Common.{◌≡◌, ℕ, ◌^◌, ◌<◌, ◌≤◌, min, cond, ltb, List, Option, Some, None, refl, ap, ◌∙◌, arith}
use Rattle.std.proofs.lemmas.Grind.{common_steps}
use Rattle.std.proofs.lemmas.Bool.{lt-ltb}
use Rattle.std.specs.Fmt.{decimal}
use Rattle.vch_text.specs.Numbers.{number_of}
use Rattle.vch_text.proofs.CallerLemmas.{Told, told_bind, told_test, IsRead, number_told, number_again, numeral_decimal, numeral_is}
use Rattle.vch_report.specs.Numerals.{below, ordinal}
use Rattle.vch_model.specs.WellFormed.{IsNumber}

-- the word spells this number, which is below the top
pub record IsBelow (top : ℕ) (w : List ℕ) (n : ℕ) : Type 0 where
  pub word : w ≡ decimal n
  pub small : n < top

read_below : (top : ℕ) (w : List ℕ) (n : ℕ) → top ≤ 10 ^ 64 → IsRead top w n → n < top → IsBelow top w n
read_below top w n few r lt =
    let e : r.number ≡ n = omega (arith, r.read) in
    record { word = numeral_decimal w r.number r.spelled (omega arith) ∙ ap (λ (k : ℕ). decimal k) e; small = lt }

pub below_told : (top : ℕ) (w : List ℕ) → top ≤ 10 ^ 64 → Told (λ n. IsBelow top w n) (below top w)
unfolding below
below_told top w few =
    told_bind (λ k. IsRead top w k) (λ n. IsBelow top w n) (number_of top w)
    (λ n. cond (ltb n top) (Some n) None) (number_told top w)
    (λ n r. told_test (λ m. IsBelow top w m) (ltb n top) (Some n) None (λ t. let lt : n < top = grind (
      arith,
      common_steps,
    ) in read_below top w n few r lt) (λ f. tt))

pub below_again : (top : ℕ) (w : List ℕ) (n : ℕ) → top ≤ 10 ^ 64 → n < top → w ≡ decimal n → below top w ≡ Some n
unfolding below
below_again top w n few lt e =
    let same : min n top ≡ n = omega arith in
    rw (number_again top w n (numeral_is w n (omega arith) e), same, lt-ltb n top lt) refl

none_by : (top : ℕ) (w : List ℕ) (r : Option ℕ) → Told (λ n. IsBelow top w n) r → ((n : ℕ) → n < top → w ≡ decimal n
    → ⊥) → r ≡ None
none_by top w (Some n) t never = absurd (never n t.small t.word)
none_by top w None t never = refl

pub below_none : (top : ℕ) (w : List ℕ) → top ≤ 10 ^ 64 → ((n : ℕ) → n < top → w ≡ decimal n → ⊥) → below top w ≡ None
below_none top w few never = none_by top w (below top w) (below_told top w few) never

-- ---- what is numbered from 1

pub record IsOrdinal (w : List ℕ) (n : ℕ) : Type 0 where
  pub word : w ≡ decimal n
  pub number : IsNumber n

pub ordinal_told : (w : List ℕ) → Told (λ n. IsOrdinal w n) (ordinal w)
unfolding ordinal
ordinal_told w =
    told_bind (λ n. IsBelow (2 ^ 32) w n) (λ n. IsOrdinal w n) (below (2 ^ 32) w)
    (λ n. cond (ltb 0 n) (Some n) None) (below_told (2 ^ 32) w (omega arith))
    (λ n b. told_test (λ m. IsOrdinal w m) (ltb 0 n) (Some n) None (λ t. let lt : 0 < n = grind (
      arith,
      common_steps,
    ) in record { word = b.word; number = (omega arith, b.small) }) (λ f. tt))

pub ordinal_again : (w : List ℕ) (n : ℕ) → IsNumber n → w ≡ decimal n → ordinal w ≡ Some n
unfolding ordinal
ordinal_again w n h e =
    let some = h.0 in
    let lt : 0 < n = omega arith in
    rw (below_again (2 ^ 32) w n (omega arith) h.1 e, lt-ltb 0 n lt) refl
