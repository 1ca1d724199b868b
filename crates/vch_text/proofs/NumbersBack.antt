-- A word that spells a number, both ways.
use Rattle.std.proofs.Common.{◌≡◌, ℕ, ◌+◌, ◌-◌, ◌*◌, ◌≤◌, min, true, false, eqb, List, [], ◌∷◌, length, Option, Some, None, refl, ap, ◌∙◌, arith, inl, inr}
use Rattle.std.proofs.lemmas.Grind.{common_steps}
use Rattle.std.specs.Char.{is_ascii_digit}
use Rattle.std.proofs.lemmas.Bool.{cases_eq}
use Rattle.vch_text.specs.Reading.{◌>>=◌}
use Rattle.vch_text.specs.Words.{word_at, end_of}
use Rattle.vch_text.specs.Numbers.{number_after, number_of, number_at, one_of, two_of}
use Rattle.vch_model.specs.Grammar.{Number, IsDecimal, value_after, IsNumeral, StartsWithLine, AreSpelled}
use Rattle.vch_text.proofs.Told.{Told, told_bind, told_test, told_map}
use Rattle.vch_text.proofs.WordsBack.{word_told, word_again, end_told, end_again, Follows, spelled_follows}

abbrev counted : ℕ → Option ℕ
counted n = Some n

not_zero : (c : ℕ) → c ≡ 48 → eqb c 48 ≡ false → ⊥
not_zero c e f = let yes : eqb c 48 ≡ true = grind (arith, common_steps) in cc

first_other : (c d : ℕ) (cs : List ℕ) → (c ≡ 48 → length (c ∷ d ∷ cs) ≡ 1) → eqb c 48 ≡ false
first_other c d cs plain =
    elim (cases_eq c 48) [
      | inl e ↦ absurd (omega (arith, plain e))
      | inr ne ↦ grind (arith, common_steps)
    ]

digit_is : (c : ℕ) → is_ascii_digit c ≡ true → (48 ≤ c) × (c ≤ 57)
digit_is c e = (grind (arith, common_steps), grind (arith, common_steps))

digit_same : (c : ℕ) → 48 ≤ c → c ≤ 57 → is_ascii_digit c ≡ true
digit_same c low high = grind (arith, common_steps)

capped : (top n c : ℕ) → min (min n top * 10 + (c - 48)) top ≡ min (n * 10 + (c - 48)) top
capped top n c = omega arith

-- the digits, and the number that they spell behind n
abbrev Counted : ℕ → ℕ → List ℕ → ℕ → Type 0
Counted top n w k = IsDecimal w × (k ≡ min (value_after n w) top)

number_counts : (top n : ℕ) (w : List ℕ) → Told (λ k. Counted top n w k) (number_after top (min n top) w)
unfolding number_after
number_counts top n [] = (tt, refl)
number_counts top n (c ∷ cs) =
    told_test (λ k. Counted top n (c ∷ cs) k) (is_ascii_digit c) (number_after top (min (min n top * 10 + (c - 48)) top) cs) None
    (λ t. let d = digit_is c t in
    let next : Told (λ k. Counted top n (c ∷ cs) k) (number_after top (min (n * 10 + (c - 48)) top) cs) = told_map (λ k. Counted top (n * 10 + (c - 48)) cs k) (λ k. Counted top n (c ∷ cs) k) (number_after top (min (n * 10 + (c - 48)) top) cs) (λ k h. ((d.0, d.1, h.0), h.1)) (number_counts top (n * 10 + (c - 48)) cs) in
    rw (capped top n c) next) (λ f. tt)

counted_from_zero : (top : ℕ) (w : List ℕ) → Told (λ k. Counted top 0 w k) (number_after top 0 w)
counted_from_zero top w = let e : min 0 top ≡ 0 = omega arith in rw e at (number_counts top 0 w)

number_count_again : (top n : ℕ) (w : List ℕ) → IsDecimal w → number_after top (min n top) w ≡ Some (min (value_after n w) top)
unfolding number_after
number_count_again top n [] h = refl
number_count_again top n (c ∷ cs) h = rw (digit_same c h.0 h.1, capped top n c) (number_count_again top (n * 10 + (c - 48)) cs h.2)

again_from_zero : (top : ℕ) (w : List ℕ) → IsDecimal w → number_after top 0 w ≡ Some (min (value_after 0 w) top)
again_from_zero top w h = let e : min 0 top ≡ 0 = omega arith in rw e at (number_count_again top 0 w h)

-- a number as it is read: of any size, or the top
pub record IsRead (top : ℕ) (w : List ℕ) (k : ℕ) : Type 0 where
  pub number : ℕ
  pub spelled : IsNumeral w number
  pub read : k ≡ min number top

pub number_told : (top : ℕ) (w : List ℕ) → Told (λ k. IsRead top w k) (number_of top w)
unfolding number_of
number_told top [] = tt
number_told top (c ∷ []) =
    told_map (λ k. Counted top 0 (c ∷ []) k) (λ k. IsRead top (c ∷ []) k) (number_after top 0 (c ∷ []))
    (λ k h. record { number = value_after 0 (c ∷ []); spelled = record { digits = h.0; some = omega arith; plain = λ z. refl; value = refl }; read = h.1 }) (counted_from_zero top (c ∷ []))
number_told top (c ∷ d ∷ cs) =
    told_test (λ k. IsRead top (c ∷ d ∷ cs) k) (eqb c 48) None (number_after top 0 (c ∷ d ∷ cs)) (λ t. tt)
    (λ f. told_map (λ k. Counted top 0 (c ∷ d ∷ cs) k) (λ k. IsRead top (c ∷ d ∷ cs) k) (number_after top 0 (c ∷ d ∷ cs))
    (λ k h. record { number = value_after 0 (c ∷ d ∷ cs); spelled = record { digits = h.0; some = omega arith; plain = λ z. absurd (not_zero c z f); value = refl }; read = h.1 }) (counted_from_zero top (c ∷ d ∷ cs)))

pub number_again : (top : ℕ) (w : List ℕ) (n : ℕ) → IsNumeral w n → number_of top w ≡ Some (min n top)
unfolding number_of
number_again top [] n h = absurd (omega (arith, h.some))
number_again top (c ∷ []) n h = again_from_zero top (c ∷ []) h.digits ∙ ap (λ (k : ℕ). counted (min k top)) h.value
number_again top (c ∷ d ∷ cs) n h =
    let differ : eqb c 48 ≡ false = first_other c d cs h.plain in
    rw differ (again_from_zero top (c ∷ d ∷ cs) h.digits ∙ ap (λ (k : ℕ). counted (min k top)) h.value)

-- a number and what is left
pub record NumberAt (top : ℕ) (rest : List ℕ) (k : ℕ) (more : List ℕ) : Type 0 where
  pub word : List ℕ
  pub begins : StartsWithLine rest word more
  pub is : IsRead top word k

pub number_at_told : (top : ℕ) (rest : List ℕ) → Told (λ x. NumberAt top rest x.0 x.1) (number_at top rest)
unfolding number_at
number_at_told top rest =
    told_bind (λ x. StartsWithLine rest x.0 x.1) (λ x. NumberAt top rest x.0 x.1) (word_at rest) (λ w. number_of top w.0 >>= λ n. Some (n, w.1)) (word_told rest)
    (λ w h. told_bind (λ k. IsRead top w.0 k) (λ x. NumberAt top rest x.0 x.1) (number_of top w.0) (λ n. Some (n, w.1)) (number_told top w.0) (λ n r. record { word = w.0; begins = h; is = r }))

pub number_at_again : (top : ℕ) (rest w more : List ℕ) (n : ℕ) → StartsWithLine rest w more → IsNumeral w n → Follows more → number_at top rest ≡ Some (min n top, more)
unfolding number_at
number_at_again top rest w more n b h f = rw (word_again rest w more b f, number_again top w n h) refl

-- ---- one number, two numbers

pub record OneRead (top : ℕ) (rest : List ℕ) (k : ℕ) : Type 0 where
  pub n : ℕ
  pub read : k ≡ min n top
  pub spelled : AreSpelled rest (Number n ∷ [])

pub one_told : (top : ℕ) (rest : List ℕ) → Told (λ k. OneRead top rest k) (one_of top rest)
unfolding one_of
one_told top rest =
    told_bind (λ x. NumberAt top rest x.0 x.1) (λ k. OneRead top rest k) (number_at top rest) (λ a. end_of a.1 >>= λ u. Some a.0) (number_at_told top rest)
    (λ a h. told_bind (λ u. a.1 ≡ []) (λ k. OneRead top rest k) (end_of a.1) (λ u. Some a.0) (end_told a.1)
    (λ u e. record { n = h.is.number; read = h.is.read; spelled = (h.word, a.1, h.begins, h.is.spelled, e) }))

pub one_again : (top : ℕ) (rest : List ℕ) (n : ℕ) → AreSpelled rest (Number n ∷ []) → one_of top rest ≡ Some (min n top)
unfolding one_of
one_again top rest n h =
    rw (number_at_again top rest h.0 h.1 n h.2 h.3 (spelled_follows h.1 [] h.4), end_again h.1 h.4) refl

pub record TwoRead (top : ℕ) (rest : List ℕ) (k : ℕ) (l : ℕ) : Type 0 where
  pub n : ℕ
  pub m : ℕ
  pub first : k ≡ min n top
  pub second : l ≡ min m top
  pub spelled : AreSpelled rest (Number n ∷ Number m ∷ [])

pub two_told : (top : ℕ) (rest : List ℕ) → Told (λ x. TwoRead top rest x.0 x.1) (two_of top rest)
unfolding two_of
two_told top rest =
    told_bind (λ x. NumberAt top rest x.0 x.1) (λ x. TwoRead top rest x.0 x.1) (number_at top rest) (λ a. number_at top a.1 >>= λ b. end_of b.1 >>= λ u. Some (a.0, b.0)) (number_at_told top rest)
    (λ a h. told_bind (λ x. NumberAt top a.1 x.0 x.1) (λ x. TwoRead top rest x.0 x.1) (number_at top a.1) (λ b. end_of b.1 >>= λ u. Some (a.0, b.0)) (number_at_told top a.1)
    (λ b g. told_bind (λ u. b.1 ≡ []) (λ x. TwoRead top rest x.0 x.1) (end_of b.1) (λ u. Some (a.0, b.0)) (end_told b.1)
    (λ u e. record { n = h.is.number; m = g.is.number; first = h.is.read; second = g.is.read; spelled = (h.word, a.1, h.begins, h.is.spelled, (g.word, b.1, g.begins, g.is.spelled, e)) })))

pub two_again : (top : ℕ) (rest : List ℕ) (n m : ℕ) → AreSpelled rest (Number n ∷ Number m ∷ []) → two_of top rest ≡ Some (min n top, min m top)
unfolding two_of
two_again top rest n m h =
    let g = h.4 in
    rw (number_at_again top rest h.0 h.1 n h.2 h.3 (spelled_follows h.1 (Number m ∷ []) g), number_at_again top h.1 g.0 g.1 m g.2 g.3 (spelled_follows g.1 [] g.4), end_again g.1 g.4) refl
