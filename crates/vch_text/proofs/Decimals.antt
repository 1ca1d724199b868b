-- A numeral is the decimal of its number, also above 64 bits.
use Rattle.std.proofs.Common.{◌≡◌, ◌≢◌, ℕ, zero, suc, ◌+◌, ◌-◌, ◌*◌, ◌/◌, ◌%◌, ◌^◌, ◌<◌, ◌≤◌, List, [], ◌∷◌, ◌++◌, length, get_or, refl, sym, ap, subst, ◌∙◌, arith, length-append}
use Rattle.std.proofs.lemmas.Fmt.{decimal_digit, decimal_step_wide, decimal_by_steps_wide}
use Rattle.std.proofs.Math.ListN.{get_or-append}
use Rattle.std.specs.Fmt.{decimal}
use Rattle.vch_model.specs.Grammar.{IsDecimal, value_after, IsNumeral}

-- the last of a list
pub record Ends {X : Type 0} (xs : List X) : Type 0 where
  pub front : List X
  pub last : X
  pub whole : xs ≡ front ++ last ∷ []

pub ends : {X : Type 0} (xs : List X) → 1 ≤ length xs → Ends xs
ends [] some = absurd (omega arith)
ends (x ∷ []) some = record { front = []; last = x; whole = refl }
ends (x ∷ y ∷ xs) some = let e = ends (y ∷ xs) (omega arith) in record { front = x ∷ e.front; last = e.last; whole = ap (λ l. x ∷ l) e.whole }

value_push : (n : ℕ) (w : List ℕ) (c : ℕ) → value_after n (w ++ c ∷ []) ≡ value_after n w * 10 + (c - 48)
value_push n [] c = refl
value_push n (d ∷ w) c = value_push (n * 10 + (d - 48)) w c

value_ge : (n : ℕ) (w : List ℕ) → n ≤ value_after n w
value_ge n [] = omega arith
value_ge n (c ∷ w) = omega (arith, value_ge (n * 10 + (c - 48)) w)

decimal_front : (w : List ℕ) (c : ℕ) → IsDecimal (w ++ c ∷ []) → IsDecimal w × (48 ≤ c) × (c ≤ 57)
decimal_front [] c h = (tt, h.0, h.1)
decimal_front (d ∷ w) c h = let r = decimal_front w c h.2 in ((h.0, h.1, r.0), r.1, r.2)

some_value : (w : List ℕ) → IsDecimal w → 0 < length w → get_or w 0 0 ≢ 48 → 1 ≤ value_after 0 w
some_value [] h some first = absurd (omega arith)
some_value (c ∷ w) h some first = omega (arith, h.0, first, value_ge (0 * 10 + (c - 48)) w)

step_back : (u c : ℕ) → 48 ≤ c → c ≤ 57 → 1 ≤ u → u * 10 + (c - 48) < 10 ^ 64 → decimal (u * 10 + (c - 48)) ≡ decimal u ++ c ∷ []
step_back u c low high some lt =
    let q : (u * 10 + (c - 48)) / 10 ≡ u = omega arith in
    let r : 48 + (u * 10 + (c - 48)) % 10 ≡ c = omega arith in
    decimal_step_wide (u * 10 + (c - 48)) (omega arith) lt ∙ ap (λ (k : ℕ). decimal k ++ (48 + (u * 10 + (c - 48)) % 10) ∷ []) q ∙ ap (λ (k : ℕ). decimal u ++ k ∷ []) r

abbrev Fits : List ℕ → Type 0
Fits w = IsDecimal w × (get_or w 0 0 ≡ 48 → length w ≡ 1) × (value_after 0 w < 10 ^ 64)

longer : (k : ℕ) (w f : List ℕ) (c : ℕ) → w ≡ f ++ c ∷ [] → length w ≡ suc (suc k) → Fits w → ((v : List ℕ) → length v ≡ suc k → Fits v → decimal (value_after 0 v) ≡ v) → decimal (value_after 0 w) ≡ w
longer k w f c e l h rec =
    let parts = decimal_front f c (subst (λ (x : List ℕ). IsDecimal x) e h.0) in
    let len : length f ≡ suc k = omega (arith, ap length e, length-append f (c ∷ [])) in
    let value : value_after 0 w ≡ value_after 0 f * 10 + (c - 48) = ap (λ (x : List ℕ). value_after 0 x) e ∙ value_push 0 f c in
    let head : get_or w 0 0 ≡ get_or f 0 0 = ap (λ (x : List ℕ). get_or x 0 0) e ∙ get_or-append f (c ∷ []) 0 0 (omega arith) in
    let first : get_or f 0 0 ≢ 48 = λ z. omega (arith, h.1 (head ∙ z)) in
    let lt : value_after 0 w < 10 ^ 64 = h.2 in
    let again = rec f len (parts.0, λ z. absurd (first z), omega arith) in
    let some = some_value f parts.0 (omega arith) first in
    ap (λ (x : ℕ). decimal x) value ∙ step_back (value_after 0 f) c parts.1 parts.2 some (omega arith) ∙ ap (λ x. x ++ c ∷ []) again ∙ sym e

by_length : (k : ℕ) (w : List ℕ) → length w ≡ suc k → Fits w → decimal (value_after 0 w) ≡ w
by_length zero [] l h = absurd cc
by_length zero (c ∷ []) l h =
    let low = h.0.0 in
    let high = h.0.1 in
    let e : 48 + (0 * 10 + (c - 48)) ≡ c = omega arith in
    decimal_digit (0 * 10 + (c - 48)) (omega arith) ∙ ap (λ (x : ℕ). x ∷ []) e
by_length zero (c ∷ d ∷ w) l h = absurd (omega arith)
by_length (suc k) w l h = let e = ends w (omega arith) in longer k w e.front e.last e.whole l h (λ v m f. by_length k v m f)

pub numeral_decimal : (w : List ℕ) (n : ℕ) → IsNumeral w n → n < 10 ^ 64 → w ≡ decimal n
numeral_decimal w n h lt =
    let some = h.some in
    sym (by_length (length w - 1) w (omega arith) (h.digits, h.plain, subst (λ (x : ℕ). x < 10 ^ 64) (sym h.value) lt)) ∙ ap (λ (x : ℕ). decimal x) h.value

-- ---- the decimal of a number is its numeral

decimal_push : (w : List ℕ) (c : ℕ) → IsDecimal w → 48 ≤ c → c ≤ 57 → IsDecimal (w ++ c ∷ [])
decimal_push [] c h low high = (low, high, tt)
decimal_push (d ∷ w) c h low high = (h.0, h.1, decimal_push w c h.2 low high)

-- a numeral, and 0 alone begins with a zero
record Told (n : ℕ) (w : List ℕ) : Type 0 where
  digits : IsDecimal w
  some : 0 < length w
  zero : get_or w 0 0 ≡ 48 → n ≡ 0
  plain : get_or w 0 0 ≡ 48 → length w ≡ 1
  value : value_after 0 w ≡ n

told_digit : (n : ℕ) → n < 10 → Told n ((48 + n) ∷ [])
told_digit n lt = record { digits = (omega arith, omega arith, tt); some = omega arith; zero = λ e. omega arith; plain = λ e. refl; value = omega arith }

told_more : (n : ℕ) (ds : List ℕ) → 10 ≤ n → Told (n / 10) ds → Told n (ds ++ (48 + n % 10) ∷ [])
told_more n ds ge t =
    let c = 48 + n % 10 in
    let some = t.some in
    let head : get_or (ds ++ c ∷ []) 0 0 ≡ get_or ds 0 0 = get_or-append ds (c ∷ []) 0 0 some in
    let never : get_or (ds ++ c ∷ []) 0 0 ≡ 48 → ⊥ = λ e. omega (arith, t.zero (sym head ∙ e)) in
    record {
      digits = decimal_push ds c t.digits (omega arith) (omega arith);
      some = omega (arith, length-append ds (c ∷ []));
      zero = λ e. absurd (never e);
      plain = λ e. absurd (never e);
      value = value_push 0 ds c ∙ omega (arith, t.value);
    }

pub decimal_numeral : (n : ℕ) → n < 10 ^ 64 → IsNumeral (decimal n) n
decimal_numeral n lt =
    let t = decimal_by_steps_wide Told told_digit told_more n lt in
    record { digits = t.digits; some = t.some; plain = t.plain; value = t.value }

pub numeral_is : (w : List ℕ) (n : ℕ) → n < 10 ^ 64 → w ≡ decimal n → IsNumeral w n
numeral_is w n lt e = subst (λ (x : List ℕ). IsNumeral x n) (sym e) (decimal_numeral n lt)
