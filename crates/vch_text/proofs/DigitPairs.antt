-- The table of digits is right at each byte, and what two digits spell.
use Rattle.std.proofs.Common.{◌≡◌, ℕ, zero, suc, ◌+◌, ◌*◌, ◌<◌, ◌≤◌, ◌⊎◌, Bool, true, ◌&&◌, eqb, ltb, List, Option, Some, None, Result, Ok, Err, get_or, refl, arith, inl, inr}
use Rattle.std.proofs.lemmas.Bool.{cases_eq}
use Rattle.std.proofs.lemmas.Grind.{common_steps}
use Rattle.hex.specs.Hex.{digit_or_error, hex_digit_value, ◌>>=◌}
use Rattle.hex.specs.declared.error.FromHexError.{FromHexError}
use Rattle.vch_text.specs.Digits.{IsDigitOf}
use Rattle.vch_text.proofs.Told.{both}

unfoldable pub is_digit : ℕ → Option ℕ → Bool
is_digit n (Some v) = eqb n v && ltb n 16
is_digit n None = ltb 15 n

digit_is : (n : ℕ) (x : Option ℕ) → is_digit n x ≡ true → IsDigitOf n x
unfolding is_digit
digit_is n (Some v) e = let b = both (eqb n v) (ltb n 16) e in let p = b.0 in let q = b.1 in (grind (arith, common_steps), grind (arith, common_steps))
digit_is n None e = grind (arith, common_steps)

-- the table is right below n
unfoldable pub right_below : List ℕ → ℕ → Bool
right_below table zero = true
right_below table (suc n) = is_digit (get_or table n 0) (hex_digit_value n) && right_below table n

right_at : (table : List ℕ) (n : ℕ) → right_below table n ≡ true → (c : ℕ) → c < n → is_digit (get_or table c 0) (hex_digit_value c) ≡ true
unfolding right_below
right_at table zero e c lt = absurd (omega arith)
right_at table (suc n) e c lt =
    let b = both (is_digit (get_or table n 0) (hex_digit_value n)) (right_below table n) e in
    elim (cases_eq c n) [ inl same ↦ rw same b.0 | inr other ↦ right_at table n b.1 c (omega arith) ]

pub from_table : (table : List ℕ) (c : ℕ) → c < 256 → right_below table 256 ≡ true → IsDigitOf (get_or table c 0) (hex_digit_value c)
from_table table c lt e = digit_is _ _ (right_at table 256 e c lt)

abbrev pub pair_of : ℕ → ℕ → ℕ → Option ℕ → Option ℕ → Result ℕ FromHexError
pair_of a b i x y = digit_or_error a i x >>= (λ h. digit_or_error b (i + 1) y >>= (λ l. Ok (h * 16 + l)))

pub good_pair : (a b i : ℕ) (x y : Option ℕ) (high low : ℕ) → IsDigitOf high x → IsDigitOf low y → high ≤ 15 → low ≤ 15
    → pair_of a b i x y ≡ Ok (high * 16 + low)
good_pair a b i (Some v) (Some w) high low h l p q = rw (h.0, l.0) refl
good_pair a b i (Some v) None high low h l p q = absurd (omega arith)
good_pair a b i None y high low h l p q = absurd (omega arith)

pub bad_pair : {R : Type 0} → (a b i : ℕ) (x y : Option ℕ) (high low : ℕ) → IsDigitOf high x → IsDigitOf low y → (15 < high) ⊎ (15 < low)
    → ((e : FromHexError) → pair_of a b i x y ≡ Err e → R) → R
bad_pair a b i None y high low h l bad f = f _ refl
bad_pair a b i (Some v) None high low h l bad f = f _ refl
bad_pair a b i (Some v) (Some w) high low h l bad f = absurd (elim bad [ inl p ↦ omega (arith, h.1) | inr q ↦ omega (arith, l.1) ])
