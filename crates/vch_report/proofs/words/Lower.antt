-- Hexadecimal digits in lower case, both ways.
use Rattle.std.proofs.Common.{◌≡◌, ℕ, zero, suc, ◌+◌, ◌*◌, ◌/◌, ◌%◌, ◌<◌, Bool, true, false, cond, not, eqb, ltb, ◌&&◌, ◌||◌, List, [], ◌∷◌, length, get_or, slice_index, Option, Some, None, Result, Ok, Err, refl, sym, ap, subst, ◌∙◌, arith, codes, inl, inr}
use Rattle.std.proofs.lemmas.Grind.{common_steps}
use Rattle.std.proofs.lemmas.Bool.{and_parts, cases_lt}
use Rattle.std.specs.Char.{is_ascii_uppercase}
use Rattle.hex.specs.Hex.{◌>>=◌, IsBytes, encode_lower, encode_with, lower_digits, hex_digit_value, decode_pairs, pair_value, value_at, digit_or_error}
use Rattle.hex.specs.declared.error.FromHexError.{FromHexError}
use Rattle.hex.specs.declared.error.FromHexError.TheVariants.{OddLength}
use Rattle.vch_model.specs.Text.{hex_of}
use Rattle.vch_model.specs.Grammar.{IsHex}
use Rattle.vch_report.specs.Numerals.{is_lower}

-- ---- a digit

-- a digit that isn't a capital is the one of its value
abbrev is_own : ℕ → Option ℕ → Bool
is_own c None = true
is_own c (Some v) = is_ascii_uppercase c || (ltb v 16 && eqb (slice_index lower_digits v) c)

abbrev all_own : ℕ → Bool
all_own zero = true
all_own (suc n) = is_own n (hex_digit_value n) && all_own n

own_at : (n c : ℕ) → all_own n ≡ true → c < n → is_own c (hex_digit_value c) ≡ true
own_at zero c h lt = absurd (omega arith)
own_at (suc n) c h lt =
    let parts = and_parts (is_own n (hex_digit_value n)) (all_own n) h in
    elim (cases_lt c n) [
      | inl below ↦ own_at n c parts.1 below
      | inr top ↦ let e : c ≡ n = omega arith in rw e parts.0
    ]

own_bound : (c v : ℕ) → hex_digit_value c ≡ Some v → c < 103
own_bound c v e = grind (arith, common_steps)

abbrev Own : ℕ → ℕ → Type 0
Own c v = (v < 16) × (slice_index lower_digits v ≡ c)

own_by : (c v : ℕ) → is_own c (Some v) ≡ true → is_ascii_uppercase c ≡ false → Own c v
own_by c v t low = (grind (arith, common_steps), grind (arith, common_steps))

digit_own : (c v : ℕ) → hex_digit_value c ≡ Some v → is_ascii_uppercase c ≡ false → Own c v
digit_own c v e low =
    let lt = own_bound c v e in
    own_by c v (ap (is_own c) (sym e) ∙ own_at 103 c refl lt) low

-- ---- pairs of digits

bind_ok : {A B : Type 0} (r : Result A FromHexError) (f : A → Result B FromHexError) (y : B) → (r >>= f) ≡ Ok y
    → (x : A) × (r ≡ Ok x) × (f x ≡ Ok y)
bind_ok (Ok x) f y e = (x, refl, e)
bind_ok (Err d) f y e = absurd cc

by_value : (c i : ℕ) (o : Option ℕ) (v : ℕ) → digit_or_error c i o ≡ Ok v → o ≡ Some v
by_value c i (Some x) v e = cc
by_value c i None v e = absurd cc

abbrev right : ℕ → Result ℕ FromHexError
right n = Ok n

right_is : (a b : ℕ) → right a ≡ right b → a ≡ b
right_is a b e = cc

-- a byte and its two digits
record Pair (high low byte : ℕ) : Type 0 where
  first : high ≡ slice_index lower_digits (byte / 16)
  second : low ≡ slice_index lower_digits (byte % 16)
  small : byte < 256

pair_own : (high low h l byte : ℕ) → Own high h → Own low l → h * 16 + l ≡ byte → Pair high low byte
pair_own high low h l byte a b e =
    let p : byte / 16 ≡ h = omega (arith, a.0, b.0) in
    let q : byte % 16 ≡ l = omega (arith, a.0, b.0) in
    record { first = rw p (sym a.1); second = rw q (sym b.1); small = omega (arith, a.0, b.0) }

pair_told : (high low i byte : ℕ) → pair_value high low i ≡ Ok byte → is_ascii_uppercase high ≡ false
    → is_ascii_uppercase low ≡ false → Pair high low byte
pair_told high low i byte e hl ll =
    let a = bind_ok (value_at high i) (λ h. value_at low (i + 1) >>= λ l. Ok (h * 16 + l)) byte e in
    let b = bind_ok (value_at low (i + 1)) (λ l. Ok (a.0 * 16 + l)) byte a.2 in
    pair_own high low a.0 b.0 byte (digit_own high a.0 (by_value high i (hex_digit_value high) a.0 a.1) hl)
    (digit_own low b.0 (by_value low (i + 1) (hex_digit_value low) b.0 b.1) ll) (right_is (a.0 * 16 + b.0) byte b.2)

IsBytes-cons : (b : ℕ) (bytes : List ℕ) → b < 256 → IsBytes bytes → IsBytes (b ∷ bytes)
IsBytes-cons b bytes lt h zero = lt
IsBytes-cons b bytes lt h (suc i) = h i

IsBytes-nil : IsBytes []
IsBytes-nil i = omega arith

not_capital : (b : Bool) → not b ≡ true → b ≡ false
not_capital true e = absurd cc
not_capital false e = refl

abbrev Spelled : List ℕ → List ℕ → Type 0
Spelled w bytes = (w ≡ encode_lower bytes) × IsBytes bytes

abbrev list_right : List ℕ → Result (List ℕ) FromHexError
list_right l = Ok l

spelled_by : (w a b : List ℕ) → list_right a ≡ list_right b → Spelled w a → Spelled w b
spelled_by w a b e h = let same : a ≡ b = cc in subst (λ (l : List ℕ). Spelled w l) same h

pairs_told : (i : ℕ) (w bytes : List ℕ) → decode_pairs i w ≡ Ok bytes → is_lower w ≡ true → Spelled w bytes
unfolding decode_pairs encode_with
pairs_told i [] bytes e low = spelled_by [] [] bytes e (refl, IsBytes-nil)
pairs_told i (c ∷ []) bytes e low = absurd cc
pairs_told i (h ∷ l ∷ rest) bytes e low =
    let a = bind_ok (pair_value h l i) (λ byte. decode_pairs (i + 2) rest >>= λ more. Ok (byte ∷ more)) bytes e in
    let b = bind_ok (decode_pairs (i + 2) rest) (λ more. Ok (a.0 ∷ more)) bytes a.2 in
    let p = and_parts (not (is_ascii_uppercase h)) (not (is_ascii_uppercase l) && is_lower rest) low in
    let q = and_parts (not (is_ascii_uppercase l)) (is_lower rest) p.1 in
    let pair = pair_told h l i a.0 a.1 (not_capital (is_ascii_uppercase h) p.0) (not_capital
    (is_ascii_uppercase l) q.0) in
    let rec = pairs_told (i + 2) rest b.0 b.1 q.1 in
    let x = pair.first in
    let y = pair.second in
    let z = rec.0 in
    spelled_by (h ∷ l ∷ rest) (a.0 ∷ b.0) bytes b.2 (cc, IsBytes-cons a.0 b.0 pair.small rec.1)

-- ---- a word

not_odd : (b : Bool) (d : FromHexError) (r : Result (List ℕ) FromHexError) (bytes : List ℕ)
    → cond b (Err d) r ≡ Ok bytes → r ≡ Ok bytes
not_odd true d r bytes e = absurd cc
not_odd false d r bytes e = e

digits_are : (w bytes : List ℕ) → 0 < length w → Spelled w bytes → (w ≡ hex_of bytes) × IsBytes bytes
unfolding encode_with
digits_are w [] some h = absurd (omega (arith, ap length h.0))
digits_are w (b ∷ bytes) some h = h

dash_is : (w bytes : List ℕ) → w ≡ codes "-" → bytes ≡ [] → (w ≡ hex_of bytes) × IsBytes bytes
dash_is w bytes e f = rw f (e, IsBytes-nil)

pub lower_told : (w bytes : List ℕ) → IsHex w bytes → is_lower w ≡ true → (w ≡ hex_of bytes) × IsBytes bytes
lower_told w bytes h low =
    elim h [
      | inl p ↦ dash_is w bytes p.0 p.1
      | inr p ↦ digits_are w bytes p.0 (pairs_told 0 w bytes (not_odd (eqb (length w % 2) 1) OddLength
          (decode_pairs 0 w) bytes p.1) low)
    ]

lower_at : (t : List ℕ) (k : ℕ) → is_lower t ≡ true → k < length t → is_ascii_uppercase (get_or t k 0) ≡ false
lower_at [] k h lt = absurd (omega arith)
lower_at (c ∷ t) zero h lt = not_capital (is_ascii_uppercase c) (and_parts (not (is_ascii_uppercase c))
    (is_lower t) h).0
lower_at (c ∷ t) (suc k) h lt = lower_at t k (and_parts (not (is_ascii_uppercase c)) (is_lower t) h).1 (omega arith)

IsBytes-rest : (b : ℕ) (bytes : List ℕ) → IsBytes (b ∷ bytes) → IsBytes bytes
IsBytes-rest b bytes h i = h (suc i)

encoded_lower : (bytes : List ℕ) → IsBytes bytes → is_lower (encode_lower bytes) ≡ true
unfolding encode_with
encoded_lower [] h = refl
encoded_lower (b ∷ bytes) h =
    let small : b < 256 = h 0 in
    let high : b / 16 < length lower_digits = omega arith in
    let low : b % 16 < length lower_digits = omega arith in
    rw (
      lower_at lower_digits (b / 16) refl high,
      lower_at lower_digits (b % 16) refl low,
      encoded_lower bytes (IsBytes-rest b bytes h),
    ) refl

pub lower_again : (bytes : List ℕ) → IsBytes bytes → is_lower (hex_of bytes) ≡ true
lower_again [] h = refl
lower_again (b ∷ bytes) h = encoded_lower (b ∷ bytes) h
