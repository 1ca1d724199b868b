-- What is written stands above the space, so that it is one word, and a line of words has no line feed.
use Rattle.std.proofs.Common.{◌≡◌, ℕ, zero, suc, ◌/◌, ◌%◌, ◌^◌, ◌<◌, ◌≤◌, Bool, true, false, eqb, ltb, ◌&&◌, List, [], ◌∷◌, ◌++◌, length, get_or, refl, ap, arith, inl, inr, codes}
use Rattle.std.proofs.lemmas.Grind.{common_steps}
use Rattle.std.specs.List.{AllByRecursion}
use Rattle.std.specs.Fmt.{decimal}
use Rattle.hex.specs.Hex.{IsBytes, encode_lower, encode_with, lower_digits}
use Rattle.hex.proofs.HexLemmas.{decode_of-encode_lower}
use Rattle.vch_model.specs.Text.{hex_of}
use Rattle.vch_model.specs.Grammar.{IsDecimal, IsHex, IsWord}
use Rattle.vch_model.specs.TextLines.{split_of, with_line_before, with_byte}
use Rattle.vch_text.proofs.Told.{both}
use Rattle.vch_text.proofs.Decimals.{decimal_numeral}

-- every byte stands above the space
abbrev pub IsPlain : List ℕ → Type 0
IsPlain w = AllByRecursion (λ c. 32 < c) w

pub plain_word : (w : List ℕ) → IsPlain w → IsWord w
plain_word [] h = tt
plain_word (c ∷ w) h = (let low = h.0 in λ e. omega arith, plain_word w h.1)

-- the same as a test, which a text in quotes computes
abbrev pub above : List ℕ → Bool
above [] = true
above (c ∷ w) = ltb 32 c && above w

pub above_plain : (w : List ℕ) → above w ≡ true → IsPlain w
above_plain [] e = tt
above_plain (c ∷ w) e = let b = both (ltb 32 c) (above w) e in (let t = b.0 in grind (arith, common_steps), above_plain w b.1)

digits_plain : (w : List ℕ) → IsDecimal w → IsPlain w
digits_plain [] h = tt
digits_plain (c ∷ w) h = (omega (arith, h.0), digits_plain w h.2)

pub decimal_plain : (n : ℕ) → n < 10 ^ 64 → IsPlain (decimal n)
decimal_plain n lt = digits_plain (decimal n) (decimal_numeral n lt).digits

at_digits : (t : List ℕ) (k : ℕ) → IsPlain t → k < length t → 32 < get_or t k 0
at_digits [] k h lt = absurd (omega arith)
at_digits (c ∷ t) zero h lt = h.0
at_digits (c ∷ t) (suc k) h lt = at_digits t k h.1 (omega arith)

IsBytes-rest : (b : ℕ) (bytes : List ℕ) → IsBytes (b ∷ bytes) → IsBytes bytes
IsBytes-rest b bytes h i = h (suc i)

lower_plain : IsPlain lower_digits
lower_plain = above_plain lower_digits refl

encoded_plain : (bytes : List ℕ) → IsBytes bytes → IsPlain (encode_lower bytes)
unfolding encode_with
encoded_plain [] h = tt
encoded_plain (b ∷ bytes) h =
    let small : b < 256 = h 0 in
    let high : b / 16 < length lower_digits = omega arith in
    let low : b % 16 < length lower_digits = omega arith in
    (at_digits lower_digits (b / 16) lower_plain high, (at_digits lower_digits (b % 16) lower_plain low, encoded_plain bytes (IsBytes-rest b bytes h)))

encoded_some : (b : ℕ) (bytes : List ℕ) → 0 < length (encode_lower (b ∷ bytes))
unfolding encode_with
encoded_some b bytes = omega arith

pub hex_plain : (bytes : List ℕ) → IsBytes bytes → IsPlain (hex_of bytes)
hex_plain [] h = above_plain (codes "-") refl
hex_plain (b ∷ bytes) h = encoded_plain (b ∷ bytes) h

pub hex_spelled : (bytes : List ℕ) → IsBytes bytes → IsHex (hex_of bytes) bytes
hex_spelled [] h = inl (refl, refl)
hex_spelled (b ∷ bytes) h = inr (encoded_some b bytes, decode_of-encode_lower (b ∷ bytes) h)

-- ---- a line

-- no line feed, and nothing below the space
abbrev pub IsLow : List ℕ → Type 0
IsLow w = AllByRecursion (λ c. 32 ≤ c) w

pub low_append : (a b : List ℕ) → IsPlain a → IsLow b → IsLow (a ++ b)
low_append [] b h l = l
low_append (c ∷ a) b h l = (omega (arith, h.0), low_append a b h.1 l)

pub split_line : (l rest : List ℕ) → IsLow l → split_of (l ++ (10 ∷ rest)) ≡ with_line_before l (split_of rest)
unfolding split_of
split_line [] rest h = refl
split_line (c ∷ l) rest h = let other : eqb c 10 ≡ false = let low = h.0 in grind (arith, common_steps) in rw other (ap (with_byte c) (split_line l rest h.1))
