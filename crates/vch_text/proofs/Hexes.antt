-- A word that spells bytes, both ways.
use Rattle.std.proofs.Common.{◌≡◌, ℕ, ◌<◌, true, false, cond, List, [], ◌∷◌, length, Option, Some, None, Result, Ok, Err, refl, sym, ap, ◌∙◌, arith, inl, inr, codes}
use Rattle.hex.specs.Hex.{decode_of}
use Rattle.hex.specs.declared.error.FromHexError.{FromHexError}
use Rattle.hex.specs.declared.error.FromHexError.TheVariants.{OddLength}
use Rattle.hex.proofs.HexLemmas.{decode_of-odd}
use Rattle.vch_model.specs.Grammar.{IsHex}
use Rattle.vch_text.specs.Words.{is_word}
use Rattle.vch_text.specs.Digits.{bytes_of, from_decoded}
use Rattle.vch_text.proofs.Told.{Told, told_test, word_true, word_same, word_false}

decoded_told : (w : List ℕ) → 0 < length w → (r : Result (List ℕ) FromHexError) → decode_of w ≡ r → Told (λ x. IsHex w x) (from_decoded r)
decoded_told w some (Ok bytes) e = inr (some, e)
decoded_told w some (Err why) e = tt

some_word : (w : List ℕ) → is_word w (codes "") ≡ false → 0 < length w
some_word [] n = absurd (let t : is_word [] (codes "") ≡ true = word_same [] (codes "") refl in cc)
some_word (c ∷ cs) n = omega arith

pub hex_told : (w : List ℕ) → Told (λ x. IsHex w x) (bytes_of w)
unfolding bytes_of
hex_told w =
    told_test (λ x. IsHex w x) (is_word w (codes "")) None (cond (is_word w (codes "-")) (Some []) (from_decoded (decode_of w))) (λ t. tt)
    (λ n. told_test (λ x. IsHex w x) (is_word w (codes "-")) (Some []) (from_decoded (decode_of w)) (λ t. inl (word_true w (codes "-") t, refl))
    (λ m. decoded_told w (some_word w n) (decode_of w) refl))

abbrev counted_bytes : List ℕ → Option (List ℕ)
counted_bytes l = Some l

dash_again : (w bytes : List ℕ) → w ≡ codes "-" → bytes ≡ [] → bytes_of w ≡ Some bytes
unfolding bytes_of is_word
dash_again w bytes e f = ap bytes_of e ∙ ap (λ (l : List ℕ). counted_bytes l) (sym f)

dash_differs : (bytes : List ℕ) → decode_of (codes "-") ≡ Ok bytes → ⊥
dash_differs bytes e = let odd : decode_of (codes "-") ≡ Err OddLength = decode_of-odd (codes "-") refl in cc

digits_again : (w bytes : List ℕ) → 0 < length w → decode_of w ≡ Ok bytes → bytes_of w ≡ Some bytes
unfolding bytes_of
digits_again w bytes some e =
    let a : is_word w (codes "") ≡ false = word_false w (codes "") (λ z. omega (arith, ap length z)) in
    let b : is_word w (codes "-") ≡ false = word_false w (codes "-") (λ z. dash_differs bytes (sym (ap decode_of z) ∙ e)) in
    rw (a, b, e) refl

pub hex_again : (w bytes : List ℕ) → IsHex w bytes → bytes_of w ≡ Some bytes
hex_again w bytes h = elim h [ inl p ↦ dash_again w bytes p.0 p.1 | inr p ↦ digits_again w bytes p.0 p.1 ]
