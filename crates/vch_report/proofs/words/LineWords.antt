-- The next word of a line of a report, both ways.
use Rattle.std.proofs.Common.{◌≡◌, ℕ, ◌^◌, ◌<◌, ◌≤◌, true, List, [], ◌∷◌, ◌++◌, Some, None, refl, ap, subst, ◌∙◌, arith, append-nil}
use Rattle.std.specs.Fmt.{decimal}
use Rattle.hex.specs.Hex.{IsBytes}
use Rattle.vch_model.specs.Text.{hex_of}
use Rattle.vch_model.specs.Grammar.{IsHex, StartsWithLine}
use Rattle.vch_text.specs.Words.{is_word, word_at, end_of}
use Rattle.vch_text.specs.Digits.{bytes_of}
use Rattle.vch_text.proofs.CallerLemmas.{front_sep, front_none, Told, told_bind, told_test, word_true, word_same, Follows, word_told, word_again, end_told, end_again, hex_told, hex_again, IsPlain, plain_word, above, above_plain, decimal_plain, hex_plain, hex_spelled, IsLow, low_append}
use Rattle.vch_report.specs.Numerals.{below, below_at, ordinal, ordinal_at, after, is_lower, bytes_at}
use Rattle.vch_model.specs.WellFormed.{IsNumber}
use Rattle.vch_report.proofs.words.Belows.{IsBelow, below_told, below_again, IsOrdinal, ordinal_told, ordinal_again}
use Rattle.vch_report.proofs.words.Lower.{lower_told, lower_again}

-- a space, a word and more
abbrev pub said : List ℕ → List ℕ → List ℕ
said w more = 32 ∷ (w ++ more)

-- a space, a number and more
abbrev pub num : ℕ → List ℕ → List ℕ
num n more = said (decimal n) more

pub no_more : Follows []
no_more = front_none 32

pub a_space : (more : List ℕ) → Follows (32 ∷ more)
a_space more = front_sep 32 more

pub begins : (w more : List ℕ) → IsPlain w → StartsWithLine (said w more) w more
begins w more h = record { parts = refl; word = plain_word w h }

pub said_again : (w more : List ℕ) → IsPlain w → Follows more → word_at (said w more) ≡ Some (w, more)
said_again w more h f = word_again (said w more) w more (begins w more h) f

-- ---- no line feed in a line

pub low_said : (w more : List ℕ) → IsPlain w → IsLow more → IsLow (said w more)
low_said w more h l = (omega arith, low_append w more h l)

pub low_word : (w : List ℕ) → IsPlain w → IsLow (32 ∷ w)
low_word w h = subst (λ (l : List ℕ). IsLow (32 ∷ l)) (append-nil w) (low_said w [] h tt)

pub low_num : (n : ℕ) (more : List ℕ) → n < 10 ^ 64 → IsLow more → IsLow (num n more)
low_num n more lt l = low_said (decimal n) more (decimal_plain n lt) l

-- ---- numbers

pub record BelowAt (top : ℕ) (rest : List ℕ) (n : ℕ) (more : List ℕ) : Type 0 where
  pub parts : rest ≡ num n more
  pub small : n < top

pub below_at_told : (top : ℕ) (rest : List ℕ) → top ≤ 10 ^ 64 → Told (λ x. BelowAt top rest x.0 x.1) (below_at top rest)
unfolding below_at
below_at_told top rest few =
    told_bind (λ x. StartsWithLine rest x.0 x.1) (λ x. BelowAt top rest x.0 x.1) (word_at rest) _ (word_told rest)
    (λ w b. told_bind (λ n. IsBelow top w.0 n)
    (λ x. BelowAt top rest x.0 x.1) (below top w.0) _ (below_told top w.0 few)
    (λ n h. record { parts = b.parts ∙ ap (λ l. said l w.1) h.word; small = h.small }))

pub below_at_again : (top n : ℕ) (more : List ℕ) → top ≤ 10 ^ 64 → n < top → Follows more
    → below_at top (num n more) ≡ Some (n, more)
unfolding below_at
below_at_again top n more few lt f =
    rw (said_again (decimal n) more (decimal_plain n (omega arith)) f, below_again top (decimal n) n few lt refl) refl

pub record OrdinalAt (rest : List ℕ) (n : ℕ) (more : List ℕ) : Type 0 where
  pub parts : rest ≡ num n more
  pub number : IsNumber n

pub ordinal_at_told : (rest : List ℕ) → Told (λ x. OrdinalAt rest x.0 x.1) (ordinal_at rest)
unfolding ordinal_at
ordinal_at_told rest =
    told_bind (λ x. StartsWithLine rest x.0 x.1) (λ x. OrdinalAt rest x.0 x.1) (word_at rest) _ (word_told rest)
    (λ w b. told_bind (λ n. IsOrdinal w.0 n) (λ x. OrdinalAt rest x.0 x.1) (ordinal w.0) _ (ordinal_told w.0)
    (λ n h. record { parts = b.parts ∙ ap (λ l. said l w.1) h.word; number = h.number }))

pub ordinal_at_again : (n : ℕ) (more : List ℕ) → IsNumber n → Follows more → ordinal_at (num n more) ≡ Some (n, more)
unfolding ordinal_at
ordinal_at_again n more h f =
    rw (said_again (decimal n) more (decimal_plain n (omega (arith, h.1))) f, ordinal_again (decimal n) n h refl) refl

-- ---- a text

pub after_told : (text rest : List ℕ) → Told (λ more. rest ≡ said text more) (after text rest)
unfolding after
after_told text rest =
    told_bind (λ x. StartsWithLine rest x.0 x.1) (λ more. rest ≡ said text more) (word_at rest) _ (word_told rest)
    (λ w b. told_test (λ more. rest ≡ said text more) (is_word w.0 text) (Some w.1) None (λ t. b.parts
    ∙ ap (λ l. said l w.1) (word_true w.0 text t)) (λ f. tt))

pub after_again : (text more : List ℕ) → above text ≡ true → Follows more → after text (said text more) ≡ Some more
unfolding after
after_again text more h f = rw (said_again text more (above_plain text h) f, word_same text text refl) refl

-- ---- bytes

pub record BytesAt (rest bytes : List ℕ) : Type 0 where
  pub parts : rest ≡ 32 ∷ hex_of bytes
  pub bytes_are : IsBytes bytes

bytes_parts : (rest w more bytes : List ℕ) → StartsWithLine rest w more → more ≡ [] → (w ≡ hex_of bytes) × IsBytes bytes
    → BytesAt rest bytes
bytes_parts rest w more bytes b e h = record {
  parts = b.parts ∙ ap (λ l. said w l) e
      ∙ ap (λ l. 32 ∷ l) (append-nil w ∙ h.0);
  bytes_are = h.1;
}

pub bytes_at_told : (rest : List ℕ) → Told (λ bytes. BytesAt rest bytes) (bytes_at rest)
unfolding bytes_at
bytes_at_told rest =
    told_bind (λ x. StartsWithLine rest x.0 x.1) (λ bytes. BytesAt rest bytes) (word_at rest) _ (word_told rest)
    (λ w b. told_bind (λ u. w.1 ≡ []) (λ bytes. BytesAt rest bytes) (end_of w.1) _ (end_told w.1)
    (λ u e. told_bind (λ bytes. IsHex w.0 bytes) (λ bytes. BytesAt rest bytes) (bytes_of w.0) _ (hex_told w.0)
    (λ bytes h. told_test (λ bytes. BytesAt rest bytes) (is_lower w.0) (Some bytes) None
    (λ t. bytes_parts rest w.0 w.1 bytes b e (lower_told w.0 bytes h t)) (λ f. tt))))

pub bytes_at_again : (bytes : List ℕ) → IsBytes bytes → bytes_at (32 ∷ hex_of bytes) ≡ Some bytes
unfolding bytes_at
bytes_at_again bytes h =
    let e : hex_of bytes ++ [] ≡ hex_of bytes = append-nil (hex_of bytes) in
    let w : word_at (32 ∷ hex_of bytes) ≡ Some (
      hex_of bytes,
      [],
    ) = subst (λ (l : List ℕ). word_at (32 ∷ l) ≡ Some (
      hex_of bytes,
      [],
    )) e (said_again (hex_of bytes) [] (hex_plain bytes h) no_more) in
    rw (w, end_again [] refl, hex_again (hex_of bytes) bytes (hex_spelled bytes h), lower_again bytes h) refl
