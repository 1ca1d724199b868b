-- Contents are one exactly where their test says so.
use Rattle.std.proofs.Common.{◌≡◌, ℕ, Bool, List, ◌∷◌, refl, true, ap, sym, ◌∙◌, subst}
use Rattle.std.specs.Bool.{Decides}
use Rattle.std.proofs.lemmas.Bool.Decides.{Decides-eqb}
use Rattle.std.proofs.lemmas.Slice.Eq.{slice_eq-Decides}
use Rattle.vch_base.specs.declared.value.Value.{Value}
use Rattle.vch_base.specs.declared.value.Value.TheVariants as values
use Rattle.vch_books.specs.Living.{Content, words_of, code, same_content}

-- values of the same words are one
pub same_words : (x y : Value) → words_of x ≡ words_of y → x ≡ y
same_words (values.User a) (values.User b) e = let s : a ≡ b = cc in ap values.User s
same_words (values.Chain a) (values.Chain b) e = let s : a ≡ b = cc in ap values.Chain s
same_words values.Default values.Default e = refl
same_words (values.Task a) (values.Task b) e = let s : a ≡ b = cc in ap values.Task s
same_words (values.Account a b) (values.Account c d) e = let s : a ≡ c = cc in let t : b ≡ d = cc in cc
same_words (values.User a) (values.Chain c) e = absurd (cc)
same_words (values.User a) values.Default e = absurd (cc)
same_words (values.User a) (values.Task c) e = absurd (cc)
same_words (values.User a) (values.Account c d) e = absurd (cc)
same_words (values.Chain a) (values.User c) e = absurd (cc)
same_words (values.Chain a) values.Default e = absurd (cc)
same_words (values.Chain a) (values.Task c) e = absurd (cc)
same_words (values.Chain a) (values.Account c d) e = absurd (cc)
same_words values.Default (values.User c) e = absurd (cc)
same_words values.Default (values.Chain c) e = absurd (cc)
same_words values.Default (values.Task c) e = absurd (cc)
same_words values.Default (values.Account c d) e = absurd (cc)
same_words (values.Task a) (values.User c) e = absurd (cc)
same_words (values.Task a) (values.Chain c) e = absurd (cc)
same_words (values.Task a) values.Default e = absurd (cc)
same_words (values.Task a) (values.Account c d) e = absurd (cc)
same_words (values.Account a b) (values.User c) e = absurd (cc)
same_words (values.Account a b) (values.Chain c) e = absurd (cc)
same_words (values.Account a b) values.Default e = absurd (cc)
same_words (values.Account a b) (values.Task c) e = absurd (cc)

pub same_code : (a b : Content) → code a ≡ code b → a ≡ b
same_code a b e =
    let k : a.key ≡ b.key = cc in
    let w : words_of a.value ≡ words_of b.value = cc in
    ap (λ y. of y a.value) k ∙ ap (λ y. of b.key y) (same_words a.value b.value w)
  where
    of : ℕ → Value → Content
    of k x = record { key = k; value = x }

pub content_decides : (a b : Content) → Decides (same_content a b) (a ≡ b)
content_decides a b =
    let d = slice_eq-Decides Decides-eqb (code a) (code b) (same_content a b) refl in
    (λ e. same_code a b (d.0 e), λ e. d.1 (ap code e))
