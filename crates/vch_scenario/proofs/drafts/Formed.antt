-- What the words of a line are, where a word that isn't as it should be is a fault of form.
use Rattle.std.proofs.Common.{◌≡◌, ℕ, min, List, [], ◌∷◌, Option, Some, None, Ok, ap}
use Rattle.vch_text.specs.Words.{word_at, end_of}
use Rattle.vch_text.specs.Numbers.{number_of, number_at, one_of, two_of}
use Rattle.vch_text.specs.Digits.{bytes_of}
use Rattle.vch_text.proofs.CallerLemmas as texts
use Rattle.vch_model.specs.Grammar.{top, Number, IsNumeral, IsHex, StartsWithLine, AreSpelled}
use Rattle.vch_scenario.specs.declared.fault.Why.{Why}
use Rattle.vch_scenario.specs.declared.fault.Why.TheVariants.{Form}
use Rattle.vch_scenario.specs.Reading.{formed}
use Rattle.vch_scenario.proofs.drafts.Told.{Told}

told_formed : {X : Type 0} (Q : Why → Type 0) (R : X → Type 0) (r : Option X) → Q Form → texts.Told R r → Told Q R (formed r)
told_formed Q R (Some x) form h = h
told_formed Q R None form h = form

again : {X : Type 0} (r : Option X) (x : X) → r ≡ Some x → formed r ≡ Ok x
again r x e = ap formed e

pub word_told : (Q : Why → Type 0) → Q Form → (rest : List ℕ) → Told Q (λ x. StartsWithLine rest x.0 x.1) (formed (word_at rest))
word_told Q form rest = told_formed Q (λ x. StartsWithLine rest x.0 x.1) (word_at rest) form (texts.word_told rest)

pub word_again : (rest w more : List ℕ) → StartsWithLine rest w more → texts.Follows more → formed (word_at rest) ≡ Ok (w, more)
word_again rest w more h f = again (word_at rest) (w, more) (texts.word_again rest w more h f)

pub end_told : (Q : Why → Type 0) → Q Form → (rest : List ℕ) → Told Q (λ u. rest ≡ []) (formed (end_of rest))
end_told Q form rest = told_formed Q (λ u. rest ≡ []) (end_of rest) form (texts.end_told rest)

pub end_again : (rest : List ℕ) → rest ≡ [] → formed (end_of rest) ≡ Ok tt
end_again rest e = again (end_of rest) tt (texts.end_again rest e)

pub number_told : (Q : Why → Type 0) → Q Form → (w : List ℕ) → Told Q (λ k. texts.IsRead top w k) (formed (number_of top w))
number_told Q form w = told_formed Q (λ k. texts.IsRead top w k) (number_of top w) form (texts.number_told top w)

pub number_again : (w : List ℕ) (n : ℕ) → IsNumeral w n → formed (number_of top w) ≡ Ok (min n top)
number_again w n h = again (number_of top w) (min n top) (texts.number_again top w n h)

pub number_at_told : (Q : Why → Type 0) → Q Form → (rest : List ℕ) → Told Q (λ x. texts.NumberAt top rest x.0 x.1) (formed (number_at top rest))
number_at_told Q form rest = told_formed Q (λ x. texts.NumberAt top rest x.0 x.1) (number_at top rest) form (texts.number_at_told top rest)

pub number_at_again : (rest w more : List ℕ) (n : ℕ) → StartsWithLine rest w more → IsNumeral w n → texts.Follows more → formed (number_at top rest) ≡ Ok (min n top, more)
number_at_again rest w more n b h f = again (number_at top rest) (min n top, more) (texts.number_at_again top rest w more n b h f)

pub one_told : (Q : Why → Type 0) → Q Form → (rest : List ℕ) → Told Q (λ k. texts.OneRead top rest k) (formed (one_of top rest))
one_told Q form rest = told_formed Q (λ k. texts.OneRead top rest k) (one_of top rest) form (texts.one_told top rest)

pub one_again : (rest : List ℕ) (n : ℕ) → AreSpelled rest (Number n ∷ []) → formed (one_of top rest) ≡ Ok (min n top)
one_again rest n h = again (one_of top rest) (min n top) (texts.one_again top rest n h)

pub two_told : (Q : Why → Type 0) → Q Form → (rest : List ℕ) → Told Q (λ x. texts.TwoRead top rest x.0 x.1) (formed (two_of top rest))
two_told Q form rest = told_formed Q (λ x. texts.TwoRead top rest x.0 x.1) (two_of top rest) form (texts.two_told top rest)

pub two_again : (rest : List ℕ) (n m : ℕ) → AreSpelled rest (Number n ∷ Number m ∷ []) → formed (two_of top rest) ≡ Ok (min n top, min m top)
two_again rest n m h = again (two_of top rest) (min n top, min m top) (texts.two_again top rest n m h)

pub hex_told : (Q : Why → Type 0) → Q Form → (w : List ℕ) → Told Q (λ x. IsHex w x) (formed (bytes_of w))
hex_told Q form w = told_formed Q (λ x. IsHex w x) (bytes_of w) form (texts.hex_told w)

pub hex_again : (w bytes : List ℕ) → IsHex w bytes → formed (bytes_of w) ≡ Ok bytes
hex_again w bytes h = again (bytes_of w) bytes (texts.hex_again w bytes h)
