-- The next word of what is left, both ways.
use Rattle.std.proofs.Common.{◌≡◌, ℕ, true, false, eqb, List, [], ◌∷◌, ◌++◌, Option, Some, None, refl, sym, ap, ◌∙◌, arith, inl, inr}
use Rattle.std.proofs.lemmas.Grind.{common_steps}
use Rattle.std.proofs.lemmas.Bool.{cases_eq}
use Rattle.vch_text.specs.Words.{front_of, in_front, word_at, end_of}
use Rattle.vch_model.specs.Grammar.{Piece, IsWord, StartsWithLine, AreSpelled}
use Rattle.vch_text.proofs.Fronts.{front_other, front_sep, front_none}
use Rattle.vch_text.proofs.Splits.{front_whole}
use Rattle.vch_text.proofs.Told.{Told, told_test}

pub front_word : (cs : List ℕ) → IsWord (front_of 32 cs).0
unfolding front_of
front_word [] = tt
front_word (c ∷ cs) =
    elim (cases_eq c 32) [
      | inl e ↦ let yes : eqb c 32 ≡ true = grind (arith, common_steps) in rw yes tt
      | inr ne ↦ let no : eqb c 32 ≡ false = grind (arith, common_steps) in rw no (ne, front_word cs)
    ]

pub word_told : (rest : List ℕ) → Told (λ x. StartsWithLine rest x.0 x.1) (word_at rest)
unfolding word_at
word_told [] = tt
word_told (c ∷ cs) =
    told_test (λ x. StartsWithLine (c ∷ cs) x.0 x.1) (eqb c 32) (Some (front_of 32 cs)) None
    (λ t. record { parts = let e : c ≡ 32 = grind (arith, common_steps) in rw (e, front_whole 32 cs) refl; word = front_word cs }) (λ f. tt)

-- what may follow a word
abbrev pub Follows : List ℕ → Type 0
Follows more = front_of 32 more ≡ ([], more)

pub spelled_follows : (more : List ℕ) (ps : List Piece) → AreSpelled more ps → Follows more
spelled_follows more [] h = ap (front_of 32) h ∙ front_none 32 ∙ ap (λ (l : List ℕ). ([], l)) (sym h)
spelled_follows more (p ∷ ps) h =
    let e = h.2.parts in
    ap (front_of 32) e ∙ front_sep 32 (h.0 ++ h.1) ∙ ap (λ (l : List ℕ). ([], l)) (sym e)

pub front_again : (w more : List ℕ) → IsWord w → Follows more → front_of 32 (w ++ more) ≡ (w, more)
front_again [] more h f = f
front_again (c ∷ w) more h f = front_other 32 c (w ++ more) h.0 ∙ ap (in_front c) (front_again w more h.1 f)

abbrev got : List ℕ × List ℕ → Option (List ℕ × List ℕ)
got p = Some p

pub word_again : (rest w more : List ℕ) → StartsWithLine rest w more → Follows more → word_at rest ≡ Some (w, more)
unfolding word_at
word_again rest w more h f = ap word_at h.parts ∙ ap (λ (p : List ℕ × List ℕ). got p) (front_again w more h.word f)

pub end_told : (rest : List ℕ) → Told (λ u. rest ≡ []) (end_of rest)
unfolding end_of
end_told [] = refl
end_told (c ∷ cs) = tt

pub end_again : (rest : List ℕ) → rest ≡ [] → end_of rest ≡ Some tt
unfolding end_of
end_again rest e = ap end_of e
