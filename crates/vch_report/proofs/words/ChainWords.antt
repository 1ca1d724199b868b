-- A word that spells a list of tasks: what is read of it, and that it is read.
use Rattle.std.proofs.Common.{◌≡◌, ℕ, suc, ◌≤◌, false, eqb, leb, List, [], ◌∷◌, ◌++◌, length, map, Some, None, refl, sym, ap, ◌∙◌, arith}
use Rattle.std.proofs.lemmas.Grind.{common_steps}
use Rattle.std.proofs.lemmas.Bool.{le-leb}
use Rattle.std.proofs.lemmas.List.Elements.{All-cons, All-nil}
use Rattle.std.proofs.lemmas.List.Splits.{join_with_byte-slice_split, slice_split_none, slice_split_at, length-slice_split}
use Rattle.std.specs.List.{AllByRecursion, All, join_with_byte}
use Rattle.std.specs.Fmt.{decimal}
use Rattle.vch_model.specs.Grammar.{IsDecimal}
use Rattle.vch_text.proofs.CallerLemmas.{Told, told_bind, told_test, decimal_numeral, IsPlain, decimal_plain}
use Rattle.vch_report.specs.Numerals.{ordinal}
use Rattle.vch_report.specs.Values.{parts_of, ordinals, chain_of}
use Rattle.vch_model.specs.WellFormed.{IsNumber}
use Rattle.vch_report.proofs.words.Belows.{IsOrdinal, ordinal_told, ordinal_again}

abbrev pub chain_text : List ℕ → List ℕ
chain_text list = join_with_byte 44 (map decimal list)

-- the words spell these tasks
pub record AreOrdinals (ws : List (List ℕ)) (ts : List ℕ) : Type 0 where
  pub words : ws ≡ map decimal ts
  pub numbers : AllByRecursion IsNumber ts

ordinals_told : (ws : List (List ℕ)) → Told (λ ts. AreOrdinals ws ts) (ordinals ws)
ordinals_told [] = record { words = refl; numbers = tt }
ordinals_told (w ∷ ws) =
    told_bind (λ t. IsOrdinal w t) (λ ts. AreOrdinals (w ∷ ws) ts) (ordinal w) _ (ordinal_told w)
    (λ t h. told_bind (λ ts. AreOrdinals ws ts) (λ ts. AreOrdinals (w ∷ ws) ts) (ordinals ws) _ (ordinals_told ws)
    (λ ts g. let x = h.word in let y = g.words in record { words = cc; numbers = (h.number, g.numbers) }))

-- a list that a word spells
pub record IsChain (list : List ℕ) : Type 0 where
  pub some : 1 ≤ length list
  pub few : length list ≤ 8
  pub numbers : AllByRecursion IsNumber list

pub record ChainAt (w list : List ℕ) : Type 0 where
  pub word : w ≡ chain_text list
  pub is : IsChain list

length_words : (ts : List ℕ) → length (map decimal ts) ≡ length ts
length_words [] = refl
length_words (t ∷ ts) = ap suc (length_words ts)

pub chain_told : (w : List ℕ) → Told (λ list. ChainAt w list) (chain_of w)
unfolding chain_of
chain_told w =
    told_bind (λ ts. AreOrdinals (parts_of w) ts)
    (λ list. ChainAt w list) (ordinals (parts_of w)) _ (ordinals_told (parts_of w))
    (λ ts h. told_test (λ list. ChainAt w list) (leb (length ts) 8) (Some ts) None
    (λ t. let few : length ts ≤ 8 = grind (arith, common_steps) in
    record {
      word = sym (join_with_byte-slice_split 44 w) ∙ ap (λ (ps : List (List ℕ)). join_with_byte 44 ps) h.words;
      is = record {
        some = omega (arith, ap length h.words, length_words ts, length-slice_split (λ c. eqb c 44) w);
        few = few;
        numbers = h.numbers;
      };
    }) (λ f. tt))

-- ---- and back

no_comma : (w : List ℕ) → IsDecimal w → All (λ c. eqb c 44 ≡ false) w
no_comma [] h = All-nil (λ c. eqb c 44 ≡ false)
no_comma (c ∷ w) h = let low = h.0 in All-cons (λ c. eqb c 44 ≡ false) c w (grind (
  arith,
  common_steps,
)) (no_comma w h.2)

decimal_comma : (n : ℕ) → IsNumber n → All (λ c. eqb c 44 ≡ false) (decimal n)
decimal_comma n h = no_comma (decimal n) (decimal_numeral n (omega (arith, h.1))).digits

parts_again : (t : ℕ) (ts : List ℕ) → AllByRecursion IsNumber (t ∷ ts)
    → parts_of (chain_text (t ∷ ts)) ≡ map decimal (t ∷ ts)
parts_again t [] h = slice_split_none (λ c. eqb c 44) (decimal t) (decimal_comma t h.0)
parts_again t (u ∷ ts) h = slice_split_at
    (λ c. eqb c 44) (decimal t) 44 (chain_text (u ∷ ts)) (decimal_comma t h.0) refl
    ∙ ap (λ ps. decimal t ∷ ps) (parts_again u ts h.1)

ordinals_again : (ts : List ℕ) → AllByRecursion IsNumber ts → ordinals (map decimal ts) ≡ Some ts
ordinals_again [] h = refl
ordinals_again (t ∷ ts) h = rw (ordinal_again (decimal t) t h.0 refl, ordinals_again ts h.1) refl

pub chain_again : (list : List ℕ) → IsChain list → chain_of (chain_text list) ≡ Some list
unfolding chain_of
chain_again [] h = absurd (omega (arith, h.some))
chain_again (t ∷ ts) h = rw (
  parts_again t ts h.numbers,
  ordinals_again (t ∷ ts) h.numbers,
  le-leb (length (t ∷ ts)) 8 h.few,
) refl

plain_append : (a b : List ℕ) → IsPlain a → IsPlain b → IsPlain (a ++ b)
plain_append [] b h g = g
plain_append (c ∷ a) b h g = (h.0, plain_append a b h.1 g)

pub chain_plain : (list : List ℕ) → AllByRecursion IsNumber list → IsPlain (chain_text list)
chain_plain [] h = tt
chain_plain (t ∷ []) h = decimal_plain t (omega (arith, h.0.1))
chain_plain (t ∷ u ∷ ts) h = plain_append (decimal t) (44 ∷ chain_text (u ∷ ts)) (decimal_plain t (omega (
  arith,
  h.0.1,
))) (omega arith, chain_plain (u ∷ ts) h.1)
