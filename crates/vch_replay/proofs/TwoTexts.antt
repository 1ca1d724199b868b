-- Where the first line `end` ends, line by line.
use Rattle.std.proofs.Common.{◌≡◌, ℕ, ◌+◌, ◌-◌, ◌<◌, ◌≤◌, Bool, true, false, List, [], ◌∷◌, ◌++◌, refl, sym, ap, ◌∙◌, subst, length, arith, append_assoc, Option, Some, None}
use Rattle.std.specs.Prelude.{codes, if◌then◌else◌}
use Rattle.std.specs.List.{flat_map}
use Rattle.std.proofs.lemmas.List.{length-append}
use Rattle.vch_model.specs.TextLines.{split_of, with_line_before}
use Rattle.vch_text.specs.Words.{joined, is_word}
use Rattle.vch_text.proofs.CallerLemmas.{split_joined}
use Rattle.vch_replay.specs.TwoTexts.{further, bytes_to_end, size_or, scenario_size}

-- no line so far was `end`
pub record Sought (input rest : List ℕ) : Type 0 where
  pub inside : length rest ≤ length input
  pub same : bytes_to_end (split_of input).0 ≡ further (length input - length rest) (bytes_to_end (split_of rest).0)

further_none : (o : Option ℕ) → further 0 o ≡ o
further_none None = refl
further_none (Some n) = let e : 0 + n ≡ n = omega arith in ap Some e

further_twice : (a b : ℕ) (o : Option ℕ) → further a (further b o) ≡ further (a + b) o
further_twice a b None = refl
further_twice a b (Some n) = ap Some (omega arith)

pub sought_start : (input : List ℕ) → Sought input input
sought_start input =
    let none : length input - length input ≡ 0 = omega arith in
    record { inside = omega arith; same = rw none (sym (further_none (bytes_to_end (split_of input).0))) }

-- a line takes its bytes and its line feed
line_long : (rest line more : List ℕ) → split_of rest ≡ with_line_before line (split_of more) → length rest ≡ length line + 1 + length more
line_long rest line more e =
    let whole : rest ≡ (line ++ 10 ∷ []) ++ more =
    sym (split_joined rest) ∙ (ap joined e ∙ (append_assoc (line ++ 10 ∷ []) (flat_map (λ l. l ++ 10 ∷ []) (split_of more).0) (split_of more).1
    ∙ ap (λ l. (line ++ 10 ∷ []) ++ l) (split_joined more))) in
    let a : length ((line ++ 10 ∷ []) ++ more) ≡ length (line ++ 10 ∷ []) + length more = length-append (line ++ 10 ∷ []) more in
    let b : length (line ++ 10 ∷ []) ≡ length line + 1 = length-append line (10 ∷ []) in
    ap length whole ∙ (a ∙ ap (λ n. n + length more) b)

module _ (input rest line more : List ℕ) (sought : Sought input rest) (e : split_of rest ≡ with_line_before line (split_of more)) where
  long : length rest ≡ length line + 1 + length more
  long = line_long rest line more e

  here : bytes_to_end (split_of input).0
      ≡ further (length input - length rest) (if is_word line (codes "end") then Some (length line + 1) else further (length line + 1) (bytes_to_end (split_of more).0))
  here = sought.same ∙ ap (λ (p : List (List ℕ) × List ℕ). further (length input - length rest) (bytes_to_end p.0)) e

  pub sought_next : is_word line (codes "end") ≡ false → Sought input more
  sought_next other =
      let place : length input - length rest + (length line + 1) ≡ length input - length more = omega (arith, long, sought.inside) in
      record {
        inside = omega (arith, long, sought.inside);
        same = here ∙ (rw other (further_twice (length input - length rest) (length line + 1) (bytes_to_end (split_of more).0))
            ∙ ap (λ n. further n (bytes_to_end (split_of more).0)) place);
      }

  pub sought_end : is_word line (codes "end") ≡ true → scenario_size input ≡ length input - length more
  sought_end is =
      let place : length input - length rest + (length line + 1) ≡ length input - length more = omega (arith, long, sought.inside) in
      let found : bytes_to_end (split_of input).0 ≡ Some (length input - length rest + (length line + 1)) = here ∙ rw is refl in
      ap (λ o. size_or o (length input)) found ∙ place

pub sought_none : (input rest : List ℕ) → Sought input rest → split_of rest ≡ ([], rest) → scenario_size input ≡ length input
sought_none input rest sought e =
    ap (λ o. size_or o (length input)) (sought.same ∙ ap (λ (p : List (List ℕ) × List ℕ). further (length input - length rest) (bytes_to_end p.0)) e)
