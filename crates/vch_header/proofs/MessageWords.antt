-- The words of a message line, both ways.
use Rattle.std.proofs.Common.{◌≡◌, ◌≢◌, ◌<◌, ℕ, Bool, true, false, not, ◌&&◌, List, [], ◌∷◌, ◌++◌, length, get_or, Option, Some, None, refl, sym, ap, ◌∙◌, arith, codes, append_assoc, append-nil, subst, IfSome, IfNone}
use Rattle.std.proofs.lemmas.Grind.{common_steps}
use Rattle.vch_model.specs.Grammar.{IsWord, StartsWithLine}
use Rattle.vch_model.specs.TextLines.{is_passed}
use Rattle.vch_text.specs.Reading.{◌>>=◌, Finds}
use Rattle.vch_text.specs.Words.{front_of, word_at, end_of, is_word}
use Rattle.vch_text.proofs.CallerLemmas.{Told, told_bind, told_test, both, word_true, word_same, word_false, front_sep, front_none, front_whole, front_word, word_told, word_again, Follows, front_again, end_told, end_again, plain_word, above_plain}
use Rattle.vch_header.specs.Messages.{IsMessage, IsOther}
use Rattle.vch_header.specs.Translating.{is_message, message_words, message_of}

-- ---- the words that are found

passed_first : (task : List ℕ) → is_passed task ≡ false → (0 < length task) × (get_or task 0 0 ≢ 35)
passed_first [] e = absurd (cc)
passed_first (c ∷ cs) e = (omega arith, λ same. grind (arith, common_steps))

not_true : (b : Bool) → not b ≡ true → b ≡ false
not_true true e = cc
not_true false e = refl

some_digits : (w : List ℕ) → is_word w (codes "") ≡ false → 0 < length w
some_digits [] e = absurd (let t : is_word [] (codes "") ≡ true = word_same [] (codes "") refl in cc)
some_digits (c ∷ cs) e = omega arith

first_of : (a b : List ℕ) → 0 < length a → get_or (a ++ b) 0 0 ≡ get_or a 0 0
first_of [] b h = absurd (omega arith)
first_of (c ∷ cs) b h = refl

three_parts : (line task more verb rest digits : List ℕ) → task ++ more ≡ line → more ≡ 32 ∷ (verb ++ rest) → rest ≡ 32 ∷ (digits ++ []) → verb ≡ codes "message" → line ≡ task ++ codes " message " ++ digits
three_parts line task more verb rest digits a b c d =
    sym a ∙ ap (λ l. task ++ l) (b ∙ ap (λ l. 32 ∷ (l ++ rest)) d ∙ ap (λ l. 32 ∷ (codes "message" ++ l)) (c ∙ ap (λ l. 32 ∷ l) (append-nil digits)))
    ∙ sym (append_assoc task (codes " message ") digits)

pub message_told : (line : List ℕ) → Told (λ m. IsMessage line m.0 m.1) (message_of line)
unfolding message_of
message_told line =
    let task = (front_of 32 line).0 in
    let more = (front_of 32 line).1 in
    told_bind (λ v. StartsWithLine more v.0 v.1) (λ m. IsMessage line m.0 m.1) (word_at more) _ (word_told more) (λ v b.
    told_bind (λ d. StartsWithLine v.1 d.0 d.1) (λ m. IsMessage line m.0 m.1) (word_at v.1) _ (word_told v.1) (λ d e.
    told_bind (λ u. d.1 ≡ []) (λ m. IsMessage line m.0 m.1) (end_of d.1) _ (end_told d.1) (λ u n.
    told_test (λ m. IsMessage line m.0 m.1) (is_message task v.0 d.0) (Some (task, d.0)) None (λ t.
    let p = both (not (is_passed task) && is_word v.0 (codes "message")) (not (is_word d.0 (codes ""))) t in
    let q = both (not (is_passed task)) (is_word v.0 (codes "message")) p.0 in
    let f = passed_first task (not_true (is_passed task) q.0) in
    let whole : task ++ more ≡ line = front_whole 32 line in
    record {
      parts = three_parts line task more v.0 v.1 d.0 whole b.parts (e.parts ∙ ap (λ l. 32 ∷ (d.0 ++ l)) n) (word_true v.0 (codes "message") q.1);
      first = front_word line;
      third = e.word;
      some_first = f.0;
      some_third = some_digits d.0 (not_true (is_word d.0 (codes "")) p.1);
      no_comment = λ same. f.1 (sym (first_of task more f.0) ∙ ap (λ l. get_or l 0 0) whole ∙ same);
    }) (λ n. tt))))

-- ---- the words of a message line are found

sep_follows : (cs : List ℕ) → Follows (32 ∷ cs)
sep_follows cs = front_sep 32 cs

verb_word : IsWord (codes "message")
verb_word = plain_word (codes "message") (above_plain (codes "message") refl)

open_first : (task : List ℕ) → 0 < length task → get_or task 0 0 ≢ 35 → is_passed task ≡ false
open_first [] some ne = absurd (omega arith)
open_first (c ∷ cs) some ne = grind (arith, common_steps)

filled : (w : List ℕ) → 0 < length w → is_word w (codes "") ≡ false
filled w some = word_false w (codes "") (λ e. omega (arith, ap length e))

are_message : (task digits : List ℕ) → is_passed task ≡ false → 0 < length digits → message_words task (codes "message") digits ≡ Some (task, digits)
are_message task digits plain some =
    let a : is_word (codes "message") (codes "message") ≡ true = word_same (codes "message") (codes "message") refl in
    let b : is_word digits (codes "") ≡ false = filled digits some in
    rw (plain, a, b) refl

abbrev steps : List ℕ × List ℕ → Option (List ℕ × List ℕ)
steps p = do
  verb ← word_at p.1
  digits ← word_at verb.1
  done ← end_of digits.1
  message_words p.0 verb.0 digits.0

steps_of : (line : List ℕ) → message_of line ≡ steps (front_of 32 line)
unfolding message_of
steps_of line = refl

pub message_again : (line task digits : List ℕ) → IsMessage line task digits → message_of line ≡ Some (task, digits)
message_again line task digits m =
    let tail : List ℕ = 32 ∷ (codes "message" ++ (32 ∷ (digits ++ []))) in
    let line_is : line ≡ task ++ tail = m.parts ∙ append_assoc task (codes " message ") digits ∙ ap (λ l. task ++ (codes " message " ++ l)) (sym (append-nil digits)) in
    let front : front_of 32 line ≡ (task, tail) = ap (front_of 32) line_is ∙ front_again task tail m.first (sep_follows _) in
    let verb : word_at tail ≡ Some (codes "message", 32 ∷ (digits ++ [])) = word_again tail (codes "message") (32 ∷ (digits ++ [])) (record { parts = refl; word = verb_word }) (sep_follows _) in
    let third : word_at (32 ∷ (digits ++ [])) ≡ Some (digits, []) = word_again (32 ∷ (digits ++ [])) digits [] (record { parts = refl; word = m.third }) (front_none 32) in
    let plain : is_passed task ≡ false = open_first task m.some_first (λ same. m.no_comment (ap (λ l. get_or l 0 0) line_is ∙ first_of task tail m.some_first ∙ same)) in
    steps_of line ∙ ap steps front
    ∙ ap (λ (o : Option (List ℕ × List ℕ)). o >>= (λ verb. word_at verb.1 >>= (λ digits. end_of digits.1 >>= (λ done. message_words task verb.0 digits.0)))) verb
    ∙ ap (λ (o : Option (List ℕ × List ℕ)). o >>= (λ digits. end_of digits.1 >>= (λ done. message_words task (codes "message") digits.0))) third
    ∙ ap (λ (o : Option (Unit {0})). o >>= (λ done. message_words task (codes "message") digits)) (end_again [] refl)
    ∙ are_message task digits plain m.some_third

-- ---- a line has one pair of words

first_word : Option (List ℕ × List ℕ) → List ℕ
first_word (Some m) = m.0
first_word None = []

third_word : Option (List ℕ × List ℕ) → List ℕ
third_word (Some m) = m.1
third_word None = []

pub one_message : (line a b c d : List ℕ) → IsMessage line a b → IsMessage line c d → (a ≡ c) × (b ≡ d)
unfolding first_word third_word
one_message line a b c d m n = let same = sym (message_again line a b m) ∙ message_again line c d n in (ap first_word same, ap third_word same)

pub none_other : (line : List ℕ) → message_of line ≡ None → IsOther line
none_other line e task digits m = let again = message_again line task digits m in cc

-- ---- what was found

pub found_by : {Y : Type 0} (view : Y → List ℕ × List ℕ) (line : List ℕ) (r : Option Y) → Finds view r (message_of line) → IfSome r (λ y. IsMessage line (view y).0 (view y).1)
found_by view line (Some y) e = subst (Told (λ m. IsMessage line m.0 m.1)) e (message_told line)
found_by view line None e = tt

pub none_by : {Y : Type 0} (view : Y → List ℕ × List ℕ) (line : List ℕ) (r : Option Y) → Finds view r (message_of line) → IfNone r (IsOther line)
none_by view line (Some y) e = tt
none_by view line None e = none_other line e
