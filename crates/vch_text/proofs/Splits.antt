-- The first line of a text.
use Rattle.std.proofs.Common.{◌≡◌, ℕ, ◌-◌, ◌<◌, ◌≤◌, take, drop, ◌++◌, length, length-append, append-nil, arith, Bool, true, false, cond, eqb, List, [], ◌∷◌, refl, ap, ◌∙◌, sym}
use Rattle.std.proofs.lemmas.Grind.{common_steps}
use Rattle.vch_text.specs.Words.{front_of, in_front, joined}
use Rattle.vch_model.specs.TextLines.{split_of, with_byte, with_line_before}

abbrev pub split_parts : List ℕ → List ℕ → List (List ℕ) × List ℕ
split_parts l [] = ([], l)
split_parts l (c ∷ more) = (l ∷ (split_of more).0, (split_of more).1)

abbrev pub split_from : List ℕ × List ℕ → List (List ℕ) × List ℕ
split_from p = split_parts p.0 p.1

with_front : (c : ℕ) (l more : List ℕ) → with_byte c (split_parts l more) ≡ split_parts (c ∷ l) more
with_front c l [] = refl
with_front c l (d ∷ more) = refl

one_more : (b : Bool) (c : ℕ) (cs : List ℕ) → split_of cs ≡ split_from (front_of 10 cs)
    → cond b ([] ∷ (split_of cs).0, (split_of cs).1) (with_byte c (split_of cs)) ≡ split_from (cond b ([], c ∷ cs) (in_front c (front_of 10 cs)))
one_more true c cs h = refl
one_more false c cs h = ap (with_byte c) h ∙ with_front c (front_of 10 cs).0 (front_of 10 cs).1

pub split_front : (bs : List ℕ) → split_of bs ≡ split_from (front_of 10 bs)
unfolding split_of front_of
split_front [] = refl
split_front (c ∷ cs) = one_more (eqb c 10) c cs (split_front cs)

abbrev none_of : List ℕ → List (List ℕ) × List ℕ
none_of l = ([], l)

abbrev pub SplitSome : List ℕ → List ℕ → List ℕ → Type 0
SplitSome text line more = (split_of text ≡ with_line_before line (split_of more)) × (length more < length text)

abbrev pub SplitBy : List ℕ → List ℕ → List ℕ → Type 0
SplitBy text line [] = (split_of text ≡ ([], text)) × (line ≡ text)
SplitBy text line (c ∷ more) = SplitSome text line more

by_test : (b : Bool) (c : ℕ) (cs : List ℕ) (p : List ℕ × List ℕ) → p.0 ++ p.1 ≡ cs → (cond b ([], c ∷ cs) (in_front c p)).0 ++ (cond b ([], c ∷ cs) (in_front c p)).1 ≡ c ∷ cs
by_test true c cs p h = refl
by_test false c cs p h = ap (λ l. c ∷ l) h

pub front_whole : (s : ℕ) (bs : List ℕ) → (front_of s bs).0 ++ (front_of s bs).1 ≡ bs
unfolding front_of
front_whole s [] = refl
front_whole s (c ∷ cs) = by_test (eqb c s) c cs (front_of s cs) (front_whole s cs)

abbrev pub cut : List ℕ → List ℕ → List ℕ × List ℕ
cut l more = (l, more)

pub split_by : (text line more : List ℕ) → front_of 10 text ≡ cut line more → SplitBy text line more
split_by text line [] e =
    let whole : line ++ [] ≡ text = ap (λ (p : List ℕ × List ℕ). p.0 ++ p.1) (sym e) ∙ front_whole 10 text in
    let same : line ≡ text = sym (append-nil line) ∙ whole in
    (split_front text ∙ ap (λ (p : List ℕ × List ℕ). split_from p) e ∙ ap (λ (l : List ℕ). none_of l) same, same)
split_by text line (c ∷ more) e =
    let whole : line ++ c ∷ more ≡ text = ap (λ (p : List ℕ × List ℕ). p.0 ++ p.1) (sym e) ∙ front_whole 10 text in
    (split_front text ∙ ap (λ (p : List ℕ × List ℕ). split_from p) e, omega (arith, ap length whole, length-append line (c ∷ more)))

pub split_none : (text line x : List ℕ) → front_of 10 text ≡ cut line x → length x < 1 → split_of text ≡ ([], text)
split_none text line [] e lt = (split_by text line [] e).0
split_none text line (c ∷ more) e lt = absurd (omega arith)

pub split_some : (text line x : List ℕ) → front_of 10 text ≡ cut line x → 1 ≤ length x → SplitSome text line (take (length x - 1) (drop 1 x))
split_some text line [] e le = absurd (omega arith)
split_some text line (c ∷ more) e le =
    let same : take (length (c ∷ more) - 1) (drop 1 (c ∷ more)) ≡ more = grind (arith, common_steps) in
    rw same (split_by text line (c ∷ more) e)

-- ---- the lines are the text

joined_byte : (c : ℕ) (p : List (List ℕ) × List ℕ) → joined (with_byte c p) ≡ c ∷ joined p
joined_byte c ([], rest) = refl
joined_byte c (l ∷ lines, rest) = refl

joined_test : (b : Bool) (c : ℕ) (p : List (List ℕ) × List ℕ) → eqb c 10 ≡ b → joined (cond b ([] ∷ p.0, p.1) (with_byte c p)) ≡ c ∷ joined p
joined_test true c p e = let same : c ≡ 10 = grind (arith, common_steps) in ap (λ (n : ℕ). n ∷ joined p) (sym same)
joined_test false c p e = joined_byte c p

pub split_joined : (text : List ℕ) → joined (split_of text) ≡ text
unfolding split_of
split_joined [] = refl
split_joined (c ∷ cs) = joined_test (eqb c 10) c (split_of cs) refl ∙ ap (λ l. c ∷ l) (split_joined cs)
