-- The lines of a scenario, both ways.
use Rattle.std.proofs.Common.{◌≡◌, Bool, ◌≢◌, ℕ, ◌<◌, ◌≤◌, min, true, false, cond, eqb, ltb, leb, ◌&&◌, List, [], ◌∷◌, ◌++◌, Ok, Err, refl, sym, ap, subst, ◌∙◌, arith, ◌⊎◌, inl, inr, codes, append-nil}
use Rattle.std.proofs.lemmas.Grind.{common_steps}
use Rattle.vch_scenario.specs.declared.fault.Why.{Why}
use Rattle.vch_scenario.specs.declared.fault.Why.TheVariants.{Form, Range}
use Rattle.vch_text.specs.Words.{is_word, front_of}
use Rattle.vch_text.specs.Numbers.{one_of}
use Rattle.vch_text.proofs.CallerLemmas.{front_whole, word_true, word_same, Follows, front_word, front_again, spelled_follows, OneRead}
use Rattle.vch_scenario.specs.Reading.{formed}
use Rattle.vch_model.specs.Grammar.{top, Piece, Text, Number, StartsWithLine, AreSpelled, IsLine, Title, Tasks, Phase, End}
use Rattle.vch_scenario.specs.Calls.{word_is, up_to, tasks_of, version_of}
use Rattle.vch_base.specs.declared.limits.TheConstants.{MOST_TASKS}
use Rattle.std.specs.Fmt.{decimal, digits}
use Rattle.vch_scenario.proofs.drafts.Told.{Told, told_bind, told_test, told_map}
use Rattle.vch_scenario.proofs.drafts.Formed.{one_told, one_again}

-- ---- texts

pub text_again : (rest t : List ℕ) (ps : List Piece) → AreSpelled rest (Text t ∷ ps) → (more : List ℕ) × (rest ≡ 32 ∷ (t ++ more)) × AreSpelled more ps
text_again rest t ps h = (h.1, h.2.parts ∙ ap (λ l. 32 ∷ (l ++ h.1)) h.3, h.4)

pub last_again : (rest t : List ℕ) → AreSpelled rest (Text t ∷ []) → rest ≡ 32 ∷ t
last_again rest t h = let a = text_again rest t [] h in a.1 ∙ ap (λ l. 32 ∷ (t ++ l)) a.2 ∙ ap (λ l. 32 ∷ l) (append-nil t)

pub same_line : (a b : List ℕ) → 32 ∷ a ≡ 32 ∷ b → a ≡ b
same_line a b e = cc

title_1_spelled : IsLine (codes "vouch 1") (Title 1)
unfolding front_of digits
title_1_spelled = (codes "vouch", codes " 1", record { parts = refl; word = front_word (codes "vouch 1") }, refl, (codes "1", [], record { parts = refl; word = front_word (codes "1") }, refl, refl))

title_2_spelled : IsLine (codes "vouch 2") (Title 2)
unfolding front_of digits
title_2_spelled = (codes "vouch", codes " 2", record { parts = refl; word = front_word (codes "vouch 2") }, refl, (codes "2", [], record { parts = refl; word = front_word (codes "2") }, refl, refl))

phase_spelled : IsLine (codes "phase") Phase
unfolding front_of
phase_spelled = (codes "phase", [], record { parts = refl; word = front_word (codes "phase") }, refl, refl)

end_spelled : IsLine (codes "end") End
unfolding front_of
end_spelled = (codes "end", [], record { parts = refl; word = front_word (codes "end") }, refl, refl)

title_line : (line t : List ℕ) (v : ℕ) → line ≡ t → IsLine t (Title v) → IsLine line (Title v)
title_line line t v e h = subst (λ (l : List ℕ). IsLine l (Title v)) (sym e) h

pub phase_line : (line : List ℕ) → line ≡ codes "phase" → IsLine line Phase
phase_line line e = subst (λ (l : List ℕ). IsLine l Phase) (sym e) phase_spelled

pub end_line : (line : List ℕ) → line ≡ codes "end" → IsLine line End
end_line line e = subst (λ (l : List ℕ). IsLine l End) (sym e) end_spelled

title_again : (line : List ℕ) (v : ℕ) → IsLine line (Title v) → line ≡ codes "vouch " ++ decimal v
title_again line v h =
    let a = text_again (32 ∷ line) (codes "vouch") (Text (decimal v) ∷ []) h in
    same_line line (codes "vouch " ++ decimal v) (a.1 ∙ ap (λ l. 32 ∷ (codes "vouch" ++ l)) (last_again a.0 (decimal v) a.2))

pub phase_again : (line : List ℕ) → IsLine line Phase → line ≡ codes "phase"
phase_again line h = same_line line (codes "phase") (last_again (32 ∷ line) (codes "phase") h)

pub end_again_line : (line : List ℕ) → IsLine line End → line ≡ codes "end"
end_again_line line h = same_line line (codes "end") (last_again (32 ∷ line) (codes "end") h)

-- ---- the first word of a line

pub line_begins : (line : List ℕ) → StartsWithLine (32 ∷ line) (front_of 32 line).0 (front_of 32 line).1
line_begins line = record { parts = ap (λ l. 32 ∷ l) (sym (front_whole 32 line)); word = front_word line }

pub line_front : (line w more : List ℕ) → StartsWithLine (32 ∷ line) w more → Follows more → front_of 32 line ≡ (w, more)
line_front line w more b f = ap (front_of 32) (same_line line (w ++ more) b.parts) ∙ front_again w more b.word f

pub is_told : (Q : Why → Type 0) → Q Form → (t w : List ℕ) → Told Q (λ u. w ≡ t) (word_is t w)
unfolding word_is
is_told Q form t w = told_test Q (λ u. w ≡ t) (is_word w t) (Ok tt) (Err Form) (λ e. word_true w t e) (λ n. form)

pub is_again : (t w : List ℕ) → w ≡ t → word_is t w ≡ Ok tt
unfolding word_is
is_again t w e = rw (word_same w t e) refl

pub is_told_pub : (Q : Why → Type 0) → Q Form → (t w : List ℕ) → Told Q (λ u. w ≡ t) (word_is t w)
is_told_pub Q form t w = is_told Q form t w

-- ---- the version

abbrev pub IsVersion : ℕ → Type 0
IsVersion v = (v ≡ 1) ⊎ (v ≡ 2)

abbrev pub IsTitle : List ℕ → ℕ → Type 0
IsTitle line v = IsLine line (Title v) × IsVersion v

pub version_told : (Q : Why → Type 0) → Q Form → (line : List ℕ) → Told Q (IsTitle line) (version_of line)
unfolding version_of
version_told Q form line =
    told_test Q (IsTitle line) (is_word line (codes "vouch 1")) (Ok 1) (cond (is_word line (codes "vouch 2")) (Ok 2) (Err Form)) (λ t. (title_line line (codes "vouch 1") 1 (word_true line (codes "vouch 1") t) title_1_spelled, inl refl))
    (λ n. told_test Q (IsTitle line) (is_word line (codes "vouch 2")) (Ok 2) (Err Form) (λ t. (title_line line (codes "vouch 2") 2 (word_true line (codes "vouch 2") t) title_2_spelled, inr refl)) (λ m. form))

title_read : (v : ℕ) → IsVersion v → version_of (codes "vouch " ++ decimal v) ≡ Ok v
unfolding version_of is_word digits
title_read v h =
    elim h [
      | inl e ↦ subst (λ (n : ℕ). version_of (codes "vouch " ++ decimal n) ≡ Ok n) (sym e) refl
      | inr e ↦ subst (λ (n : ℕ). version_of (codes "vouch " ++ decimal n) ≡ Ok n) (sym e) refl
    ]

pub version_again : (line : List ℕ) (v : ℕ) → IsVersion v → IsLine line (Title v) → version_of line ≡ Ok v
version_again line v h l = ap version_of (title_again line v l) ∙ title_read v h

-- ---- the number of tasks

abbrev pub NoCount : List ℕ → Why → Type 0
NoCount line why = (why ≡ Form) ⊎ ((why ≡ Range) × (n : ℕ) × IsLine line (Tasks n) × ((0 < n) × (n ≤ MOST_TASKS) → ⊥))

outside : (k tasks : ℕ) → 0 < k → k ≤ tasks → ltb 0 k && leb k tasks ≡ false → ⊥
outside k tasks a b f = let t : ltb 0 k && leb k tasks ≡ true = grind (arith, common_steps) in cc

pub same_number : (k number n : ℕ) → number < top → k ≡ min n top → eqb k number ≡ true → n ≡ number
same_number k number n small e y = let same : k ≡ number = grind (arith, common_steps) in omega arith

pub other_number : (k number n : ℕ) → number < top → k ≡ min n top → eqb k number ≡ false → n ≢ number
other_number k number n small e z = λ same. let yes : eqb k number ≡ true = let q : k ≡ number = omega arith in grind (arith, common_steps) in cc

pub up_to_told : (Q : Why → Type 0) (tasks k n : ℕ) → tasks < top → k ≡ min n top → (((0 < n) × (n ≤ tasks) → ⊥) → Q Range) → Told Q (λ x. (x ≡ n) × (0 < n) × (n ≤ tasks)) (up_to tasks k)
unfolding up_to
up_to_told Q tasks k n small e range =
    told_test Q (λ x. (x ≡ n) × (0 < n) × (n ≤ tasks)) (ltb 0 k && leb k tasks) (Ok k) (Err Range)
    (λ t. let a : 0 < k = grind (arith, common_steps) in let b : k ≤ tasks = grind (arith, common_steps) in (omega arith, omega arith, omega arith))
    (λ f. range (λ s. outside k tasks (omega (arith, s.0)) (omega (arith, s.1)) f))

pub tasks_told : (line : List ℕ) → Told (NoCount line) (λ n. IsLine line (Tasks n) × (0 < n) × (n ≤ MOST_TASKS)) (tasks_of line)
unfolding tasks_of
tasks_told line =
    let Q : Why → Type 0 = NoCount line in
    let S : ℕ → Type 0 = λ n. IsLine line (Tasks n) × (0 < n) × (n ≤ MOST_TASKS) in
    let f = front_of 32 line in
    told_bind Q (λ u. f.0 ≡ codes "tasks") S (word_is (codes "tasks") f.0) _ (is_told Q (inl refl) (codes "tasks") f.0)
    (λ u e. told_bind Q (λ k. OneRead top f.1 k) S (formed (one_of top f.1)) _ (one_told Q (inl refl) f.1)
    (λ k r.
    let spelled : IsLine line (Tasks r.n) = (f.0, f.1, line_begins line, e, r.spelled) in
    told_map Q (λ x. (x ≡ r.n) × (0 < r.n) × (r.n ≤ MOST_TASKS)) S (up_to MOST_TASKS k) (λ x h. rw h.0 (spelled, h.1, h.2))
    (up_to_told Q MOST_TASKS k r.n (omega arith) r.read (λ large. inr (refl, r.n, spelled, large)))))

pub tasks_again : (line : List ℕ) (n : ℕ) → IsLine line (Tasks n) → tasks_of line ≡ up_to MOST_TASKS (min n top)
unfolding tasks_of
tasks_again line n h =
    rw (line_front line h.0 h.1 h.2 (spelled_follows h.1 (Number n ∷ []) h.4), is_again (codes "tasks") h.0 h.3, one_again h.1 n h.4) refl

-- ---- a number from 1 to the most, as it is read

pub by_bool : (b : Bool) → (b ≡ true → ⊥) → b ≡ false
by_bool true not_true = absurd (not_true refl)
by_bool false not_true = refl

pub up_to_good : (tasks n : ℕ) → tasks < top → 0 < n → n ≤ tasks → up_to tasks (min n top) ≡ Ok n
unfolding up_to
up_to_good tasks n few a b =
    let e : min n top ≡ n = omega arith in
    let t : ltb 0 n && leb n tasks ≡ true = grind (arith, common_steps) in
    rw (e, t) refl

in_or_out : (n tasks : ℕ) → tasks < top → ((0 < n) × (n ≤ tasks) → ⊥) → ltb 0 (min n top) && leb (min n top) tasks ≡ false
in_or_out n tasks few large = by_bool (ltb 0 (min n top) && leb (min n top) tasks) (λ t. let a : 0 < min n top = grind (arith, common_steps) in let b : min n top ≤ tasks = grind (arith, common_steps) in large (omega arith, omega arith))

pub up_to_bad : (tasks n : ℕ) → tasks < top → ((0 < n) × (n ≤ tasks) → ⊥) → up_to tasks (min n top) ≡ Err Range
unfolding up_to
up_to_bad tasks n few large = rw (in_or_out n tasks few large) refl
