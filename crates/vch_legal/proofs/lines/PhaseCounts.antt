-- How many lines a task has in one phase.
use Rattle.std.proofs.Common.{◌≡◌, ℕ, suc, ◌+◌, ◌-◌, ◌<◌, ◌≤◌, List, [], ◌∷◌, ◌++◌, refl, true, false, arith, sym, ap, ◌∙◌, length, map, get_or}
use Rattle.std.specs.Prelude.{nat_le, ◌==◌}
use Rattle.std.specs.List.{filter}
use Rattle.vch_model.specs.declared.call.Line.{Line}
use Rattle.vch_model.specs.declared.lists.Scenario.{Scenario}
use Rattle.vch_model.specs.Lines.{lines_from, lines_until}
use Rattle.vch_legal.specs.Facts.{times}
use Rattle.vch_legal.proofs.facts.Choices.{cases_bool}

-- the lines of a task among some lines
abbrev pub of_task : ℕ → List Line → ℕ
of_task t lines = times (λ (l : Line). l.task == t) lines

-- the lines of a task up to a phase, of the phases from a number on
abbrev until : ℕ → ℕ → ℕ → List (List Line) → ℕ
until c t q phases = length (filter (λ l. nat_le l.0 c) (filter (λ l. l.1.task == t) (lines_from q phases)))

-- of lines that stand before others
counted : (c t : ℕ) (xs : List (ℕ × Line)) → ℕ
counted c t xs = length (filter (λ l. nat_le l.0 c) (filter (λ l. l.1.task == t) xs))

early_lines : (c t q : ℕ) (lines : List Line) (xs : List (ℕ × Line)) → nat_le q c ≡ true
    → counted c t (map (λ line. (q, line)) lines ++ xs) ≡ of_task t lines + counted c t xs
unfolding counted
early_lines c t q [] xs e = omega arith
early_lines c t q (l ∷ lines) xs e =
    let i : counted c t (map (λ line. (q, line)) lines ++ xs) ≡ of_task t lines + counted c t xs = early_lines c t q
    lines xs e in
    cases_bool (l.task == t) (counted c t (map (λ line. (q, line)) (l ∷ lines) ++ xs)
    ≡ of_task t (l ∷ lines) + counted c t xs)
    (λ same. rw (same, e) (ap suc i ∙ one_more (of_task t lines) (counted c t xs)))
    (λ other. rw other (i ∙ none_more (of_task t lines) (counted c t xs)))
  where
    one_more : (a b : ℕ) → suc (a + b) ≡ 1 + a + b
    one_more a b = omega arith

    none_more : (a b : ℕ) → a + b ≡ 0 + a + b
    none_more a b = omega arith

late_lines : (c t q : ℕ) (lines : List Line) (xs : List (ℕ × Line)) → nat_le q c ≡ false
    → counted c t (map (λ line. (q, line)) lines ++ xs) ≡ counted c t xs
unfolding counted
late_lines c t q [] xs e = refl
late_lines c t q (l ∷ lines) xs e =
    let i : counted c t (map (λ line. (q, line)) lines ++ xs) ≡ counted c t xs = late_lines c t q lines xs e in
    cases_bool (l.task == t) (counted c t (map (λ line. (q, line)) (l ∷ lines) ++ xs) ≡ counted c t xs)
    (λ same. rw (same, e) i)
    (λ other. rw other i)

le_true : (a b : ℕ) → a ≤ b → nat_le a b ≡ true
le_true a b h = grind arith

le_false : (a b : ℕ) → b < a → nat_le a b ≡ false
le_false a b h = grind arith

none_later : (c t q : ℕ) (phases : List (List Line)) → c < q → counted c t (lines_from q phases) ≡ 0
unfolding counted
none_later c t q [] h = refl
none_later c t q (lines ∷ phases) h = late_lines c t q lines (lines_from (q + 1) phases) (le_false q c h)
    ∙ none_later c t (q + 1) phases (omega arith)

-- a phase more has its own lines more
more_phase : (c t q : ℕ) (phases : List (List Line)) → q ≤ c + 1 → counted (c + 1) t (lines_from q phases)
    ≡ counted c t (lines_from q phases) + of_task t (get_or phases (c + 1 - q) [])
unfolding counted
more_phase c t q [] h = refl
more_phase c t q (lines ∷ phases) h =
    cases_bool (nat_le q c) (counted (c + 1) t (lines_from q (lines ∷ phases))
    ≡ counted c t (lines_from q (lines ∷ phases)) + of_task t (get_or (lines ∷ phases) (c + 1 - q) []))
    (λ e. let i : counted (c + 1) t (lines_from (q + 1) phases) ≡ counted c t (lines_from (q + 1) phases) + of_task t
    (get_or phases (c + 1 - (q + 1)) []) = more_phase c t (q + 1) phases (next q c e) in
    early_lines (c + 1) t q lines (lines_from (q + 1) phases) (le_true q (c + 1) (omega arith))
    ∙ (ap (λ n. of_task t lines + n) i
    ∙ (regroup (of_task t lines) (counted c t (lines_from (q + 1) phases))
    (of_task t (get_or phases (c + 1 - (q + 1)) []))
    ∙ (ap (λ n. n + of_task t (get_or phases (c + 1 - (q + 1)) []))
    (sym (early_lines c t q lines (lines_from (q + 1) phases) e))
    ∙ ap (λ n. counted c t (lines_from q (lines ∷ phases)) + of_task t (get_or (lines ∷ phases) n []))
    (sym (later c q e))))))
    (λ e. early_lines (c + 1) t q lines (lines_from (q + 1) phases) (le_true q (c + 1) h)
    ∙ (ap (λ n. of_task t lines + n) (none_later (c + 1) t (q + 1) phases (above q c e))
    ∙ (alone (of_task t lines)
    ∙ (ap (λ n. n + of_task t lines) (sym (late_lines c t q lines (lines_from (q + 1) phases) e
    ∙ none_later c t (q + 1) phases (beyond q c e)))
    ∙ ap (λ n. counted c t (lines_from q (lines ∷ phases)) + of_task t (get_or (lines ∷ phases) n []))
    (sym (here c q h e))))))
  where
    next : (q c : ℕ) → nat_le q c ≡ true → q + 1 ≤ c + 1
    next q c e = grind arith

    beyond : (q c : ℕ) → nat_le q c ≡ false → c < q + 1
    beyond q c e = grind arith

    above : (q c : ℕ) → nat_le q c ≡ false → c + 1 < q + 1
    above q c e = grind arith

    later : (c q : ℕ) → nat_le q c ≡ true → c + 1 - q ≡ suc (c + 1 - (q + 1))
    later c q e = grind arith

    here : (c q : ℕ) → q ≤ c + 1 → nat_le q c ≡ false → c + 1 - q ≡ 0
    here c q h e = grind arith

    alone : (a : ℕ) → a + 0 ≡ 0 + a
    alone a = omega arith

    regroup : (a b c : ℕ) → a + (b + c) ≡ (a + b) + c
    regroup a b c = omega arith

-- the lines of a task up to the next phase are those so far and those of that phase
pub lines_with_phase : (sc : Scenario) (t p : ℕ) → lines_until sc (p + 1) t
    ≡ lines_until sc p t + of_task t (get_or sc.phases p [])
unfolding counted
lines_with_phase sc t p =
    more_phase p t 1 sc.phases (omega arith) ∙ ap (λ i. lines_until sc p t + of_task t (get_or sc.phases i []))
    (back p)
  where
    back : (p : ℕ) → p + 1 - 1 ≡ p
    back p = omega arith
