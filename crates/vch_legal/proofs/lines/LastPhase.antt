-- The lines of the last phase, where it has exits alone.
use Rattle.std.proofs.Common.{◌≡◌, ℕ, zero, suc, ◌+◌, ◌-◌, ◌<◌, ◌≤◌, Bool, List, [], ◌∷◌, ◌++◌, refl, true, arith, sym, ◌∙◌, subst, length, map, get_or, Some}
use Rattle.std.specs.Prelude.{◌==◌, slice_get}
use Rattle.std.specs.List.{filter, list_any, list_all, AllByRecursion}
use Rattle.vch_model.specs.declared.call.Line.{Line}
use Rattle.vch_model.specs.declared.lists.Scenario.{Scenario}
use Rattle.vch_model.specs.Legal.{is_exit}
use Rattle.vch_model.specs.Lines.{lines_from, lines_of, line_at, lines_until, is_task}
use Rattle.vch_legal.specs.GivenBack.{last_phase, EndsInExits}
use Rattle.vch_legal.proofs.facts.Choices.{cases_bool, and_left, and_right}
use Rattle.vch_legal.proofs.lines.PhaseCounts.{of_task, lines_with_phase}
use Rattle.vch_legal.proofs.lines.PhaseLines.{all_lines, phase_of_line}

abbrev Numbered : Type 0
Numbered = ℕ × Line

-- a line is of no later phase than this, and an exit where it is of this one
abbrev pub IsExitAt : ℕ → Numbered → Type 0
IsExitAt c x = (x.0 ≤ c) × (x.0 ≡ c → is_exit x.1.call ≡ true)

all_append : (P : Numbered → Type 0) (xs ys : List Numbered) → AllByRecursion P xs → AllByRecursion P ys
    → AllByRecursion P (xs ++ ys)
all_append P [] ys h k = k
all_append P (x ∷ xs) ys h k = (h.0, all_append P xs ys h.1 k)

all_filter : (P : Numbered → Type 0) (test : Numbered → Bool) (xs : List Numbered) → AllByRecursion P xs
    → AllByRecursion P (filter test xs)
all_filter P test [] h = tt
all_filter P test (x ∷ xs) h =
    cases_bool (test x) (AllByRecursion P (filter test (x ∷ xs)))
    (λ e. rw e (h.0, all_filter P test xs h.1))
    (λ e. rw e (all_filter P test xs h.1))

all_at : (P : Numbered → Type 0) (xs : List Numbered) (i : ℕ) (x : Numbered) → AllByRecursion P xs
    → slice_get xs i ≡ Some x → P x
all_at P [] i x h e = cc
all_at P (y ∷ xs) zero x h e = let g : y ≡ x = cc in subst P g h.0
all_at P (y ∷ xs) (suc i) x h e = all_at P xs i x h.1 e

-- the lines of one phase
of_phase : (c q : ℕ) (lines : List Line) → q ≤ c → (q ≡ c → list_all (λ (l : Line). is_exit l.call) lines ≡ true)
    → AllByRecursion (IsExitAt c) (map (λ line. (q, line)) lines)
of_phase c q [] h k = tt
of_phase c q (l ∷ lines) h k =
    ((h, λ e. and_left (is_exit l.call) _ (k e)), of_phase c q lines h (λ e. and_right (is_exit l.call) _ (k e)))

-- the lines of all phases, from a number on
all_exit_at : (c q : ℕ) (phases : List (List Line)) → c + 1 ≡ q + length phases
    → list_all (λ (l : Line). is_exit l.call) (last_phase phases) ≡ true
    → AllByRecursion (IsExitAt c) (lines_from q phases)
all_exit_at c q [] e h = tt
all_exit_at c q (lines ∷ []) e h =
    all_append (IsExitAt c) (map (λ line. (q, line)) lines) [] (of_phase c q lines (within c q e) (λ g. h)) tt
  where
    within : (c q : ℕ) → c + 1 ≡ q + 1 → q ≤ c
    within c q e = omega arith
all_exit_at c q (lines ∷ next ∷ phases) e h =
    all_append (IsExitAt c) (map (λ line. (q, line)) lines) (lines_from (q + 1) (next ∷ phases))
    (of_phase c q lines (within c q (length phases) e) (λ g. absurd (earlier c q (length phases) e g)))
    (all_exit_at c (q + 1) (next ∷ phases) (later c q (length phases) e) h)
  where
    within : (c q n : ℕ) → c + 1 ≡ q + suc (suc n) → q ≤ c
    within c q n e = omega arith

    earlier : (c q n : ℕ) → c + 1 ≡ q + suc (suc n) → q ≡ c → ⊥
    earlier c q n e g = absurd (omega arith)

    later : (c q n : ℕ) → c + 1 ≡ q + suc (suc n) → c + 1 ≡ (q + 1) + suc n
    later c q n e = omega arith

-- a line of a task is an exit where it is of the last phase
pub exit_at : (sc : Scenario) (t n : ℕ) (l : ℕ × Line) → EndsInExits sc → line_at sc t n ≡ Some l
    → IsExitAt (length sc.phases) l
exit_at sc t n l h e = all_at (IsExitAt (length sc.phases)) (lines_of sc t) (n - 1) l
    (all_filter (IsExitAt (length sc.phases)) (λ x. x.1.task == t) (lines_from 1 sc.phases)
    (all_exit_at (length sc.phases) 1 sc.phases (number (length sc.phases)) h.exits)) e
  where
    number : (n : ℕ) → n + 1 ≡ 1 + n
    number n = omega arith

-- the last phase by its number
last_at : (phases : List (List Line)) (p : ℕ) → length phases ≡ suc p → get_or phases p [] ≡ last_phase phases
last_at [] p e = cc
last_at (lines ∷ []) zero e = refl
last_at (lines ∷ []) (suc p) e = absurd (omega arith)
last_at (lines ∷ next ∷ phases) zero e = absurd (omega arith)
last_at (lines ∷ next ∷ phases) (suc p) e = last_at (next ∷ phases) p (omega arith)

some_of_task : (t : ℕ) (lines : List Line) → list_any (λ (l : Line). l.task == t) lines ≡ true → 1 ≤ of_task t lines
some_of_task t [] e = cc
some_of_task t (l ∷ lines) e =
    cases_bool (l.task == t) (1 ≤ of_task t (l ∷ lines))
    (λ here. rw here (more (of_task t lines)))
    (λ other. rw other (let i : 1 ≤ of_task t lines = some_of_task t lines (rw other at e) in omega arith))
  where
    more : (n : ℕ) → 1 ≤ 1 + n
    more n = omega arith

-- how the lines of a task stand to the last phase: some are of it
pub record LastLines (sc : Scenario) (t : ℕ) : Type 0 where
  pub before : ℕ
  pub number : length sc.phases ≡ suc before
  pub some : lines_until sc before t < length (lines_of sc t)
  pub all : length (lines_of sc t) ≤ lines_until sc (before + 1) t

pub last_lines : (sc : Scenario) (t : ℕ) → EndsInExits sc → is_task sc t ≡ true → LastLines sc t
last_lines sc t h task = by_phases (length sc.phases) refl
  where
    none : (phases : List (List Line)) → length phases ≡ 0 → last_phase phases ≡ []
    none [] e = refl
    none (p ∷ phases) e = absurd (omega arith)

    no_line : (lines : List Line) → lines ≡ [] → list_any (λ (x : Line). x.task == t) lines ≡ true → ⊥
    no_line [] e g = cc
    no_line (x ∷ lines) e g = cc

    less : (a b c n : ℕ) → a ≡ n → a ≡ b + c → 1 ≤ c → b < n
    less a b c n e g h = omega arith

    at_most : (a n : ℕ) → a ≡ n → n ≤ a
    at_most a n e = omega arith

    within : (n p : ℕ) → n ≡ suc p → n ≤ p + 1
    within n p e = omega arith

    by_phases : (c : ℕ) → length sc.phases ≡ c → LastLines sc t
    by_phases zero g = absurd (no_line (last_phase sc.phases) (none sc.phases g) (h.each t task))
    by_phases (suc p) g =
        let all : lines_until sc (p + 1) t ≡ length (lines_of sc t) = all_lines sc t (p + 1)
        (within (length sc.phases) p g) in
        record {
          before = p;
          number = g;
          some = less _ _ _ _ all (lines_with_phase sc t p) (subst (λ (lines : List Line). 1 ≤ of_task t lines)
              (sym (last_at sc.phases p g)) (some_of_task t (last_phase sc.phases) (h.each t task)));
          all = at_most _ _ all;
        }

-- the last line of a task is of the last phase
pub last_line : (sc : Scenario) (t : ℕ) (l : ℕ × Line) → EndsInExits sc → is_task sc t ≡ true
    → line_at sc t (length (lines_of sc t)) ≡ Some l → l.0 ≡ length sc.phases
last_line sc t l h task e =
    let x : LastLines sc t = last_lines sc t h task in
    phase_of_line sc t (length (lines_of sc t)) x.before l e x.some x.all ∙ (next x.before ∙ sym x.number)
  where
    next : (p : ℕ) → p + 1 ≡ suc p
    next p = omega arith
