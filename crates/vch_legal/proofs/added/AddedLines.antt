-- The lines of a scenario with one more: those that were there stay where they are.
use Rattle.std.proofs.Common.{◌≡◌, ℕ, zero, suc, ◌+◌, ◌-◌, ◌<◌, ◌≤◌, ◌==◌, Bool, true, false, List, [], ◌∷◌, ◌++◌, refl, arith, sym, ap, ◌∙◌, subst, length, map, Some, None, Option, append_assoc, append-nil}
use Rattle.std.proofs.lemmas.List.{length-set}
use Rattle.std.specs.Prelude.{if◌then◌else◌, nat_le, slice_get, slice_set, slice_index_or}
use Rattle.std.specs.List.{AllByRecursion, filter}
use Rattle.vch_model.specs.declared.call.Call.{Call}
use Rattle.vch_model.specs.declared.call.Line.{Line}
use Rattle.vch_model.specs.declared.lists.Scenario.{Scenario}
use Rattle.vch_model.specs.Lines.{lines_from, lines_of, line_at, lines_until}
use Rattle.vch_model.specs.Rows.{with_line}
use Rattle.vch_model.specs.Scenarios.{IsIn, IsLimited, line_count}
use Rattle.vch_base.specs.declared.limits.TheConstants.{MOST_CALLS}
use Rattle.vch_machine.specs.Next.{nth_call, call_in}
use Rattle.vch_legal.specs.Added.{with_added}

-- the last of several phases
step : (p q : List Line) (phases : List (List Line)) (line : Line) → with_line (p ∷ q ∷ phases) line ≡ p ∷ with_line (q ∷ phases) line
step p q phases line =
    let e : length (p ∷ q ∷ phases) - 1 ≡ suc (length (q ∷ phases) - 1) = omega arith in
    ap (λ i. slice_set (p ∷ q ∷ phases) i (slice_index_or (p ∷ q ∷ phases) i [] ++ line ∷ [])) e

abbrev numbered : ℕ → List Line → List (ℕ × Line)
numbered k lines = map (λ line. (k, line)) lines

numbered_more : (k : ℕ) (lines : List Line) (line : Line)
    → numbered k (lines ++ line ∷ []) ≡ numbered k lines ++ (k, line) ∷ []
numbered_more k [] line = refl
numbered_more k (l ∷ lines) line = ap (λ xs. (k, l) ∷ xs) (numbered_more k lines line)

pub lines_with : (k : ℕ) (p : List Line) (phases : List (List Line)) (line : Line)
    → lines_from k (with_line (p ∷ phases) line) ≡ lines_from k (p ∷ phases) ++ (k + length phases, line) ∷ []
lines_with k p [] line =
    append-nil (numbered k (p ++ line ∷ []))
    ∙ (numbered_more k p line
    ∙ (ap (λ xs. xs ++ (k, line) ∷ []) (sym (append-nil (numbered k p)))
    ∙ ap (λ n. (numbered k p ++ []) ++ (n, line) ∷ []) (same k)))
  where
    same : (k : ℕ) → k ≡ k + 0
    same k = omega arith
lines_with k p (q ∷ phases) line =
    ap (lines_from k) (step p q phases line)
    ∙ (ap (λ xs. numbered k p ++ xs) (lines_with (k + 1) q phases line)
    ∙ (sym (append_assoc (numbered k p) (lines_from (k + 1) (q ∷ phases)) _)
    ∙ ap (λ n. (numbered k p ++ lines_from (k + 1) (q ∷ phases)) ++ (n, line) ∷ []) (same k (length phases))))
  where
    same : (k n : ℕ) → k + 1 + n ≡ k + suc n
    same k n = omega arith

filter_more : {A : Type 0} (test : A → Bool) (xs ys : List A) → filter test (xs ++ ys) ≡ filter test xs ++ filter test ys
filter_more test [] ys = refl
filter_more test (x ∷ xs) ys = by_test (test x) (filter_more test xs ys)
  where
    by_test : (b : Bool) → filter test (xs ++ ys) ≡ filter test xs ++ filter test ys
        → (if b then x ∷ filter test (xs ++ ys) else filter test (xs ++ ys))
        ≡ (if b then x ∷ filter test xs else filter test xs) ++ filter test ys
    by_test true e = ap (λ zs. x ∷ zs) e
    by_test false e = e

-- the line that a task gets
abbrev pub new_lines : Scenario → Line → ℕ → List (ℕ × Line)
new_lines sc line t = filter (λ (l : ℕ × Line). l.1.task == t) ((length sc.phases, line) ∷ [])

all_with : (phases : List (List Line)) (line : Line) → 1 ≤ length phases
    → lines_from 1 (with_line phases line) ≡ lines_from 1 phases ++ (length phases, line) ∷ []
all_with [] line some = absurd (omega (arith, some))
all_with (p ∷ phases) line some =
    lines_with 1 p phases line ∙ ap (λ n. lines_from 1 (p ∷ phases) ++ (n, line) ∷ []) (same (length phases))
  where
    same : (n : ℕ) → 1 + n ≡ suc n
    same n = omega arith

pub lines_added : (sc : Scenario) (line : Line) (t : ℕ) → 1 ≤ length sc.phases
    → lines_of (with_added sc line) t ≡ lines_of sc t ++ new_lines sc line t
lines_added sc line t some =
    ap (filter (λ (l : ℕ × Line). l.1.task == t)) (all_with sc.phases line some)
    ∙ filter_more (λ (l : ℕ × Line). l.1.task == t) (lines_from 1 sc.phases) ((length sc.phases, line) ∷ [])

pub phases_added : (sc : Scenario) (line : Line) → length (with_added sc line).phases ≡ length sc.phases
phases_added sc line = length-set sc.phases (length sc.phases - 1) (slice_index_or sc.phases (length sc.phases - 1) [] ++ line ∷ [])

got_more : {A : Type 0} (xs ys : List A) (i : ℕ) (x : A) → slice_get xs i ≡ Some x → slice_get (xs ++ ys) i ≡ Some x
got_more [] ys i x e = absurd (cc)
got_more (y ∷ xs) ys zero x e = e
got_more (y ∷ xs) ys (suc i) x e = got_more xs ys i x e

-- a line that is there
pub line_kept : (sc : Scenario) (line : Line) (t n : ℕ) (l : ℕ × Line) → 1 ≤ length sc.phases → line_at sc t n ≡ Some l
    → line_at (with_added sc line) t n ≡ Some l
line_kept sc line t n l some e =
    subst (λ (xs : List (ℕ × Line)). slice_get xs (n - 1) ≡ Some l) (sym (lines_added sc line t some))
    (got_more (lines_of sc t) (new_lines sc line t) (n - 1) l e)

pub call_kept : (sc : Scenario) (line : Line) (t n : ℕ) (call : Call) → 1 ≤ length sc.phases → nth_call sc t n ≡ Some call
    → nth_call (with_added sc line) t n ≡ Some call
call_kept sc line t n call some e = by_line (line_at sc t n) refl e
  where
    by_line : (o : Option (ℕ × Line)) → line_at sc t n ≡ o → call_in o ≡ Some call → nth_call (with_added sc line) t n ≡ Some call
    by_line None h g = absurd (cc)
    by_line (Some l) h g = ap call_in (line_kept sc line t n l some h) ∙ g

-- how many lines there are up to a phase
abbrev up_to : ℕ → List (ℕ × Line) → List (ℕ × Line)
up_to p xs = filter (λ (l : ℕ × Line). nat_le l.0 p) xs

until_added : (sc : Scenario) (line : Line) (p t : ℕ) → 1 ≤ length sc.phases
    → lines_until (with_added sc line) p t ≡ length (up_to p (lines_of sc t) ++ up_to p (new_lines sc line t))
until_added sc line p t some =
    ap (λ (xs : List (ℕ × Line)). length (up_to p xs)) (lines_added sc line t some)
    ∙ ap length (filter_more (λ (l : ℕ × Line). nat_le l.0 p) (lines_of sc t) (new_lines sc line t))

pub until_more : (sc : Scenario) (line : Line) (p t : ℕ) → 1 ≤ length sc.phases
    → lines_until sc p t ≤ lines_until (with_added sc line) p t
until_more sc line p t some =
    subst (λ n. lines_until sc p t ≤ n) (sym (until_added sc line p t some)) (longer (up_to p (lines_of sc t)) (up_to p (new_lines sc line t)))
  where
    longer : (xs ys : List (ℕ × Line)) → length xs ≤ length (xs ++ ys)
    longer [] ys = omega arith
    longer (x ∷ xs) ys = let i = longer xs ys in omega (arith, i)

-- before the last phase they are as many
pub until_same : (sc : Scenario) (line : Line) (p t : ℕ) → 1 ≤ length sc.phases → p < length sc.phases
    → lines_until (with_added sc line) p t ≡ lines_until sc p t
until_same sc line p t some early =
    until_added sc line p t some
    ∙ (ap (λ (xs : List (ℕ × Line)). length (up_to p (lines_of sc t) ++ xs)) (none (line.task == t))
    ∙ ap length (append-nil (up_to p (lines_of sc t))))
  where
    late : (a b : ℕ) → b < a → nat_le a b ≡ false
    late a b h = grind arith

    none : (b : Bool) → up_to p (if b then (length sc.phases, line) ∷ [] else []) ≡ []
    none true = rw (late (length sc.phases) p early) refl
    none false = refl

-- Limits.

all_in : (P : Line → Type 0) (p : List Line) (line : Line) → AllByRecursion P p → P line → AllByRecursion P (p ++ line ∷ [])
all_in P [] line a b = (b, tt)
all_in P (l ∷ p) line a b = (a.0, all_in P p line a.1 b)

all_added : (P : Line → Type 0) (p : List Line) (phases : List (List Line)) (line : Line)
    → AllByRecursion (λ lines. AllByRecursion P lines) (p ∷ phases) → P line
    → AllByRecursion (λ lines. AllByRecursion P lines) (with_line (p ∷ phases) line)
all_added P p [] line a b = (all_in P p line a.0 b, tt)
all_added P p (q ∷ phases) line a b =
    subst (AllByRecursion (λ lines. AllByRecursion P lines)) (sym (step p q phases line)) (a.0, all_added P q phases line a.1 b)

all_phases : (P : Line → Type 0) (phases : List (List Line)) (line : Line) → 1 ≤ length phases
    → AllByRecursion (λ lines. AllByRecursion P lines) phases → P line
    → AllByRecursion (λ lines. AllByRecursion P lines) (with_line phases line)
all_phases P [] line some a b = absurd (omega (arith, some))
all_phases P (p ∷ phases) line some a b = all_added P p phases line a b

joined_long : (p : List Line) (line : Line) → length (p ++ line ∷ []) ≡ length p + 1
joined_long [] line = refl
joined_long (l ∷ p) line = let e = joined_long p line in omega (arith, e)

count_added : (p : List Line) (phases : List (List Line)) (line : Line)
    → line_count (with_line (p ∷ phases) line) ≡ line_count (p ∷ phases) + 1
count_added p [] line = let e = joined_long p line in omega (arith, e)
count_added p (q ∷ phases) line =
    ap line_count (step p q phases line) ∙ (let e = count_added q phases line in more _ _ (length p) e)
  where
    more : (a b n : ℕ) → a ≡ b + 1 → n + a ≡ n + b + 1
    more a b n e = omega (arith, e)

all_counted : (phases : List (List Line)) (line : Line) → 1 ≤ length phases → line_count (with_line phases line) ≡ line_count phases + 1
all_counted [] line some = absurd (omega (arith, some))
all_counted (p ∷ phases) line some = count_added p phases line

pub limited_added : (sc : Scenario) (line : Line) → IsLimited sc → IsIn sc.version (length sc.flags) line
    → line_count sc.phases < MOST_CALLS → IsLimited (with_added sc line)
limited_added sc line h inside few = record {
  version = h.version;
  some_task = h.some_task;
  tasks = h.tasks;
  queues = h.queues;
  limits = h.limits;
  some_phase = subst (λ n. 1 ≤ n) (sym (phases_added sc line)) h.some_phase;
  phases = let e = phases_added sc line in omega (arith, e, h.phases);
  calls = let e = all_counted sc.phases line h.some_phase in omega (arith, e, few);
  lines = all_phases (IsIn sc.version (length sc.flags)) sc.phases line h.some_phase h.lines inside;
}
