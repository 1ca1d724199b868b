-- The lines of a task stand in the order of their phases.
use Rattle.std.proofs.Common.{◌≡◌, ℕ, zero, suc, ◌+◌, ◌-◌, ◌<◌, ◌≤◌, Bool, List, [], ◌∷◌, ◌++◌, refl, true, false, arith, ap, subst, length, map, Some}
use Rattle.std.specs.Prelude.{nat_le, slice_get, ◌==◌}
use Rattle.std.specs.List.{filter}
use Rattle.vch_model.specs.declared.call.Line.{Line}
use Rattle.vch_model.specs.declared.lists.Scenario.{Scenario}
use Rattle.vch_model.specs.Lines.{lines_from, lines_of, line_at, lines_until}
use Rattle.vch_legal.proofs.facts.Choices.{cases_bool}

-- the phases rise from a number on
abbrev Rising : ℕ → List (ℕ × Line) → Type 0
Rising p [] = Unit {0}
Rising p (x ∷ xs) = (p ≤ x.0) × Rising x.0 xs

lower : (p q : ℕ) (xs : List (ℕ × Line)) → p ≤ q → Rising q xs → Rising p xs
lower p q [] h r = tt
lower p q (x ∷ xs) h r = let g : q ≤ x.0 = r.0 in (omega arith, r.1)

mapped : (p : ℕ) (lines : List Line) (xs : List (ℕ × Line)) → Rising p xs
    → Rising p (map (λ line. (p, line)) lines ++ xs)
mapped p [] xs r = r
mapped p (l ∷ lines) xs r = (omega arith, mapped p lines xs r)

rising : (p : ℕ) (phases : List (List Line)) → Rising p (lines_from p phases)
rising p [] = tt
rising p (lines ∷ phases) = mapped p lines (lines_from (p + 1) phases)
    (lower p (p + 1) (lines_from (p + 1) phases) (omega arith) (rising (p + 1) phases))

filtered : (p : ℕ) (test : ℕ × Line → Bool) (xs : List (ℕ × Line)) → Rising p xs → Rising p (filter test xs)
filtered p test [] r = tt
filtered p test (x ∷ xs) r =
    cases_bool (test x) (Rising p (filter test (x ∷ xs)))
    (λ e. rw e (r.0, filtered x.0 test xs r.1))
    (λ e. rw e (lower p x.0 (filter test xs) r.0 (filtered x.0 test xs r.1)))

abbrev count : ℕ → List (ℕ × Line) → ℕ
count c xs = length (filter (λ l. nat_le l.0 c) xs)

at_least : (p : ℕ) (xs : List (ℕ × Line)) (i : ℕ) (l : ℕ × Line) → Rising p xs → slice_get xs i ≡ Some l → p ≤ l.0
at_least p [] i l r e = cc
at_least p (x ∷ xs) zero l r e = let g : x ≡ l = cc in subst (λ (y : ℕ × Line). p ≤ y.0) g r.0
at_least p (x ∷ xs) (suc i) l r e = let g : x.0 ≤ l.0 = at_least x.0 xs i l r.1 e in let h : p ≤ x.0 = r.0 in omega
    arith

none_early : (c p : ℕ) (xs : List (ℕ × Line)) → Rising p xs → c < p → count c xs ≡ 0
none_early c p [] r h = refl
none_early c p (x ∷ xs) r h =
    let g : p ≤ x.0 = r.0 in
    let e : nat_le x.0 c ≡ false = late x.0 c (omega arith) in
    rw e (none_early c x.0 xs r.1 (omega arith))
  where
    late : (a b : ℕ) → b < a → nat_le a b ≡ false
    late a b h = grind arith

early : (c p : ℕ) (xs : List (ℕ × Line)) (i : ℕ) (l : ℕ × Line) → Rising p xs → slice_get xs i ≡ Some l
    → i < count c xs → l.0 ≤ c
early c p [] i l r e h = cc
early c p (x ∷ xs) i l r e h =
    cases_bool (nat_le x.0 c) (l.0 ≤ c)
    (λ b. here (λ j k g. early c x.0 xs j l r.1 k g) b i e (rw b at h))
    (λ b. let k : i < count c xs = rw b at h in let z : count c xs
    ≡ 0 = none_early c x.0 xs r.1 (late x.0 c b) in absurd (omega arith))
  where
    late : (a b : ℕ) → nat_le a b ≡ false → b < a
    late a b h = grind arith

    le_of : (a b : ℕ) → nat_le a b ≡ true → a ≤ b
    le_of a b h = grind arith

    here : ((j : ℕ) → slice_get xs j ≡ Some l → j < count c xs → l.0 ≤ c) → nat_le x.0 c ≡ true → (i : ℕ)
        → slice_get (x ∷ xs) i ≡ Some l → i < suc (count c xs) → l.0 ≤ c
    here rec b zero e h = let g : x ≡ l = cc in subst (λ (y : ℕ × Line). y.0 ≤ c) g (le_of x.0 c b)
    here rec b (suc j) e h = rec j e (omega arith)

late : (c p : ℕ) (xs : List (ℕ × Line)) (i : ℕ) (l : ℕ × Line) → Rising p xs → slice_get xs i ≡ Some l
    → count c xs ≤ i → c < l.0
late c p [] i l r e h = cc
late c p (x ∷ xs) i l r e h =
    cases_bool (nat_le x.0 c) (c < l.0)
    (λ b. here (λ j k g. late c x.0 xs j l r.1 k g) b i e (rw b at h))
    (λ b. let k : c < x.0 = lt_of x.0 c b in let g : x.0 ≤ l.0 = at_least x.0 (x ∷ xs) i l (self x.0, r.1) e in omega
    arith)
  where
    lt_of : (a b : ℕ) → nat_le a b ≡ false → b < a
    lt_of a b h = grind arith

    self : (a : ℕ) → a ≤ a
    self a = omega arith

    here : ((j : ℕ) → slice_get xs j ≡ Some l → count c xs ≤ j → c < l.0) → nat_le x.0 c ≡ true → (i : ℕ)
        → slice_get (x ∷ xs) i ≡ Some l → suc (count c xs) ≤ i → c < l.0
    here rec b zero e h = absurd (omega arith)
    here rec b (suc j) e h = rec j e (omega arith)

-- the phase of a line is the one up to which the lines of its task reach it first
pub phase_of_line : (sc : Scenario) (t n p : ℕ) (l : ℕ × Line) → line_at sc t n ≡ Some l → lines_until sc p t < n
    → n ≤ lines_until sc (p + 1) t → l.0 ≡ p + 1
phase_of_line sc t n p l e low high =
    let r : Rising 1 (lines_of sc t) = filtered 1 (λ x. x.1.task == t) (lines_from 1 sc.phases) (rising 1 sc.phases) in
    let a : p < l.0 = late p 1 (lines_of sc t) (n - 1) l r e (omega arith) in
    let b : l.0 ≤ p + 1 = early (p + 1) 1 (lines_of sc t) (n - 1) l r e (omega arith) in
    omega arith

-- all lines are of phases below a number
abbrev Below : ℕ → List (ℕ × Line) → Type 0
Below c [] = Unit {0}
Below c (x ∷ xs) = (x.0 ≤ c) × Below c xs

below_mapped : (c p : ℕ) (lines : List Line) (xs : List (ℕ × Line)) → p ≤ c → Below c xs
    → Below c (map (λ line. (p, line)) lines ++ xs)
below_mapped c p [] xs h b = b
below_mapped c p (l ∷ lines) xs h b = (h, below_mapped c p lines xs h b)

below : (c p : ℕ) (phases : List (List Line)) → p + length phases ≤ c + 1 → Below c (lines_from p phases)
below c p [] h = tt
below c p (lines ∷ phases) h = below_mapped c p lines (lines_from (p + 1) phases) (omega arith)
    (below c (p + 1) phases (omega arith))

below_filtered : (c : ℕ) (test : ℕ × Line → Bool) (xs : List (ℕ × Line)) → Below c xs → Below c (filter test xs)
below_filtered c test [] b = tt
below_filtered c test (x ∷ xs) b =
    cases_bool (test x) (Below c (filter test (x ∷ xs)))
    (λ e. rw e (b.0, below_filtered c test xs b.1))
    (λ e. rw e (below_filtered c test xs b.1))

all_counted : (c : ℕ) (xs : List (ℕ × Line)) → Below c xs → count c xs ≡ length xs
all_counted c [] b = refl
all_counted c (x ∷ xs) b =
    let e : nat_le x.0 c ≡ true = le_true x.0 c b.0 in rw e (ap suc (all_counted c xs b.1))
  where
    le_true : (a b : ℕ) → a ≤ b → nat_le a b ≡ true
    le_true a b h = grind arith

-- after the last phase all lines are counted
pub all_lines : (sc : Scenario) (t p : ℕ) → length sc.phases ≤ p → lines_until sc p t ≡ length (lines_of sc t)
all_lines sc t p h = all_counted p (lines_of sc t)
    (below_filtered p (λ x. x.1.task == t) (lines_from 1 sc.phases) (below p 1 sc.phases (omega arith)))

-- before the first phase there is no line
pub no_lines : (sc : Scenario) (t : ℕ) → lines_until sc 0 t ≡ 0
no_lines sc t = none_early 0 1 (lines_of sc t)
    (filtered 1 (λ x. x.1.task == t) (lines_from 1 sc.phases) (rising 1 sc.phases)) (omega arith)

more_counted : (c : ℕ) (xs : List (ℕ × Line)) → count c xs ≤ count (c + 1) xs
more_counted c [] = omega arith
more_counted c (x ∷ xs) =
    let i : count c xs ≤ count (c + 1) xs = more_counted c xs in
    cases_bool (nat_le x.0 c) (count c (x ∷ xs) ≤ count (c + 1) (x ∷ xs))
    (λ a. let b : nat_le x.0 (c + 1) ≡ true = wider x.0 c a in rw (a, b) (omega arith))
    (λ a. cases_bool (nat_le x.0 (c + 1)) (count c (x ∷ xs) ≤ count (c + 1) (x ∷ xs))
    (λ b. rw (a, b) (omega arith))
    (λ b. rw (a, b) i))
  where
    wider : (a b : ℕ) → nat_le a b ≡ true → nat_le a (b + 1) ≡ true
    wider a b h = grind arith

-- a further phase has no fewer lines
pub more_lines : (sc : Scenario) (p t : ℕ) → lines_until sc p t ≤ lines_until sc (p + 1) t
more_lines sc p t = more_counted p (lines_of sc t)
