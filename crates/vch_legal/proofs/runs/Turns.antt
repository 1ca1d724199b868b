-- The schedules in turn and by seed give runs: each of their moves can happen.
use Rattle.std.proofs.Common.{◌≡◌, ℕ, zero, suc, ◌+◌, ◌<◌, ◌≤◌, Bool, List, [], ◌∷◌, ◌++◌, refl, true, false, arith, sym, ap, ◌∙◌, subst, length, Some, None, Option}
use Rattle.std.proofs.lemmas.List.Sums.{length-filter}
use Rattle.std.specs.Prelude.{◌==◌, nat_lt, is_some, cond}
use Rattle.std.specs.List.{count_by, filter, AllByRecursion}
use Rattle.vch_model.specs.declared.call.Line.{Line}
use Rattle.vch_model.specs.declared.lists.Scenario.{Scenario}
use Rattle.vch_model.specs.Lines.{is_task, phases_in, lines_until}
use Rattle.vch_model.specs.Scenarios.{IsIn}
use Rattle.vch_machine.specs.State.{Frame, Machine, tasked, member_of}
use Rattle.vch_machine.specs.Events.{numbers}
use Rattle.vch_machine.specs.Next.{next_kind, task_next}
use Rattle.vch_machine.specs.Schedules.{lowest_open, first_waiting}
use Rattle.vch_legal.specs.Facts.{bit}
use Rattle.vch_legal.specs.Tie.{IsForming, IsOpen}
use Rattle.vch_legal.proofs.facts.Choices.{cases_bool}
use Rattle.vch_legal.proofs.tasks.OwnSteps.{Before}
use Rattle.vch_legal.proofs.store.AtRest.{frame_has_next, task_of}
use Rattle.vch_legal.proofs.lines.PhaseCounts.{of_task}

-- the tasks

all_append : (P : ℕ → Type 0) (xs : List ℕ) (x : ℕ) → AllByRecursion P xs → P x → AllByRecursion P (xs ++ x ∷ [])
all_append P [] x h k = (k, tt)
all_append P (y ∷ xs) x h k = (h.0, all_append P xs x h.1 k)

pub all_numbers : (P : ℕ → Type 0) (n : ℕ) → ((t : ℕ) → 0 < t → t ≤ n → P t) → AllByRecursion P (numbers n)
all_numbers P zero h = tt
all_numbers P (suc n) h = all_append P (numbers n) (suc n) (all_numbers P n (λ t a b. h t a (omega arith)))
    (h (suc n) (omega arith) (omega arith))

front_of : (P : ℕ → Type 0) (xs : List ℕ) (x : ℕ) → AllByRecursion P (xs ++ x ∷ []) → AllByRecursion P xs
front_of P [] x h = tt
front_of P (y ∷ xs) x h = (h.0, front_of P xs x h.1)

last_of : (P : ℕ → Type 0) (xs : List ℕ) (x : ℕ) → AllByRecursion P (xs ++ x ∷ []) → P x
last_of P [] x h = h.0
last_of P (y ∷ xs) x h = last_of P xs x h.1

pub number_of_all : (P : ℕ → Type 0) (n : ℕ) → AllByRecursion P (numbers n) → (t : ℕ) → 0 < t → t ≤ n → P t
number_of_all P zero h t a b = absurd (omega arith)
number_of_all P (suc n) h t a b =
    cases_bool (t == suc n) (P t)
    (λ here. subst P (sym (number t (suc n) here)) (last_of P (numbers n) (suc n) h))
    (λ other. number_of_all P n (front_of P (numbers n) (suc n) h) t a (earlier t n b other))
  where
    number : (a b : ℕ) → (a == b) ≡ true → a ≡ b
    number a b e = grind arith

    earlier : (a b : ℕ) → a ≤ suc b → (a == suc b) ≡ false → a ≤ b
    earlier a b h e = grind arith

pub all_tasks : (sc : Scenario) → AllByRecursion (λ t. is_task sc t ≡ true) (numbers (length sc.flags))
all_tasks sc = all_numbers (λ t. is_task sc t ≡ true) (length sc.flags) (λ t a b. task_of sc t a b)

-- the lowest task with a frame

pub record Opened (sc : Scenario) (m : Machine) (t : ℕ) : Type 0 where
  pub task : is_task sc t ≡ true
  pub frame : is_some (tasked m t).frame ≡ true

some_number : {a b : ℕ} → Some a ≡ Some b → a ≡ b
some_number e = cc

pub lowest_some : (sc : Scenario) (m : Machine) (ts : List ℕ) (t : ℕ) → AllByRecursion (λ t. is_task sc t ≡ true) ts
    → lowest_open m ts ≡ Some t → Opened sc m t
lowest_some sc m [] t h e = cc
lowest_some sc m (u ∷ ts) t h e =
    cases_bool (is_some (tasked m u).frame) (Opened sc m t)
    (λ here. let g : Some u ≡ Some t = rw here at e in subst (Opened sc m) (some_number g)
    (record { task = h.0; frame = here }))
    (λ other. lowest_some sc m ts t h.1 (rw other at e))

pub lowest_none : (m : Machine) (ts : List ℕ) → lowest_open m ts ≡ None
    → AllByRecursion (λ t. is_some (tasked m t).frame ≡ false) ts
lowest_none m [] e = tt
lowest_none m (u ∷ ts) e =
    cases_bool (is_some (tasked m u).frame) (AllByRecursion (λ t. is_some (tasked m t).frame ≡ false) (u ∷ ts))
    (λ here. let g : Some u ≡ None = rw here at e in cc)
    (λ other. (other, lowest_none m ts (rw other at e)))

-- a frame has a next event
pub opened_next : (sc : Scenario) (m : Machine) (t : ℕ) → Before sc t m → is_some (tasked m t).frame ≡ true
    → is_some (next_kind sc m t) ≡ true
opened_next sc m t s h = by_frame (tasked m t).frame refl h s.forming s.open_frame
  where
    by_frame : (f : Option Frame) → (tasked m t).frame ≡ f → is_some f ≡ true
        → IsForming sc m.live (member_of m.live (tasked m t)) t (tasked m t).begun f → IsOpen f
        → is_some (task_next sc (phases_in m.past) t (tasked m t) f) ≡ true
    by_frame None e h g o = cc
    by_frame (Some f) e h g o = frame_has_next sc m.live (member_of m.live (tasked m t)) t (tasked m t).begun
        (tasked m t).names f g o

-- the first line that was not begun

pub count_cons : (t x : ℕ) (xs : List ℕ) → count_by (λ u. u == t) (x ∷ xs) ≡ bit (x == t) + count_by (λ u. u == t) xs
count_cons t x xs =
    sym (length-filter (λ u. u == t) (x ∷ xs)) ∙ (by_test (x == t)
    ∙ ap (λ n. bit (x == t) + n) (length-filter (λ u. u == t) xs))
  where
    by_test : (b : Bool) → length (cond b (x ∷ filter (λ u. u == t) xs) (filter (λ u. u == t) xs))
        ≡ bit b + length (filter (λ u. u == t) xs)
    by_test true = omega arith
    by_test false = omega arith

abbrev begun_by : Machine → ℕ → ℕ
begun_by m t = (tasked m t).begun

abbrev so_far : Scenario → Machine → ℕ → ℕ
so_far sc m t = lines_until sc (phases_in m.past) t

pub own_number : (a : ℕ) → (a == a) ≡ true
own_number a = grind arith

at_most : (a b : ℕ) → nat_lt a b ≡ false → b ≤ a
at_most a b h = grind arith

above : (a b : ℕ) → nat_lt a b ≡ true → a < b
above a b h = grind arith

pub waiting_some : (sc : Scenario) (m : Machine) (seen : List ℕ) (lines : List Line) (t : ℕ)
    → first_waiting sc m seen lines ≡ Some t
    → begun_by m t < count_by (λ u. u == t) seen + of_task t lines + so_far sc m t
waiting_some sc m seen [] t e = cc
waiting_some sc m seen (line ∷ lines) t e =
    cases_bool (nat_lt (count_by (λ u. u == line.task) seen + so_far sc m line.task) (begun_by m line.task))
    (begun_by m t < count_by (λ u. u == t) seen + of_task t (line ∷ lines) + so_far sc m t)
    (λ b. let i : begun_by m t < count_by (λ u. u == t) (line.task ∷ seen) + of_task t lines + so_far sc m t =
    waiting_some sc m (line.task ∷ seen) lines t (rw b at e) in
    let c : count_by (λ u. u == t) (line.task ∷ seen) ≡ bit (line.task == t) + count_by (λ u. u == t) seen =
    count_cons t line.task seen in omega arith)
    (λ b. let g : Some line.task ≡ Some t = rw b at e in
    subst (λ u. begun_by m u < count_by (λ v. v == u) seen + of_task u (line ∷ lines) + so_far sc m u) (some_number g)
    (let h : begun_by m line.task ≤ count_by (λ u. u == line.task) seen + so_far sc m line.task = at_most _ _ b in
    let k : bit (line.task == line.task) ≡ 1 = ap bit (own_number line.task) in omega arith))

pub waiting_in : (sc : Scenario) (m : Machine) (seen : List ℕ) (lines : List Line) (t : ℕ)
    → AllByRecursion (λ l. IsIn sc.version (length sc.flags) l) lines → first_waiting sc m seen lines ≡ Some t
    → is_task sc t
    ≡ true
waiting_in sc m seen [] t h e = cc
waiting_in sc m seen (line ∷ lines) t h e =
    cases_bool (nat_lt (count_by (λ u. u == line.task) seen + so_far sc m line.task) (begun_by m line.task))
    (is_task sc t ≡ true)
    (λ b. waiting_in sc m (line.task ∷ seen) lines t h.1 (rw b at e))
    (λ b. let g : Some line.task ≡ Some t = rw b at e in subst (λ u. is_task sc u ≡ true) (some_number g)
    (task_of sc line.task h.0.0 h.0.1))

pub waiting_none : (sc : Scenario) (m : Machine) (seen : List ℕ) (lines : List Line) (t : ℕ)
    → first_waiting sc m seen lines ≡ None → 0 < of_task t lines
    → count_by (λ u. u == t) seen + of_task t lines + so_far sc m t ≤ begun_by m t
waiting_none sc m seen [] t e h = absurd (omega arith)
waiting_none sc m seen (line ∷ lines) t e h =
    cases_bool (nat_lt (count_by (λ u. u == line.task) seen + so_far sc m line.task) (begun_by m line.task))
    (count_by (λ u. u == t) seen + of_task t (line ∷ lines) + so_far sc m t ≤ begun_by m t)
    (λ b. cases_bool (nat_lt 0 (of_task t lines))
    (count_by (λ u. u == t) seen + of_task t (line ∷ lines) + so_far sc m t ≤ begun_by m t)
    (λ some. let i : count_by (λ u. u == t) (line.task ∷ seen) + of_task t lines + so_far sc m t ≤ begun_by m t =
    waiting_none sc m (line.task ∷ seen) lines t (rw b at e) (above _ _ some) in
    let c : count_by (λ u. u == t) (line.task ∷ seen) ≡ bit (line.task == t) + count_by (λ u. u == t) seen =
    count_cons t line.task seen in omega arith)
    (λ none. last_one b (at_most _ _ none) (line.task == t) refl))
    (λ b. let g : Some line.task ≡ None = rw b at e in cc)
  where
    number : (a b : ℕ) → (a == b) ≡ true → a ≡ b
    number a b e = grind arith

    last_one : nat_lt (count_by (λ u. u == line.task) seen + so_far sc m line.task) (begun_by m line.task) ≡ true
        → of_task t lines ≤ 0 → (c : Bool) → (line.task == t) ≡ c
        → count_by (λ u. u == t) seen + of_task t (line ∷ lines) + so_far sc m t ≤ begun_by m t
    last_one b z true g =
        let k : count_by (λ u. u == t) seen + so_far sc m t < begun_by m t = subst
        (λ u. count_by (λ v. v == u) seen + so_far sc m u < begun_by m u) (number line.task t g) (above _ _ b) in
        let n : bit (line.task == t) ≡ 1 = ap bit g in omega arith
    last_one b z false g = let n : bit (line.task == t) ≡ 0 = ap bit g in absurd (omega arith)
