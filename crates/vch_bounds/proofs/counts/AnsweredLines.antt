-- Each answer is of a line of its task, so there are no more answers than lines.
use Rattle.std.proofs.Common.{◌≡◌, ℕ, zero, suc, ◌+◌, ◌-◌, ◌<◌, ◌≤◌, Bool, ap, cond, List, [], ◌∷◌, refl, true, false, arith, subst, length, Some, None, Option}
use Rattle.std.specs.Prelude.{if◌then◌else◌, ◌==◌, slice_get}
use Rattle.std.specs.List.{filter}
use Rattle.vch_model.specs.declared.call.Call.{Call}
use Rattle.vch_model.specs.declared.call.Line.{Line}
use Rattle.vch_model.specs.declared.entry.Entry.{Entry}
use Rattle.vch_model.specs.declared.entry.Entry.TheVariants as entries
use Rattle.vch_model.specs.declared.lists.Scenario.{Scenario}
use Rattle.vch_model.specs.Legal.{LegalPast, Answers}
use Rattle.vch_model.specs.Lines.{lines_from, lines_of, line_at, calls_in, phases_in, current_call, call_of_phase}
use Rattle.vch_model.specs.After.{store_of}
use Rattle.vch_model.specs.declared.call.Word.{Word}
use Rattle.vch_model.specs.declared.entry.Reply.{Reply}
use Rattle.vch_legal.specs.Facts.{bit}
use Rattle.vch_script.specs.Places.{IsOfTask, AreOfTasks}
use Rattle.vch_legal.proofs.CallerLemmas.{lines_of_tasks, all_of_tasks, line_has}
use Rattle.vch_bounds.specs.Rooms.{answers_in, calls_of, is_answer}

-- a place that has an item is within the list
inside : {A : Type 0} (xs : List A) (i : ℕ) (x : A) → slice_get xs i ≡ Some x → i < length xs
inside [] i x e = cc
inside (y ∷ xs) zero x e = omega arith
inside (y ∷ xs) (suc i) x e = let r = inside xs i x e in omega (arith, r)

line_there : (phase : ℕ) (xs : List (ℕ × Line)) (i : ℕ) (o : Option (ℕ × Line)) (call : Call) → slice_get xs i ≡ o
    → call_of_phase phase o ≡ Some call → i < length xs
line_there phase xs i None call e h = cc
line_there phase xs i (Some l) call e h = inside xs i l e

-- the answer is of a line
answered : (sc : Scenario) (past : List Entry) (t : ℕ) (o : Option Call) → current_call sc past t ≡ o
    → (o ≡ None → ⊥) → calls_in past t + 1 ≤ length (lines_of sc t)
answered sc past t None e some = absurd (some refl)
answered sc past t (Some call) e some =
    let a : calls_in past t + 1 - 1 < length (lines_of sc t) =
    line_there (phases_in past + 1) (lines_of sc t) (calls_in past t + 1 - 1) (line_at sc t (calls_in past t + 1)) call refl e in
    omega (arith, a)

-- an answer is of a call that is there
there : (sc : Scenario) (past : List Entry) (t : ℕ) (word : Word) (reply : Reply) (o : Option Call)
    → Answers sc past (store_of sc past) t o word reply → o ≡ None → ⊥
there sc past t word reply None a e = a
there sc past t word reply (Some call) a e = cc

-- the answers of one task are no more than its lines
pub of_task : (sc : Scenario) (past : List Entry) (u : ℕ) → LegalPast sc past → calls_in past u ≤ length (lines_of sc u)
of_task sc [] u h = omega arith
of_task sc (entries.Call t n word reply ∷ past) u h = by_test (t == u) refl (of_task sc past u h.0)
  where
    same : (a b : ℕ) → (a == b) ≡ true → a ≡ b
    same a b e = grind arith

    by_test : (b : Bool) → (t == u) ≡ b → calls_in past u ≤ length (lines_of sc u)
        → calls_in past u + (if b then 1 else 0) ≤ length (lines_of sc u)
    by_test true e r =
        subst (λ v. calls_in past v + 1 ≤ length (lines_of sc v)) (same t u e)
        (answered sc past t (current_call sc past t) refl (there sc past t word reply (current_call sc past t) h.1.1))
    by_test false e r = omega (arith, r)
of_task sc (entries.Made k x ∷ past) u h = of_task sc past u h.0
of_task sc (entries.Released e ∷ past) u h = of_task sc past u h.0
of_task sc (entries.Gone t name ∷ past) u h = of_task sc past u h.0
of_task sc (entries.Lost t ∷ past) u h = of_task sc past u h.0
of_task sc (entries.Phase ∷ past) u h = of_task sc past u h.0

-- the answers of so many tasks, from a number on
abbrev pub answers_of : List Entry → ℕ → ℕ → ℕ
answers_of past u zero = 0
answers_of past u (suc n) = calls_in past u + answers_of past (u + 1) n

of_tasks : (sc : Scenario) (past : List Entry) (u n : ℕ) → LegalPast sc past → answers_of past u n ≤ lines_of_tasks sc u n
of_tasks sc past u zero h = omega arith
of_tasks sc past u (suc n) h =
    let a : calls_in past u ≤ length (lines_of sc u) = of_task sc past u h in
    let b : answers_of past (u + 1) n ≤ lines_of_tasks sc (u + 1) n = of_tasks sc past (u + 1) n h in
    omega (arith, a, b)

-- one answer more of one of these tasks
one_more : (past : List Entry) (t u n : ℕ) (entry : Entry)
    → ((v : ℕ) → calls_in (entry ∷ past) v ≡ calls_in past v + (if t == v then 1 else 0))
    → u ≤ t → t < u + n → answers_of past u n + 1 ≤ answers_of (entry ∷ past) u n
one_more past t u zero entry h low high = absurd (omega (arith, low, high))
one_more past t u (suc n) entry h low high =
    by_test (t == u) refl (h u) (λ k. one_more past t (u + 1) n entry h (above t u k low) (omega (arith, high)))
  where
    no_less : (u n : ℕ) → answers_of past u n ≤ answers_of (entry ∷ past) u n
    no_less u zero = omega arith
    no_less u (suc n) =
        let a : calls_in (entry ∷ past) u ≡ calls_in past u + (if t == u then 1 else 0) = h u in
        let b : answers_of past (u + 1) n ≤ answers_of (entry ∷ past) (u + 1) n = no_less (u + 1) n in
        up _ _ _ _ (if t == u then 1 else 0) a b
      where
        up : (a b c d k : ℕ) → b ≡ a + k → c ≤ d → a + c ≤ b + d
        up a b c d k e l = omega arith

    above : (t u : ℕ) → (t == u) ≡ false → u ≤ t → u + 1 ≤ t
    above t u e l = grind arith

    by_test : (b : Bool) → (t == u) ≡ b → calls_in (entry ∷ past) u ≡ calls_in past u + (if b then 1 else 0)
        → ((t == u) ≡ false → answers_of past (u + 1) n + 1 ≤ answers_of (entry ∷ past) (u + 1) n)
        → calls_in past u + answers_of past (u + 1) n + 1 ≤ calls_in (entry ∷ past) u + answers_of (entry ∷ past) (u + 1) n
    by_test true e g rec = let a = no_less (u + 1) n in omega (arith, a, g)
    by_test false e g rec = let a = rec e in omega (arith, a, g)

-- an entry that is no answer
not_fewer : (past : List Entry) (u n : ℕ) (entry : Entry) → is_answer entry ≡ false
    → ((v : ℕ) → calls_in (entry ∷ past) v ≡ calls_in past v) → answers_in past ≤ answers_of past u n
    → answers_in (entry ∷ past) ≤ answers_of (entry ∷ past) u n
not_fewer past u n entry e h l =
    let a : bit (is_answer entry) ≡ 0 = ap bit e in let b = same u n in omega (arith, a, b, l)
  where
    same : (u n : ℕ) → answers_of (entry ∷ past) u n ≡ answers_of past u n
    same u zero = refl
    same u (suc n) = let a = h u in let b = same (u + 1) n in omega (arith, a, b)

-- the tasks of all answers are among so many, from a number on
abbrev AreAmong : ℕ → ℕ → List Entry → Type 0
AreAmong u n [] = Unit {0}
AreAmong u n (entries.Call t i word reply ∷ past) = (u ≤ t) × (t < u + n) × AreAmong u n past
AreAmong u n (entry ∷ past) = AreAmong u n past

all_answers : (past : List Entry) (u n : ℕ) → AreAmong u n past → answers_in past ≤ answers_of past u n
all_answers [] u n h = omega arith
all_answers (entries.Call t i word reply ∷ past) u n h =
    let r = all_answers past u n h.2 in
    let a = one_more past t u n (entries.Call t i word reply) (λ v. refl) h.0 h.1 in
    omega (arith, r, a)
all_answers (entries.Made k x ∷ past) u n h = not_fewer past u n (entries.Made k x) refl (λ v. refl) (all_answers past u n h)
all_answers (entries.Released e ∷ past) u n h = not_fewer past u n (entries.Released e) refl (λ v. refl) (all_answers past u n h)
all_answers (entries.Gone t name ∷ past) u n h = not_fewer past u n (entries.Gone t name) refl (λ v. refl) (all_answers past u n h)
all_answers (entries.Lost t ∷ past) u n h = not_fewer past u n (entries.Lost t) refl (λ v. refl) (all_answers past u n h)
all_answers (entries.Phase ∷ past) u n h = not_fewer past u n entries.Phase refl (λ v. refl) (all_answers past u n h)

-- no task of an answer has a larger number
abbrev largest : List Entry → ℕ
largest [] = 0
largest (entries.Call t n word reply ∷ past) = t + largest past
largest (entry ∷ past) = largest past

up_to_largest : (past : List Entry) (n : ℕ) → largest past < n → AreAmong 0 n past
up_to_largest [] n l = tt
up_to_largest (entries.Call t i word reply ∷ past) n l =
    (omega arith, omega (arith, l), up_to_largest past n (omega (arith, l)))
up_to_largest (entries.Made k x ∷ past) n l = up_to_largest past n l
up_to_largest (entries.Released e ∷ past) n l = up_to_largest past n l
up_to_largest (entries.Gone t name ∷ past) n l = up_to_largest past n l
up_to_largest (entries.Lost t ∷ past) n l = up_to_largest past n l
up_to_largest (entries.Phase ∷ past) n l = up_to_largest past n l

-- the answers of a legal history are no more than the scenario's calls
pub answers_few : (sc : Scenario) (past : List Entry) → LegalPast sc past → answers_in past ≤ calls_of sc
answers_few sc past h =
    let a = all_answers past 0 (suc (largest past)) (up_to_largest past (suc (largest past)) (omega arith)) in
    let b = of_tasks sc past 0 (suc (largest past)) h in
    let c : lines_of_tasks sc 0 (suc (largest past)) ≤ calls_of sc = all_of_tasks sc 0 (suc (largest past)) in
    omega (arith, a, b, c)

-- Where each line is of a task, so is each answer.

passes : {A : Type 0} (p : A → Bool) (xs : List A) (i : ℕ) (x : A) → slice_get (filter p xs) i ≡ Some x → p x ≡ true
passes p [] i x e = cc
passes {A = A} p (y ∷ xs) i x e = by_test (p y) refl e (λ j h. passes p xs j x h)
  where
    some_eq : {a b : A} → Some a ≡ Some b → a ≡ b
    some_eq h = cc

    by_test : (b : Bool) → p y ≡ b → slice_get (cond b (y ∷ filter p xs) (filter p xs)) i ≡ Some x
        → ((j : ℕ) → slice_get (filter p xs) j ≡ Some x → p x ≡ true) → p x ≡ true
    by_test false h g rec = rec i g
    by_test true h g rec = at_place i g
      where
        at_place : (i : ℕ) → slice_get (y ∷ filter p xs) i ≡ Some x → p x ≡ true
        at_place zero g = subst (λ z. p z ≡ true) (some_eq g) h
        at_place (suc j) g = rec j g

task_of_answer : (sc : Scenario) (past : List Entry) (t : ℕ) (o : Option (ℕ × Line)) → AreOfTasks (length sc.flags) sc.phases
    → line_at sc t (calls_in past t + 1) ≡ o → (call_of_phase (phases_in past + 1) o ≡ None → ⊥) → (1 ≤ t) × (t ≤ length sc.flags)
task_of_answer sc past t None h e some = absurd (some refl)
task_of_answer sc past t (Some l) h e some =
    let a : IsOfTask (length sc.flags) l.1 = line_has (IsOfTask (length sc.flags)) sc t (calls_in past t + 1) l h e in
    let b : l.1.task ≡ t = same l.1.task t (passes (λ (x : ℕ × Line). x.1.task == t) (lines_from 1 sc.phases) _ l e) in
    (omega (arith, a.0, b), omega (arith, a.1, b))
  where
    same : (a b : ℕ) → (a == b) ≡ true → a ≡ b
    same a b e = grind arith

are_in_range : (sc : Scenario) (past : List Entry) → AreOfTasks (length sc.flags) sc.phases → LegalPast sc past
    → AreAmong 1 (length sc.flags) past
are_in_range sc [] h l = tt
are_in_range sc (entries.Call t i word reply ∷ past) h l =
    let a = task_of_answer sc past t (line_at sc t (calls_in past t + 1)) h refl
    (there sc past t word reply (current_call sc past t) l.1.1) in
    (a.0, omega (arith, a.1), are_in_range sc past h l.0)
are_in_range sc (entries.Made k x ∷ past) h l = are_in_range sc past h l.0
are_in_range sc (entries.Released e ∷ past) h l = are_in_range sc past h l.0
are_in_range sc (entries.Gone t name ∷ past) h l = are_in_range sc past h l.0
are_in_range sc (entries.Lost t ∷ past) h l = are_in_range sc past h l.0
are_in_range sc (entries.Phase ∷ past) h l = are_in_range sc past h l.0

pub answers_in_range : (sc : Scenario) (past : List Entry) → AreOfTasks (length sc.flags) sc.phases → LegalPast sc past
    → answers_in past ≤ answers_of past 1 (length sc.flags)
answers_in_range sc past h l = all_answers past 1 (length sc.flags) (are_in_range sc past h l)
