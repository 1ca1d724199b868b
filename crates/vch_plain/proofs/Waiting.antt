-- The first line of the phase that was not begun, found with a cursor.
use Rattle.std.proofs.Common.{◌≡◌, ℕ, zero, suc, ◌+◌, ◌-◌, ◌<◌, ◌≤◌, ◌==◌, true, false, List, [], ◌∷◌, ◌++◌, refl, arith, sym, ap, ◌∙◌, length, length-append, get_or, replicate, subst, Some, None}
use Rattle.std.specs.Prelude.{nat_lt, slice_get}
use Rattle.std.specs.List.{count_by, AllByRecursion}
use Rattle.std.proofs.Math.ListN.{set}
use Rattle.std.proofs.lemmas.List.{length-set}
use Rattle.std.proofs.lemmas.Grind.{common_steps}
use Rattle.vch_model.specs.declared.call.Line.{Line}
use Rattle.vch_model.specs.declared.lists.Scenario.{Scenario}
use Rattle.vch_model.specs.Lines.{is_task, lines_until, phases_in}
use Rattle.vch_model.specs.Scenarios.{IsLimited}
use Rattle.vch_machine.specs.State.{Machine, tasked, start}
use Rattle.vch_machine.specs.Schedules.{first_waiting}
use Rattle.vch_legal.specs.Facts.{bit}
use Rattle.vch_legal.proofs.CallerLemmas.{task_of, count_cons, no_lines}
use Rattle.vch_script.specs.Places.{IsOfTask, AreOfTasks}
use Rattle.vch_script.proofs.CallerLemmas.{of_tasks}
use Rattle.vch_plain.specs.declared.turn.Cursor.{Cursor}
use Rattle.vch_plain.specs.Turning.{AreBegun, IsCursor, seen_after, lines_before, current_lines, waiting_of}
use Rattle.vch_plain.proofs.Acting.{number_within}
use Rattle.vch_plain.proofs.Passing.{set_count}

-- the lines of a phase are of tasks
pub phase_of_tasks : (n : ℕ) (phases : List (List Line)) (i : ℕ) → AreOfTasks n phases → AllByRecursion (IsOfTask n) (get_or phases i [])
phase_of_tasks n [] i h = tt
phase_of_tasks n (lines ∷ phases) zero h = h.0
phase_of_tasks n (lines ∷ phases) (suc i) h = phase_of_tasks n phases i h.1

pub lines_of_limited : (sc : Scenario) → IsLimited sc → AreOfTasks (length sc.flags) sc.phases
lines_of_limited sc l = of_tasks sc.version (length sc.flags) sc.phases l.lines

-- A cursor at the start.

abbrev zeros : ℕ → List ℕ
zeros n = replicate n 0

zero_at : (n i : ℕ) → get_or (zeros n) i 0 ≡ 0
zero_at zero i = refl
zero_at (suc n) zero = refl
zero_at (suc n) (suc i) = zero_at n i

pub cursor_first : (sc : Scenario) (m : Machine) (cursor : Cursor) → m ≡ start sc → cursor ≡ record { line = 0; passed = replicate 64 0 } → IsCursor sc m cursor
cursor_first sc m cursor e z = rw (e, z) (record {
  passed_lines = [];
  rest = get_or sc.phases 0 [];
  lines = refl;
  line = refl;
  begun = tt;
  long = refl;
  passed = λ t task. zero_at 64 (t - 1) ∙ sym (let a : lines_until sc 0 t ≡ 0 = no_lines sc t in omega (arith, a));
})

-- the begun lines are passed over
passes : (sc : Scenario) (m : Machine) (seen : List ℕ) (xs ys : List Line)
    → AreBegun sc (phases_in m.past) m seen xs → first_waiting sc m seen (xs ++ ys) ≡ first_waiting sc m (seen_after seen xs) ys
passes sc m seen [] ys b = refl
passes sc m seen (x ∷ xs) ys b =
    let l : lines_before sc (phases_in m.past) seen x.task < (tasked m x.task).begun = b.0 in
    let t : nat_lt (lines_before sc (phases_in m.past) seen x.task) (tasked m x.task).begun ≡ true = grind (arith, common_steps) in
    rw t (passes sc m (x.task ∷ seen) xs ys b.1)

waiting_from : (sc : Scenario) (cursor : Cursor) (m : Machine) (c : IsCursor sc m cursor)
    → waiting_of sc m ≡ first_waiting sc m (seen_after [] c.passed_lines) c.rest
waiting_from sc cursor m c = ap (first_waiting sc m []) c.lines ∙ passes sc m [] c.passed_lines c.rest c.begun

-- the line at the cursor
pub record AtLine (sc : Scenario) (m : Machine) (cursor : Cursor) (c : IsCursor sc m cursor) (x : Line) : Type 0 where
  pub more : List Line
  pub rest : c.rest ≡ x ∷ more

split_get : (xs ys : List Line) (x : Line) → slice_get (xs ++ ys) (length xs) ≡ Some x → (more : List Line) × (ys ≡ x ∷ more)
split_get [] [] x e = cc
split_get [] (y ∷ ys) x e = let q : y ≡ x = cc in (ys, ap (λ z. z ∷ ys) q)
split_get (z ∷ xs) ys x e = split_get xs ys x e

pub at_line : (sc : Scenario) (m : Machine) (cursor : Cursor) (c : IsCursor sc m cursor) (x : Line) → slice_get (current_lines sc m) cursor.line ≡ Some x → AtLine sc m cursor c x
at_line sc m cursor c x e =
    let s = split_get c.passed_lines c.rest x (ap (λ n. slice_get (c.passed_lines ++ c.rest) n) (sym c.line) ∙ ap (λ ls. slice_get ls cursor.line) (sym c.lines) ∙ e) in
    record { more = s.0; rest = s.1 }

-- a line that was not begun waits
pub waits : (sc : Scenario) (m : Machine) (cursor : Cursor) (c : IsCursor sc m cursor) (x : Line) → AtLine sc m cursor c x → is_task sc x.task ≡ true → (tasked m x.task).begun ≤ get_or cursor.passed (x.task - 1) 0
    → waiting_of sc m ≡ Some x.task
waits sc m cursor c x a task l =
    let g : get_or cursor.passed (x.task - 1) 0 ≡ lines_before sc (phases_in m.past) (seen_after [] c.passed_lines) x.task = c.passed x.task task in
    let k : (tasked m x.task).begun ≤ lines_before sc (phases_in m.past) (seen_after [] c.passed_lines) x.task = omega (arith, g, l) in
    let t : nat_lt (lines_before sc (phases_in m.past) (seen_after [] c.passed_lines) x.task) (tasked m x.task).begun ≡ false = grind (arith, common_steps) in
    waiting_from sc cursor m c ∙ ap (first_waiting sc m (seen_after [] c.passed_lines)) a.rest ∙ rw t refl

-- past the last line none waits
pub none_waits : (sc : Scenario) (m : Machine) (cursor : Cursor) (c : IsCursor sc m cursor) → length (current_lines sc m) ≤ cursor.line → waiting_of sc m ≡ None
none_waits sc m cursor c l = waiting_from sc cursor m c ∙ ap (first_waiting sc m (seen_after [] c.passed_lines)) (empty c.passed_lines c.rest (subst (λ ls. length ls ≤ length c.passed_lines) c.lines (subst (λ n. length (current_lines sc m) ≤ n) c.line l)))
  where
    empty : (xs ys : List Line) → length (xs ++ ys) ≤ length xs → ys ≡ []
    empty [] [] l = refl
    empty [] (y ∷ ys) l = absurd (omega (arith, l))
    empty (x ∷ xs) ys l = empty xs ys (omega (arith, l))

-- The lines that the code has at hand.

pub lines_are : (sc : Scenario) (m : Machine) (k : ℕ) (lines : List Line) → k ≡ phases_in m.past → slice_get sc.phases k ≡ Some lines → current_lines sc m ≡ lines
lines_are sc m k lines b e = by sc.phases (phases_in m.past) lines (ap (λ n. slice_get sc.phases n) (sym b) ∙ e)
  where
    by : (phases : List (List Line)) (i : ℕ) (lines : List Line) → slice_get phases i ≡ Some lines → get_or phases i [] ≡ lines
    by [] i lines e = cc
    by (x ∷ phases) zero lines e = cc
    by (x ∷ phases) (suc i) lines e = by phases i lines e

at_of : (n : ℕ) (lines : List Line) (i : ℕ) (x : Line) → AllByRecursion (IsOfTask n) lines → slice_get lines i ≡ Some x → IsOfTask n x
at_of n [] i x h e = cc
at_of n (l ∷ lines) zero x h e = let q : l ≡ x = cc in subst (IsOfTask n) q h.0
at_of n (l ∷ lines) (suc i) x h e = at_of n lines i x h.1 e

pub record OfTask (sc : Scenario) (x : Line) : Type 0 where
  pub task : is_task sc x.task ≡ true
  pub positive : 0 < x.task
  pub few : x.task ≤ 64
  pub inside : x.task ≤ length sc.flags
  pub seat : x.task - 1 < 64

pub line_of_task : (sc : Scenario) (m : Machine) (i : ℕ) (x : Line) → IsLimited sc → slice_get (current_lines sc m) i ≡ Some x → OfTask sc x
line_of_task sc m i x l e =
    let o = at_of (length sc.flags) (current_lines sc m) i x (phase_of_tasks (length sc.flags) sc.phases (phases_in m.past) (lines_of_limited sc l)) e in
    let a = o.1 in
    let b = l.tasks in
    let z = o.0 in
    record { task = task_of sc x.task o.0 o.1; positive = o.0; few = omega (arith, a, b); inside = o.1; seat = omega (arith, a, b, z) }

-- The cursor passes a line that was begun.

seen_snoc : (seen : List ℕ) (xs : List Line) (x : Line) → seen_after seen (xs ++ x ∷ []) ≡ x.task ∷ seen_after seen xs
seen_snoc seen [] x = refl
seen_snoc seen (y ∷ xs) x = seen_snoc (y.task ∷ seen) xs x

begun_snoc : (sc : Scenario) (phase : ℕ) (m : Machine) (seen : List ℕ) (xs : List Line) (x : Line) → AreBegun sc phase m seen xs
    → lines_before sc phase (seen_after seen xs) x.task < (tasked m x.task).begun → AreBegun sc phase m seen (xs ++ x ∷ [])
begun_snoc sc phase m seen [] x b l = (l, tt)
begun_snoc sc phase m seen (y ∷ xs) x b l = (b.0, begun_snoc sc phase m (y.task ∷ seen) xs x b.1 l)

append_one : (xs ys more : List Line) (x : Line) → ys ≡ x ∷ more → xs ++ ys ≡ (xs ++ x ∷ []) ++ more
append_one [] ys more x e = e
append_one (y ∷ xs) ys more x e = ap (λ zs. y ∷ zs) (append_one xs ys more x e)

length_one : (xs : List Line) (x : Line) → length (xs ++ x ∷ []) ≡ length xs + 1
length_one [] x = refl
length_one (y ∷ xs) x = let e : length (xs ++ x ∷ []) ≡ length xs + 1 = length_one xs x in omega (arith, e)

pub passes_line : (sc : Scenario) (m : Machine) (cursor : Cursor) (c : IsCursor sc m cursor) (x : Line) → AtLine sc m cursor c x → OfTask sc x → get_or cursor.passed (x.task - 1) 0 < (tasked m x.task).begun
    → IsCursor sc m (record { line = cursor.line + 1; passed = set cursor.passed (x.task - 1) (get_or cursor.passed (x.task - 1) 0 + 1) })
passes_line sc m cursor c x a o l = record {
  passed_lines = c.passed_lines ++ x ∷ [];
  rest = a.more;
  lines = c.lines ∙ append_one c.passed_lines c.rest a.more x a.rest;
  line = let e = c.line in let f : length (c.passed_lines ++ x ∷ []) ≡ length c.passed_lines + 1 = length_one c.passed_lines x in omega (arith, e, f);
  begun = begun_snoc sc (phases_in m.past) m [] c.passed_lines x c.begun (let e : get_or cursor.passed (x.task - 1) 0 ≡ lines_before sc (phases_in m.past) (seen_after [] c.passed_lines) x.task = c.passed x.task o.task in omega (arith, e, l));
  long = length-set cursor.passed (x.task - 1) (get_or cursor.passed (x.task - 1) 0 + 1) ∙ c.long;
  passed = λ t task.
      let n = number_within sc t task in
      let q0 = o.positive in
      let q1 = o.few in
      let q2 = c.long in
      let e : get_or (set cursor.passed (x.task - 1) (get_or cursor.passed (x.task - 1) 0 + 1)) (t - 1) 0 ≡ get_or cursor.passed (t - 1) 0 + bit (x.task == t) = set_count cursor.passed t x.task n.0 o.positive (omega (arith, q0, q1, q2)) in
      let f : get_or cursor.passed (t - 1) 0 ≡ lines_before sc (phases_in m.past) (seen_after [] c.passed_lines) t = c.passed t task in
      let g : count_by (λ u. u == t) (seen_after [] (c.passed_lines ++ x ∷ [])) ≡ bit (x.task == t) + count_by (λ u. u == t) (seen_after [] c.passed_lines) =
      ap (count_by (λ u. u == t)) (seen_snoc [] c.passed_lines x) ∙ count_cons t x.task (seen_after [] c.passed_lines) in
      omega (arith, e, f, g);
}

pub found : (sc : Scenario) (m : Machine) (k : ℕ) (lines : List Line) (i : ℕ) (x : Line) → k ≡ phases_in m.past → slice_get sc.phases k ≡ Some lines → slice_get lines i ≡ Some x → slice_get (current_lines sc m) i ≡ Some x
found sc m k lines i x b e g = ap (λ ls. slice_get ls i) (lines_are sc m k lines b e) ∙ g

-- the cursor is within the lines
pub within : (sc : Scenario) (m : Machine) (cursor : Cursor) → IsCursor sc m cursor → cursor.line ≤ length (current_lines sc m)
within sc m cursor c =
    let a = c.line in
    let b : length (current_lines sc m) ≡ length (c.passed_lines ++ c.rest) = ap length c.lines in
    let d : length (c.passed_lines ++ c.rest) ≡ length c.passed_lines + length c.rest = length-append c.passed_lines c.rest in
    omega (arith, a, b, d)
