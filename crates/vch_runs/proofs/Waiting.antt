-- The first line of the phase that was not begun, found with a cursor.
use Rattle.std.proofs.Common.{◌≡◌, ℕ, zero, suc, ◌+◌, ◌-◌, ◌<◌, ◌≤◌, ◌==◌, true, false, List, [], ◌∷◌, ◌++◌, refl, arith, sym, ap, ◌∙◌, length, length-append, get_or, subst, Some, None}
use Rattle.std.specs.Prelude.{nat_lt, slice_get}
use Rattle.std.specs.List.{count_by, AllByRecursion}
use Rattle.std.proofs.Math.ListN.{set}
use Rattle.std.proofs.lemmas.List.{length-set}
use Rattle.std.proofs.lemmas.Grind.{common_steps}
use Rattle.vch_model.specs.declared.call.Line.{Line}
use Rattle.vch_model.specs.declared.lists.Scenario.{Scenario}
use Rattle.vch_model.specs.Lines.{is_task, phases_in}
use Rattle.vch_machine.specs.State.{Machine, tasked}
use Rattle.vch_machine.specs.Schedules.{first_waiting}
use Rattle.vch_legal.proofs.CallerLemmas.{task_of, count_cons}
use Rattle.vch_parts.specs.declared.parts.Parts.{Parts}
use Rattle.vch_parts.specs.declared.frames.Working.{Working}
use Rattle.vch_parts.specs.Framed.{begun_of}
use Rattle.vch_script.specs.Places.{IsOfTask, AreOfTasks}
use Rattle.vch_parts.specs.Reached.{Reached, Stands}
use Rattle.vch_runs.specs.declared.turn.Cursor.{Cursor}
use Rattle.vch_runs.specs.Turning.{IsWaiting, AreBegun, IsCursor, seen_after, lines_before, current_lines}
use Rattle.vch_legal.specs.Facts.{bit}
use Rattle.vch_frame.proofs.CallerLemmas.{task_number}
use Rattle.vch_runs.proofs.Passing.{set_count}
use Rattle.vch_runs.proofs.Framed.{reach, from_state, own_begun}

-- the lines of a phase are of tasks
pub phase_of_tasks : (n : ℕ) (phases : List (List Line)) (i : ℕ) → AreOfTasks n phases → AllByRecursion (IsOfTask n) (get_or phases i [])
phase_of_tasks n [] i h = tt
phase_of_tasks n (lines ∷ phases) zero h = h.0
phase_of_tasks n (lines ∷ phases) (suc i) h = phase_of_tasks n phases i h.1

pub behind : (n : ℕ) (xs ys : List Line) → AllByRecursion (IsOfTask n) (xs ++ ys) → AllByRecursion (IsOfTask n) ys
behind n [] ys h = h
behind n (x ∷ xs) ys h = behind n xs ys h.1

-- the begun lines are passed over
passes : (p : Parts) (m : Machine) (seen : List ℕ) (xs ys : List Line) → Stands p m → AllByRecursion (IsOfTask (length p.scenario.flags)) (xs ++ ys)
    → AreBegun p.scenario (phases_in m.past) p.frames seen xs → first_waiting p.scenario m seen (xs ++ ys) ≡ first_waiting p.scenario m (seen_after seen xs) ys
passes p m seen [] ys s of b = refl
passes p m seen (x ∷ xs) ys s of b =
    let e : begun_of p.frames x.task ≡ (tasked m x.task).begun = own_begun p m x.task s (task_of p.scenario x.task of.0.0 of.0.1) in
    let l : lines_before p.scenario (phases_in m.past) seen x.task < (tasked m x.task).begun = subst (λ n. lines_before p.scenario (phases_in m.past) seen x.task < n) e b.0 in
    let t : nat_lt (lines_before p.scenario (phases_in m.past) seen x.task) (tasked m x.task).begun ≡ true = grind (arith, common_steps) in
    rw t (passes p m (x.task ∷ seen) xs ys s of.1 b.1)

-- the phase of a state
pub same_phase : (p : Parts) (m : Machine) → Stands p m → p.phase ≡ phases_in m.past
same_phase p m s = (from_state p m s).0.phase

waiting_from : (p : Parts) (cursor : Cursor) (m : Machine) (c : IsCursor p cursor) → Reached p → Stands p m
    → first_waiting p.scenario m [] (get_or p.scenario.phases (phases_in m.past) []) ≡ first_waiting p.scenario m (seen_after [] c.passed_lines) c.rest
waiting_from p cursor m c r s =
    let e : p.phase ≡ phases_in m.past = same_phase p m s in
    let of : AllByRecursion (IsOfTask (length p.scenario.flags)) (c.passed_lines ++ c.rest) =
    subst (AllByRecursion (IsOfTask (length p.scenario.flags))) c.lines (phase_of_tasks (length p.scenario.flags) p.scenario.phases p.phase r.limited.lines) in
    let b : AreBegun p.scenario (phases_in m.past) p.frames [] c.passed_lines = subst (λ n. AreBegun p.scenario n p.frames [] c.passed_lines) e c.begun in
    ap (λ n. first_waiting p.scenario m [] (get_or p.scenario.phases n [])) (sym e) ∙ ap (first_waiting p.scenario m []) c.lines ∙ passes p m [] c.passed_lines c.rest s of b

-- the line at the cursor
pub record AtLine (p : Parts) (cursor : Cursor) (c : IsCursor p cursor) (x : Line) : Type 0 where
  pub more : List Line
  pub rest : c.rest ≡ x ∷ more

split_get : (xs ys : List Line) (x : Line) → slice_get (xs ++ ys) (length xs) ≡ Some x → (more : List Line) × (ys ≡ x ∷ more)
split_get [] [] x e = cc
split_get [] (y ∷ ys) x e = let q : y ≡ x = cc in (ys, ap (λ z. z ∷ ys) q)
split_get (z ∷ xs) ys x e = split_get xs ys x e

pub at_line : (p : Parts) (cursor : Cursor) (c : IsCursor p cursor) (x : Line) → slice_get (current_lines p) cursor.line ≡ Some x → AtLine p cursor c x
at_line p cursor c x e =
    let s = split_get c.passed_lines c.rest x (ap (λ n. slice_get (c.passed_lines ++ c.rest) n) (sym c.line) ∙ ap (λ ls. slice_get ls cursor.line) (sym c.lines) ∙ e) in
    record { more = s.0; rest = s.1 }

-- a line that was not begun waits
pub waits : (p : Parts) (cursor : Cursor) (c : IsCursor p cursor) (x : Line) → Reached p → AtLine p cursor c x → is_task p.scenario x.task ≡ true → begun_of p.frames x.task ≤ get_or cursor.passed (x.task - 1) 0 → IsWaiting p (Some x.task)
unfolding IsWaiting
waits p cursor c x r a task l m s =
    let e : begun_of p.frames x.task ≡ (tasked m x.task).begun = own_begun p m x.task s task in
    let g : get_or cursor.passed (x.task - 1) 0 ≡ lines_before p.scenario p.phase (seen_after [] c.passed_lines) x.task = c.passed x.task task in
    let h : lines_before p.scenario p.phase (seen_after [] c.passed_lines) x.task ≡ lines_before p.scenario (phases_in m.past) (seen_after [] c.passed_lines) x.task = ap (λ n. lines_before p.scenario n (seen_after [] c.passed_lines) x.task) (same_phase p m s) in
    let k : (tasked m x.task).begun ≤ lines_before p.scenario (phases_in m.past) (seen_after [] c.passed_lines) x.task = omega (arith, e, g, h, l) in
    let t : nat_lt (lines_before p.scenario (phases_in m.past) (seen_after [] c.passed_lines) x.task) (tasked m x.task).begun ≡ false = grind (arith, common_steps) in
    waiting_from p cursor m c r s ∙ ap (first_waiting p.scenario m (seen_after [] c.passed_lines)) a.rest ∙ rw t refl

-- past the last line none waits
pub none_waits : (p : Parts) (cursor : Cursor) (c : IsCursor p cursor) → Reached p → length (current_lines p) ≤ cursor.line → IsWaiting p None
unfolding IsWaiting
none_waits p cursor c r l m s = waiting_from p cursor m c r s ∙ ap (first_waiting p.scenario m (seen_after [] c.passed_lines)) (empty c.passed_lines c.rest (subst (λ ls. length ls ≤ length c.passed_lines) c.lines (subst (λ n. length (current_lines p) ≤ n) c.line l)))
  where
    empty : (xs ys : List Line) → length (xs ++ ys) ≤ length xs → ys ≡ []
    empty [] [] l = refl
    empty [] (y ∷ ys) l = absurd (omega (arith, l))
    empty (x ∷ xs) ys l = empty xs ys (omega (arith, l))

-- The lines that the code has at hand.

pub lines_are : (p : Parts) (sc : Scenario) (k : ℕ) (lines : List Line) → sc ≡ p.scenario → k ≡ p.phase → slice_get sc.phases k ≡ Some lines → current_lines p ≡ lines
lines_are p sc k lines a b e = by p.scenario.phases p.phase lines (ap (λ n. slice_get p.scenario.phases n) (sym b) ∙ ap (λ (s : Scenario). slice_get s.phases k) (sym a) ∙ e)
  where
    by : (phases : List (List Line)) (i : ℕ) (lines : List Line) → slice_get phases i ≡ Some lines → get_or phases i [] ≡ lines
    by [] i lines e = cc
    by (x ∷ phases) zero lines e = cc
    by (x ∷ phases) (suc i) lines e = by phases i lines e

at_of : (n : ℕ) (lines : List Line) (i : ℕ) (x : Line) → AllByRecursion (IsOfTask n) lines → slice_get lines i ≡ Some x → IsOfTask n x
at_of n [] i x h e = cc
at_of n (l ∷ lines) zero x h e = let q : l ≡ x = cc in subst (IsOfTask n) q h.0
at_of n (l ∷ lines) (suc i) x h e = at_of n lines i x h.1 e

pub record OfTask (sc : Scenario) (x : Line) : Type 0 where
  pub task : is_task sc x.task ≡ true
  pub positive : 0 < x.task
  pub few : x.task ≤ 64
  pub seat : x.task - 1 < 64

pub line_of_task : (p : Parts) (i : ℕ) (x : Line) → Reached p → slice_get (current_lines p) i ≡ Some x → OfTask p.scenario x
line_of_task p i x r e =
    let l = (reach p r).limited in
    let o = at_of (length p.scenario.flags) (current_lines p) i x (phase_of_tasks (length p.scenario.flags) p.scenario.phases p.phase l.lines) e in
    let a = o.1 in
    let b = l.tasks in
    let z = o.0 in
    record { task = task_of p.scenario x.task o.0 o.1; positive = o.0; few = omega (arith, a, b); seat = omega (arith, a, b, z) }

-- The cursor passes a line that was begun.

seen_snoc : (seen : List ℕ) (xs : List Line) (x : Line) → seen_after seen (xs ++ x ∷ []) ≡ x.task ∷ seen_after seen xs
seen_snoc seen [] x = refl
seen_snoc seen (y ∷ xs) x = seen_snoc (y.task ∷ seen) xs x

begun_snoc : (sc : Scenario) (phase : ℕ) (frames : List Working) (seen : List ℕ) (xs : List Line) (x : Line) → AreBegun sc phase frames seen xs
    → lines_before sc phase (seen_after seen xs) x.task < begun_of frames x.task → AreBegun sc phase frames seen (xs ++ x ∷ [])
begun_snoc sc phase frames seen [] x b l = (l, tt)
begun_snoc sc phase frames seen (y ∷ xs) x b l = (b.0, begun_snoc sc phase frames (y.task ∷ seen) xs x b.1 l)

append_one : (xs ys more : List Line) (x : Line) → ys ≡ x ∷ more → xs ++ ys ≡ (xs ++ x ∷ []) ++ more
append_one [] ys more x e = e
append_one (y ∷ xs) ys more x e = ap (λ zs. y ∷ zs) (append_one xs ys more x e)

length_one : (xs : List Line) (x : Line) → length (xs ++ x ∷ []) ≡ length xs + 1
length_one [] x = refl
length_one (y ∷ xs) x = let e : length (xs ++ x ∷ []) ≡ length xs + 1 = length_one xs x in omega (arith, e)

pub passes_line : (p : Parts) (cursor : Cursor) (c : IsCursor p cursor) (x : Line) → AtLine p cursor c x → OfTask p.scenario x → get_or cursor.passed (x.task - 1) 0 < begun_of p.frames x.task
    → IsCursor p (record { line = cursor.line + 1; passed = set cursor.passed (x.task - 1) (get_or cursor.passed (x.task - 1) 0 + 1) })
passes_line p cursor c x a o l = record {
  passed_lines = c.passed_lines ++ x ∷ [];
  rest = a.more;
  lines = c.lines ∙ append_one c.passed_lines c.rest a.more x a.rest;
  line = let e = c.line in let f : length (c.passed_lines ++ x ∷ []) ≡ length c.passed_lines + 1 = length_one c.passed_lines x in omega (arith, e, f);
  begun = begun_snoc p.scenario p.phase p.frames [] c.passed_lines x c.begun (let e : get_or cursor.passed (x.task - 1) 0 ≡ lines_before p.scenario p.phase (seen_after [] c.passed_lines) x.task = c.passed x.task o.task in omega (arith, e, l));
  long = length-set cursor.passed (x.task - 1) (get_or cursor.passed (x.task - 1) 0 + 1) ∙ c.long;
  passed = λ t task.
      let n = task_number p.scenario t task in
      let q0 = o.positive in
      let q1 = o.few in
      let q2 = c.long in
      let e : get_or (set cursor.passed (x.task - 1) (get_or cursor.passed (x.task - 1) 0 + 1)) (t - 1) 0 ≡ get_or cursor.passed (t - 1) 0 + bit (x.task == t) = set_count cursor.passed t x.task n.0 o.positive (omega (arith, q0, q1, q2)) in
      let f : get_or cursor.passed (t - 1) 0 ≡ lines_before p.scenario p.phase (seen_after [] c.passed_lines) t = c.passed t task in
      let g : count_by (λ u. u == t) (seen_after [] (c.passed_lines ++ x ∷ [])) ≡ bit (x.task == t) + count_by (λ u. u == t) (seen_after [] c.passed_lines) =
      ap (count_by (λ u. u == t)) (seen_snoc [] c.passed_lines x) ∙ count_cons t x.task (seen_after [] c.passed_lines) in
      omega (arith, e, f, g);
}

pub found : (p : Parts) (sc : Scenario) (k : ℕ) (lines : List Line) (i : ℕ) (x : Line) → sc ≡ p.scenario → k ≡ p.phase → slice_get sc.phases k ≡ Some lines → slice_get lines i ≡ Some x → slice_get (current_lines p) i ≡ Some x
found p sc k lines i x a b e g = ap (λ ls. slice_get ls i) (lines_are p sc k lines a b e) ∙ g

-- the cursor is within the lines
pub within : (p : Parts) (cursor : Cursor) → IsCursor p cursor → cursor.line ≤ length (current_lines p)
within p cursor c =
    let a = c.line in
    let b : length (current_lines p) ≡ length (c.passed_lines ++ c.rest) = ap length c.lines in
    let d : length (c.passed_lines ++ c.rest) ≡ length c.passed_lines + length c.rest = length-append c.passed_lines c.rest in
    omega (arith, a, b, d)
