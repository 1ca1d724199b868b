-- A cursor at the start of the phase that is under way.
use Rattle.std.proofs.Common.{◌≡◌, ℕ, zero, suc, ◌+◌, ◌-◌, ◌<◌, ◌≤◌, nat_lt, Bool, true, false, cond, List, [], ◌∷◌, refl, arith, sym, ap, ◌∙◌, length, get_or, replicate, subst, Some}
use Rattle.std.specs.Prelude.{nat_le, slice_get}
use Rattle.std.specs.List.{filter, AllByRecursion}
use Rattle.std.proofs.lemmas.Grind.{common_steps}
use Rattle.vch_model.specs.declared.call.Line.{Line}
use Rattle.vch_model.specs.declared.lists.Scenario.{Scenario}
use Rattle.vch_model.specs.Lines.{lines_of, lines_until}
use Rattle.vch_model.specs.Scenarios.{line_count}
use Rattle.vch_legal.proofs.CallerLemmas.{lines_of_tasks, all_of_tasks, lines_with_phase, no_lines, reached_stands}
use Rattle.vch_parts.specs.declared.parts.Parts.{Parts}
use Rattle.vch_script.specs.Places.{IsOfTask}
use Rattle.vch_parts.specs.Reached.{Reached}
use Rattle.vch_frame.proofs.CallerLemmas.{task_number}
use Rattle.vch_runs.specs.declared.turn.Cursor.{Cursor}
use Rattle.vch_runs.specs.Turning as turning
use Rattle.vch_runs.specs.Turning.{IsCursor, current_lines, lines_of_task}
use Rattle.vch_runs.proofs.Framed.{Reach, reach}
use Rattle.vch_runs.proofs.Waiting.{phase_of_tasks}

-- the lines of so many phases were counted, and the cursor is before the first line
pub record Started (sc : Scenario) (cursor : Cursor) (i : ℕ) : Type 0 where
  pub line : cursor.line ≡ 0
  pub long : length cursor.passed ≡ 64
  pub counts : (t : ℕ) → 0 < t → t ≤ 64 → get_or cursor.passed (t - 1) 0 ≡ lines_until sc i t

pub started : (sc : Scenario) (cursor : Cursor) → cursor.line ≡ 0 → length cursor.passed ≡ 64 → ((i : ℕ) → get_or cursor.passed i 0 ≡ 0) → Started sc cursor 0
started sc cursor a b z = record { line = a; long = b; counts = λ t p q. z (t - 1) ∙ sym (no_lines sc t) }

abbrev zeros : ℕ → List ℕ
zeros n = replicate n 0

zero_at : (n i : ℕ) → get_or (zeros n) i 0 ≡ 0
zero_at zero i = refl
zero_at (suc n) zero = refl
zero_at (suc n) (suc i) = zero_at n i

pub started_first : (sc : Scenario) → Started sc (record { line = 0; passed = zeros 64 }) 0
started_first sc = started sc (record { line = 0; passed = zeros 64 }) refl refl (λ i. zero_at 64 i)

-- One phase more.

pub few_filtered : (p : ℕ × Line → Bool) (ls : List (ℕ × Line)) → length (filter p ls) ≤ length ls
few_filtered p [] = omega arith
few_filtered p (l ∷ ls) = by (p l) (few_filtered p ls)
  where
    by : (b : Bool) → length (filter p ls) ≤ length ls → length (cond b (l ∷ filter p ls) (filter p ls)) ≤ length (l ∷ ls)
    by true r = omega (arith, r)
    by false r = omega (arith, r)

pub few_until : (sc : Scenario) (i t : ℕ) → lines_until sc i t ≤ line_count sc.phases
few_until sc i t =
    let a : lines_until sc i t ≤ length (lines_of sc t) = few_filtered (λ l. nat_le l.0 i) (lines_of sc t) in
    let b : lines_of_tasks sc t 1 ≤ line_count sc.phases = all_of_tasks sc t 1 in
    let d : lines_of_tasks sc t 1 ≡ length (lines_of sc t) + 0 = refl in
    omega (arith, a, b, d)

few_lines : (phases : List (List Line)) (i : ℕ) → length (get_or phases i []) ≤ line_count phases
few_lines [] i = omega arith
few_lines (lines ∷ phases) zero = omega arith
few_lines (lines ∷ phases) (suc i) = let r : length (get_or phases i []) ≤ line_count phases = few_lines phases i in omega (arith, r)

get_is : (phases : List (List Line)) (i : ℕ) (lines : List Line) → slice_get phases i ≡ Some lines → get_or phases i [] ≡ lines
get_is [] i lines e = cc
get_is (x ∷ phases) zero lines e = cc
get_is (x ∷ phases) (suc i) lines e = get_is phases i lines e

past_end : (xs : List ℕ) (i : ℕ) → length xs ≤ i → get_or xs i 0 ≡ 0
past_end [] i l = refl
past_end (x ∷ xs) zero l = absurd (omega (arith, l))
past_end (x ∷ xs) (suc i) l = past_end xs i (omega (arith, l))

-- the counts stay small
pub counts_few : (p : Parts) (cursor : Cursor) (i : ℕ) (lines : List Line) → Reached p → Started p.scenario cursor i → slice_get p.scenario.phases i ≡ Some lines → (k : ℕ) → get_or cursor.passed k 0 + length lines < 4294967296
counts_few p cursor i lines r c e k = by (nat_lt k 64) refl
  where
    x : Reach p
    x = reach p r

    by : (b : Bool) → nat_lt k 64 ≡ b → get_or cursor.passed k 0 + length lines < 4294967296
    by true q =
        let l : k < 64 = grind (arith, common_steps) in
        let a : get_or cursor.passed ((k + 1) - 1) 0 ≡ lines_until p.scenario i (k + 1) = c.counts (k + 1) (omega arith) (omega (arith, l)) in
        let z : (k + 1) - 1 ≡ k = omega arith in
        let b : get_or cursor.passed k 0 ≡ lines_until p.scenario i (k + 1) = subst (λ n. get_or cursor.passed n 0 ≡ lines_until p.scenario i (k + 1)) z a in
        let d : lines_until p.scenario i (k + 1) ≤ line_count p.scenario.phases = few_until p.scenario i (k + 1) in
        let f : length (get_or p.scenario.phases i []) ≤ line_count p.scenario.phases = few_lines p.scenario.phases i in
        let g : length (get_or p.scenario.phases i []) ≡ length lines = ap length (get_is p.scenario.phases i lines e) in
        let h = x.limited.calls in
        omega (arith, b, d, f, g, h)
    by false q =
        let l : 64 ≤ k = grind (arith, common_steps) in
        let long = c.long in
        let a : get_or cursor.passed k 0 ≡ 0 = past_end cursor.passed k (omega (arith, l, long)) in
        let f : length (get_or p.scenario.phases i []) ≤ line_count p.scenario.phases = few_lines p.scenario.phases i in
        let g : length (get_or p.scenario.phases i []) ≡ length lines = ap length (get_is p.scenario.phases i lines e) in
        let h = x.limited.calls in
        omega (arith, a, f, g, h)

weaker : (n : ℕ) (lines : List Line) → n ≤ 64 → AllByRecursion (IsOfTask n) lines → AllByRecursion (IsOfTask 64) lines
weaker n [] l h = tt
weaker n (x ∷ lines) l h = let a = h.0.1 in ((h.0.0, omega (arith, a, l)), weaker n lines l h.1)

pub phase_lines : (p : Parts) (i : ℕ) (lines : List Line) → Reached p → slice_get p.scenario.phases i ≡ Some lines → turning.AreOfTasks lines
phase_lines p i lines r e =
    let l = (reach p r).limited in
    subst turning.AreOfTasks (get_is p.scenario.phases i lines e) (weaker (length p.scenario.flags) (get_or p.scenario.phases i []) l.tasks (phase_of_tasks (length p.scenario.flags) p.scenario.phases i l.lines))

pub counts_phase : (sc : Scenario) (cursor : Cursor) (i : ℕ) (lines : List Line) (now : List ℕ) → Started sc cursor i → slice_get sc.phases i ≡ Some lines → length now ≡ 64
    → ((t : ℕ) → 0 < t → t ≤ 64 → get_or now (t - 1) 0 ≡ get_or cursor.passed (t - 1) 0 + lines_of_task t lines) → Started sc (record cursor { passed = now }) (i + 1)
counts_phase sc cursor i lines now c e long h = record {
  line = c.line;
  long = long;
  counts = λ t p q.
      let a : get_or now (t - 1) 0 ≡ get_or cursor.passed (t - 1) 0 + lines_of_task t lines = h t p q in
      let b : get_or cursor.passed (t - 1) 0 ≡ lines_until sc i t = c.counts t p q in
      let d : lines_until sc (i + 1) t ≡ lines_until sc i t + lines_of_task t (get_or sc.phases i []) = lines_with_phase sc t i in
      let f : lines_of_task t (get_or sc.phases i []) ≡ lines_of_task t lines = ap (lines_of_task t) (get_is sc.phases i lines e) in
      omega (arith, a, b, d, f);
}

-- the phases that ended are no more than all
pub phase_few : (p : Parts) → Reached p → p.phase ≤ length p.scenario.phases
phase_few p r = let x = reach p r in let a = x.stands.phase in let b = (reached_stands p.scenario x.moves x.m x.run).phases in omega (arith, a, b)

pub is_cursor : (p : Parts) (cursor : Cursor) → Reached p → Started p.scenario cursor p.phase → IsCursor p cursor
is_cursor p cursor r c = record {
  passed_lines = [];
  rest = current_lines p;
  lines = refl;
  line = c.line;
  begun = tt;
  long = c.long;
  passed = λ t task.
      let n = task_number p.scenario t task in
      let l = (reach p r).limited.tasks in
      let n0 = n.0 in
      let n1 = n.1 in
      let e : get_or cursor.passed (t - 1) 0 ≡ lines_until p.scenario p.phase t = c.counts t n.0 (omega (arith, n0, n1, l)) in
      omega (arith, e);
}
