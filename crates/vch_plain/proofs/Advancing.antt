-- The cursor after a move.
use Rattle.std.proofs.Common.{◌≡◌, ℕ, ◌+◌, ◌-◌, ◌≤◌, ◌==◌, List, [], ◌∷◌, ◌++◌, refl, arith, sym, ap, ◌∙◌, length, get_or, subst, Option, Some, None, false}
use Rattle.std.specs.List.{count_by}
use Rattle.vch_model.specs.declared.call.Line.{Line}
use Rattle.vch_model.specs.declared.lists.Scenario.{Scenario}
use Rattle.vch_model.specs.Lines.{phases_in, lines_until}
use Rattle.vch_machine.specs.State.{Machine, tasked}
use Rattle.vch_machine.specs.Schedules.{happens}
use Rattle.vch_legal.specs.Facts.{bit}
use Rattle.vch_legal.proofs.CallerLemmas.{lines_with_phase, count_cons}
use Rattle.vch_plain.specs.declared.turn.Cursor.{Cursor}
use Rattle.vch_plain.specs.Turning.{AreBegun, CursorAt, IsCursor, IsPassed, chosen_move, lines_of_task, rewound, seen_after}
use Rattle.vch_plain.proofs.Growing.{Grows, event_grows, one_phase}

-- calls that were begun stay so
begun_more : (sc : Scenario) (phase : ℕ) (m n : Machine) (seen : List ℕ) (xs : List Line)
    → ((u : ℕ) → (tasked m u).begun ≤ (tasked n u).begun) → AreBegun sc phase m seen xs → AreBegun sc phase n seen xs
begun_more sc phase m n seen [] h b = tt
begun_more sc phase m n seen (x ∷ xs) h b = (let a = b.0 in let d = h x.task in omega (arith, a, d), begun_more sc phase m n (x.task ∷ seen) xs h b.1)

same_cursor : (sc : Scenario) (phase : ℕ) (m n : Machine) (cursor : Cursor) → ((u : ℕ) → (tasked m u).begun ≤ (tasked n u).begun) → CursorAt sc phase m cursor → CursorAt sc phase n cursor
same_cursor sc phase m n cursor h c = record {
  passed_lines = c.passed_lines;
  rest = c.rest;
  lines = c.lines;
  line = c.line;
  begun = begun_more sc phase m n [] c.passed_lines h c.begun;
  long = c.long;
  passed = c.passed;
}

-- where all lines of the phase were passed, the counts are those at the end of it
seen_count : (t : ℕ) (seen : List ℕ) (xs : List Line) → count_by (λ u. u == t) (seen_after seen xs) ≡ count_by (λ u. u == t) seen + lines_of_task t xs
seen_count t seen [] = zero_more (count_by (λ u. u == t) seen)
  where
    zero_more : (n : ℕ) → n ≡ n + 0
    zero_more n = omega arith
seen_count t seen (x ∷ xs) =
    let a : count_by (λ u. u == t) (seen_after (x.task ∷ seen) xs) ≡ count_by (λ u. u == t) (x.task ∷ seen) + lines_of_task t xs = seen_count t (x.task ∷ seen) xs in
    let b : count_by (λ u. u == t) (x.task ∷ seen) ≡ bit (x.task == t) + count_by (λ u. u == t) seen = count_cons t x.task seen in
    omega (arith, a, b)

all_passed : (xs ys : List Line) → length xs ≡ length (xs ++ ys) → ys ≡ []
all_passed [] [] e = refl
all_passed [] (y ∷ ys) e = absurd (omega (arith, e))
all_passed (x ∷ xs) ys e = all_passed xs ys (omega (arith, e))

append_none : (xs : List Line) → xs ++ [] ≡ xs
append_none [] = refl
append_none (x ∷ xs) = ap (λ ys. x ∷ ys) (append_none xs)

next_cursor : (sc : Scenario) (phase : ℕ) (m n : Machine) (cursor : Cursor) → cursor.line ≡ length (get_or sc.phases phase []) → CursorAt sc phase m cursor
    → CursorAt sc (phase + 1) n (record cursor { line = 0 })
next_cursor sc phase m n cursor e c = record {
  passed_lines = [];
  rest = get_or sc.phases (phase + 1) [];
  lines = refl;
  line = refl;
  begun = tt;
  long = c.long;
  passed = λ t task.
      let none : c.rest ≡ [] = all_passed c.passed_lines c.rest (sym c.line ∙ e ∙ ap length c.lines) in
      let whole : get_or sc.phases phase [] ≡ c.passed_lines = c.lines ∙ ap (λ ys. c.passed_lines ++ ys) none ∙ append_none c.passed_lines in
      let a : get_or cursor.passed (t - 1) 0 ≡ count_by (λ u. u == t) (seen_after [] c.passed_lines) + lines_until sc phase t = c.passed t task in
      let b : count_by (λ u. u == t) (seen_after [] c.passed_lines) ≡ 0 + lines_of_task t c.passed_lines = seen_count t [] c.passed_lines in
      let d : lines_until sc (phase + 1) t ≡ lines_until sc phase t + lines_of_task t (get_or sc.phases phase []) = lines_with_phase sc t phase in
      let f : lines_of_task t (get_or sc.phases phase []) ≡ lines_of_task t c.passed_lines = ap (lines_of_task t) whole in
      omega (arith, a, b, d, f);
}

pub cursor_after : (sc : Scenario) (m n : Machine) (choice : Option ℕ) (cursor : Cursor) → IsCursor sc m cursor → IsPassed sc m choice cursor → happens sc m (chosen_move choice) ≡ Some n
    → IsCursor sc n (rewound choice cursor)
cursor_after sc m n None cursor c e h =
    subst (λ k. CursorAt sc k n (record cursor { line = 0 })) (sym (one_phase sc m n h).0) (next_cursor sc (phases_in m.past) m n cursor e c)
cursor_after sc m n (Some t) cursor c e h =
    let g : Grows m n = event_grows sc false t m n h in
    subst (λ k. CursorAt sc k n cursor) (sym g.phases) (same_cursor sc (phases_in m.past) m n cursor g.begun c)
