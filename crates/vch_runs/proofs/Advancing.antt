-- The cursor after a move.
use Rattle.std.proofs.Common.{◌≡◌, ℕ, ◌+◌, ◌-◌, ◌≤◌, ◌==◌, Bool, true, false, List, [], ◌∷◌, ◌++◌, refl, arith, sym, ap, ◌∙◌, length, get_or, subst, Option, Some, None}
use Rattle.std.specs.List.{count_by, AllByRecursion}
use Rattle.vch_model.specs.declared.call.Line.{Line}
use Rattle.vch_model.specs.declared.lists.Scenario.{Scenario}
use Rattle.vch_model.specs.Lines.{is_task, phases_in, lines_until}
use Rattle.vch_machine.specs.State.{Machine, tasked}
use Rattle.std.specs.Prelude.{if◌then◌else◌}
use Rattle.vch_model.specs.declared.entry.Entry.TheVariants as entries
use Rattle.vch_machine.specs.Frames.{noted}
use Rattle.vch_machine.specs.Events.{phase_event}
use Rattle.vch_legal.specs.Facts.{bit}
use Rattle.vch_legal.proofs.CallerLemmas.{task_of, lines_with_phase, count_cons}
use Rattle.vch_parts.specs.declared.parts.Parts.{Parts}
use Rattle.vch_parts.specs.declared.frames.Working.{Working}
use Rattle.vch_parts.specs.Framed.{begun_of}
use Rattle.vch_script.specs.Places.{IsOfTask}
use Rattle.vch_parts.specs.Reached.{Reached}
use Rattle.vch_runs.specs.declared.turn.Cursor.{Cursor}
use Rattle.vch_runs.specs.Turning.{Goes, IsPassed, IsCursor, CursorAt, AreBegun, lines_of_task, seen_after, rewound}
use Rattle.vch_runs.proofs.Framed.{reach, own_begun}
use Rattle.vch_runs.proofs.Growing.{Grows, event_grows}
use Rattle.vch_runs.proofs.Waiting.{same_phase, phase_of_tasks}

front : (n : ℕ) (xs ys : List Line) → AllByRecursion (IsOfTask n) (xs ++ ys) → AllByRecursion (IsOfTask n) xs
front n [] ys h = tt
front n (x ∷ xs) ys h = (h.0, front n xs ys h.1)

-- calls that were begun stay so
begun_more : (sc : Scenario) (phase : ℕ) (old new : List Working) (seen : List ℕ) (xs : List Line) → AllByRecursion (IsOfTask (length sc.flags)) xs
    → ((t : ℕ) → is_task sc t ≡ true → begun_of old t ≤ begun_of new t) → AreBegun sc phase old seen xs → AreBegun sc phase new seen xs
begun_more sc phase old new seen [] of h b = tt
begun_more sc phase old new seen (x ∷ xs) of h b =
    (let a = b.0 in let d = h x.task (task_of sc x.task of.0.0 of.0.1) in omega (arith, a, d), begun_more sc phase old new (x.task ∷ seen) xs of.1 h b.1)

same_cursor : (sc : Scenario) (phase : ℕ) (old new : List Working) (cursor : Cursor) → AllByRecursion (IsOfTask (length sc.flags)) (get_or sc.phases phase [])
    → ((t : ℕ) → is_task sc t ≡ true → begun_of old t ≤ begun_of new t) → CursorAt sc phase old cursor → CursorAt sc phase new cursor
same_cursor sc phase old new cursor of h c = record {
  passed_lines = c.passed_lines;
  rest = c.rest;
  lines = c.lines;
  line = c.line;
  begun = begun_more sc phase old new [] c.passed_lines (front (length sc.flags) c.passed_lines c.rest (subst (AllByRecursion (IsOfTask (length sc.flags))) c.lines of)) h c.begun;
  long = c.long;
  passed = c.passed;
}

-- where all lines of the phase were passed, the counts are those at the end of it
seen_count : (t : ℕ) (seen : List ℕ) (xs : List Line) → count_by (λ u. u == t) (seen_after seen xs) ≡ count_by (λ u. u == t) seen + lines_of_task t xs
seen_count t seen [] = zero_more (count_by (λ u. u == t) seen)
  where
    zero_more : (n : ℕ) → n ≡ n + 0
    zero_more n = omega arith
seen_count t seen (x ∷ xs) =
    let a : count_by (λ u. u == t) (seen_after (x.task ∷ seen) xs) ≡ count_by (λ u. u == t) (x.task ∷ seen) + lines_of_task t xs = seen_count t (x.task ∷ seen) xs in
    let b : count_by (λ u. u == t) (x.task ∷ seen) ≡ bit (x.task == t) + count_by (λ u. u == t) seen = count_cons t x.task seen in
    omega (arith, a, b)

all_passed : (xs ys : List Line) → length xs ≡ length (xs ++ ys) → ys ≡ []
all_passed [] [] e = refl
all_passed [] (y ∷ ys) e = absurd (omega (arith, e))
all_passed (x ∷ xs) ys e = all_passed xs ys (omega (arith, e))

append_none : (xs : List Line) → xs ++ [] ≡ xs
append_none [] = refl
append_none (x ∷ xs) = ap (λ ys. x ∷ ys) (append_none xs)

next_cursor : (sc : Scenario) (phase : ℕ) (old new : List Working) (cursor : Cursor) → cursor.line ≡ length (get_or sc.phases phase []) → CursorAt sc phase old cursor
    → CursorAt sc (phase + 1) new (record cursor { line = 0 })
next_cursor sc phase old new cursor e c = record {
  passed_lines = [];
  rest = get_or sc.phases (phase + 1) [];
  lines = refl;
  line = refl;
  begun = tt;
  long = c.long;
  passed = λ t task.
      let none : c.rest ≡ [] = all_passed c.passed_lines c.rest (sym c.line ∙ e ∙ ap length c.lines) in
      let whole : get_or sc.phases phase [] ≡ c.passed_lines = c.lines ∙ ap (λ ys. c.passed_lines ++ ys) none ∙ append_none c.passed_lines in
      let a : get_or cursor.passed (t - 1) 0 ≡ count_by (λ u. u == t) (seen_after [] c.passed_lines) + lines_until sc phase t = c.passed t task in
      let b : count_by (λ u. u == t) (seen_after [] c.passed_lines) ≡ 0 + lines_of_task t c.passed_lines = seen_count t [] c.passed_lines in
      let d : lines_until sc (phase + 1) t ≡ lines_until sc phase t + lines_of_task t (get_or sc.phases phase []) = lines_with_phase sc t phase in
      let f : lines_of_task t (get_or sc.phases phase []) ≡ lines_of_task t c.passed_lines = ap (lines_of_task t) whole in
      omega (arith, a, b, d, f);
}

-- Of parts.

at_parts : (p q : Parts) (k : ℕ) (cursor : Cursor) → q.scenario ≡ p.scenario → q.phase ≡ k → CursorAt p.scenario k q.frames cursor → IsCursor q cursor
at_parts p q k cursor a b c = subst (λ n. CursorAt q.scenario n q.frames cursor) (sym b) (subst (λ sc. CursorAt sc k q.frames cursor) (sym a) c)

-- the phase and the calls begun after an event
record After (p q : Parts) : Type 0 where
  phase : q.phase ≡ p.phase
  begun : (t : ℕ) → is_task p.scenario t ≡ true → begun_of p.frames t ≤ begun_of q.frames t

after_event : (p q : Parts) (t : ℕ) → Reached p → Goes (Some t) p q → After p q
after_event p q t r f =
    let x = reach p r in
    let y = f.move x.m x.state in
    let g : Grows x.m y.0 = event_grows p.scenario f.want t x.m y.0 y.1 in
    record {
      phase = same_phase q y.0 y.2 ∙ g.phases ∙ sym (same_phase p x.m x.state);
      begun = λ u task.
          let a : begun_of p.frames u ≡ (tasked x.m u).begun = own_begun p x.m u x.state task in
          let b : begun_of q.frames u ≡ (tasked y.0 u).begun = own_begun q y.0 u y.2 (subst (λ sc. is_task sc u ≡ true) (sym f.scenario) task) in
          let d = g.begun u in
          omega (arith, a, b, d);
    }

one_phase : (sc : Scenario) (m n : Machine) → phase_event sc m ≡ Some n → phases_in n.past ≡ phases_in m.past + 1
unfolding phase_event
one_phase sc m n e = by _ e
  where
    by : (b : Bool) → (if b then Some (noted m entries.Phase) else None) ≡ Some n → phases_in n.past ≡ phases_in m.past + 1
    by true q = let z : noted m entries.Phase ≡ n = cc in ap (λ (k : Machine). phases_in k.past) (sym z)
    by false q = absurd (cc)

phase_more : (p q : Parts) → Reached p → Goes None p q → q.phase ≡ p.phase + 1
phase_more p q r f =
    let x = reach p r in
    let y = f.move x.m x.state in
    same_phase q y.0 y.2 ∙ (one_phase p.scenario x.m y.0 y.1 ∙ ap (λ n. n + 1) (sym (same_phase p x.m x.state)))

pub cursor_after : (p q : Parts) (choice : Option ℕ) (cursor : Cursor) → Reached p → IsCursor p cursor → IsPassed p choice cursor → Goes choice p q → IsCursor q (rewound choice cursor)
cursor_after p q None cursor r c e f = at_parts p q (p.phase + 1) (record cursor { line = 0 }) f.scenario (phase_more p q r f) (next_cursor p.scenario p.phase p.frames q.frames cursor e c)
cursor_after p q (Some t) cursor r c e f =
    let a = after_event p q t r f in
    at_parts p q p.phase cursor f.scenario a.phase
    (same_cursor p.scenario p.phase p.frames q.frames cursor (phase_of_tasks (length p.scenario.flags) p.scenario.phases p.phase (reach p r).limited.lines) a.begun c)
