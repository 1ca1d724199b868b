-- All stands at the start, through every move, and so along every run, whose history is legal, and whole at its end.
use Rattle.std.proofs.Common.{◌≡◌, ℕ, suc, ◌+◌, ◌<◌, ◌≤◌, Bool, List, [], ◌∷◌, refl, true, false, not, ◌&&◌, arith, sym, ap, subst, length, map, reverse, Some, None, Option}
use Rattle.std.proofs.lemmas.List.{reverse-reverse}
use Rattle.std.specs.Prelude.{if◌then◌else◌, nat_lt}
use Rattle.vch_base.specs.declared.flags.Flags.{Flags}
use Rattle.vch_model.specs.declared.entry.Entry.{Entry}
use Rattle.vch_model.specs.declared.entry.Entry.TheVariants as entries
use Rattle.vch_model.specs.declared.lists.Scenario.{Scenario}
use Rattle.vch_model.specs.Store as store
use Rattle.vch_model.specs.Store.{Store, Member}
use Rattle.vch_model.specs.Lines.{calls_in, phases_in, is_task, lines_of, lines_until}
use Rattle.vch_model.specs.Legal.{Legal, LegalPast, Ended, Whole, all_held}
use Rattle.vch_machine.specs.State.{Machine, idle, tasked, start, member_of, default_living}
use Rattle.vch_machine.specs.Events.{phase_event, all_at_rest}
use Rattle.vch_machine.specs.Frames.{noted}
use Rattle.vch_machine.specs.Schedules.{Move, happens, run, run_from_start, has_ended}
use Rattle.vch_legal.specs.Facts.{Fits, bit}
use Rattle.vch_legal.specs.Tie.{is_answering, TaskStands, any_frame, Ties}
use Rattle.vch_legal.proofs.facts.Keeps.{start_keeps, phase_keeps, idle_task}
use Rattle.vch_legal.proofs.lines.PhaseLines.{all_lines, no_lines, more_lines}
use Rattle.vch_legal.proofs.steps.Follows.{entry_legal}
use Rattle.vch_legal.proofs.tasks.OwnSteps.{Before}
use Rattle.vch_legal.proofs.steps.EventSteps.{event_stands}
use Rattle.vch_legal.proofs.store.AtRest.{each_rests, rest_answered, task_of, none_frame, each_task, rest_all_held}

-- the start

idle_frames : (flags : List Flags) → any_frame (map (λ _. idle) flags) ≡ false
idle_frames [] = refl
idle_frames (x ∷ flags) = idle_frames flags

idle_members : (flags : List Flags) → map (member_of (default_living ∷ [])) (map (λ _. idle) flags)
    ≡ map (λ _. store.nobody) flags
idle_members [] = refl
idle_members (x ∷ flags) = ap (λ xs. store.nobody ∷ xs) (idle_members flags)

idle_stands : (sc : Scenario) (t : ℕ) → TaskStands sc [] (default_living ∷ []) t idle
idle_stands sc t = record {
  counted = refl;
  begun = none;
  answered = subst (λ n. n ≤ 0) (sym (no_lines sc t)) none;
  forming = tt;
  open_frame = tt;
}
  where
    none : {n : ℕ} → 0 ≤ n
    none = omega arith

pub start_stands : (sc : Scenario) → Ties sc (start sc)
start_stands sc = record {
  fits = start_keeps sc;
  same_store = ap (λ tasks. record (store.start sc) { tasks = tasks }) (idle_members sc.flags);
  tasks = λ t task. subst (TaskStands sc [] (default_living ∷ []) t) (sym (idle_task sc.flags t))
      (idle_stands sc t);
  phases = omega arith;
  rest = λ over. idle_frames sc.flags;
  legal = tt;
}

-- the end of a phase

all_rest : (sc : Scenario) (m : Machine) → Ties sc m → all_at_rest sc m ≡ true → any_frame m.tasks ≡ false
all_rest sc m s e =
    none_frame m.tasks (λ i l. (each_rests sc m e (suc i) (omega arith)
    (subst (λ n. suc i ≤ n) s.fits.tasks (omega arith))).frame)

noted_stands : (sc : Scenario) (m : Machine) → Ties sc m → all_at_rest sc m ≡ true
    → nat_lt (phases_in m.past) (length sc.phases) ≡ true → Fits sc (noted m entries.Phase)
    → Ties sc (noted m entries.Phase)
noted_stands sc m s e more fits = record {
  fits = fits;
  same_store = s.same_store;
  tasks = λ t task. over t task (s.tasks t task) (answered t task);
  phases = let b : phases_in m.past < length sc.phases = below (phases_in m.past) (length sc.phases) more in omega
      arith;
  rest = λ _. all_rest sc m s e;
  legal = entry_legal sc m entries.Phase s.same_store (
    below _ _ more,
    rest_all_held sc m s.fits (all_rest sc m s e),
    each_task (length sc.flags) _ (λ t a b. rest_answered sc m t (s.tasks t (task_of sc t a b))
        (each_rests sc m e t a b)),
  ) s.legal;
}
  where
    below : (a b : ℕ) → nat_lt a b ≡ true → a < b
    below a b h = grind arith

    within : (t n : ℕ) → (nat_lt 0 t && nat_lt t (n + 1)) ≡ true → t ≤ n
    within t n h = grind arith

    above : (t n : ℕ) → (nat_lt 0 t && nat_lt t (n + 1)) ≡ true → 0 < t
    above t n h = grind arith

    answered : (t : ℕ) → is_task sc t ≡ true → calls_in m.past t ≡ lines_until sc (phases_in m.past + 1) t
    answered t task = rest_answered sc m t (s.tasks t task)
        (each_rests sc m e t (above t (length sc.flags) task) (within t (length sc.flags) task))

    over : (t : ℕ) → is_task sc t ≡ true → Before sc t m → calls_in m.past t ≡ lines_until sc (phases_in m.past + 1) t
        → TaskStands sc (entries.Phase ∷ m.past) m.live t (tasked m t)
    over t task b a =
        let c : (tasked m t).begun ≤ lines_until sc (phases_in m.past + 1) t = b.begun in
        let d : lines_until sc (phases_in m.past + 1) t ≤ lines_until sc (phases_in m.past + 1 + 1) t = more_lines sc
        (phases_in m.past + 1) t in
        record {
          counted = b.counted;
          begun = omega arith;
          answered = omega arith;
          forming = b.forming;
          open_frame =
              b.open_frame;
        }

pub phase_stands : (sc : Scenario) (m n : Machine) → Ties sc m → phase_event sc m ≡ Some n → Ties sc n
unfolding phase_event
phase_stands sc m n s e = by_test (all_at_rest sc m && nat_lt (phases_in m.past)
    (length sc.phases)) refl e
  where
    left : (a b : Bool) → (a && b) ≡ true → a ≡ true
    left a b h = grind arith

    right : (a b : Bool) → (a && b) ≡ true → b ≡ true
    right a b h = grind arith

    some_eq : {x y : Machine} → Some x ≡ Some y → x ≡ y
    some_eq h = cc

    by_test : (b : Bool) → (all_at_rest sc m && nat_lt (phases_in m.past)
        (length sc.phases)) ≡ b → (if b then Some (noted m entries.Phase) else None) ≡ Some n → Ties sc n
    by_test true h g = subst (Ties sc) (some_eq g)
        (noted_stands sc m s (left _ _ h) (right _ _ h)
        (subst (Fits sc) (sym (some_eq g)) (phase_keeps sc m n s.fits e)))
    by_test false h g = cc

-- every move, and every run

pub happens_stands : (sc : Scenario) (m n : Machine) (move : Move) → Ties sc m → happens sc m move ≡ Some n
    → Ties sc n
happens_stands sc m n (Move.Of t want) s e = event_stands sc want t m n s e
happens_stands sc m n Move.EndPhase s e = phase_stands sc m n s e

run_stands : (sc : Scenario) (moves : List Move) (o : Option Machine) (n : Machine)
    → ((m : Machine) → o ≡ Some m → Ties sc m) → run sc moves o ≡ Some n → Ties sc n
run_stands sc moves None n s e = cc
run_stands sc [] (Some m) n s e = s n e
run_stands sc (move ∷ moves) (Some m) n s e = run_stands sc moves (happens sc m move) n
    (λ k g. happens_stands sc m k move (s m refl) g) e

pub reached_stands : (sc : Scenario) (moves : List Move) (n : Machine) → run_from_start sc moves ≡ Some n → Ties sc n
reached_stands sc moves n e = run_stands sc moves (Some (start sc)) n
    (λ m g. let k : start sc ≡ m = cc in subst (Ties sc) k (start_stands sc)) e

-- the history of every run is legal
past_legal : (sc : Scenario) (past : List Entry) → LegalPast sc past → Legal (reverse past) sc
past_legal sc past l = subst (LegalPast sc) (sym (reverse-reverse past)) l

pub run_legal : (sc : Scenario) (moves : List Move) (n : Machine) → run_from_start sc moves ≡ Some n
    → Legal (reverse n.past) sc
run_legal sc moves n e = past_legal sc n.past (reached_stands sc moves n e).legal

-- where all phases have ended it is whole
ended_past : (sc : Scenario) (m : Machine) → Ties sc m → has_ended sc m ≡ true → Ended sc m.past
ended_past sc m s over = record {
  calls = each_task (length sc.flags) _ (λ t a b. all_answered t (s.tasks t (task_of sc t a b)));
  phases = at_end _ _ s.phases ended;
  held = subst (λ (x : Store). all_held x ≡ true) s.same_store (rest_all_held sc m s.fits (s.rest ended));
}
  where
    not_true : (b : Bool) → not b ≡ true → b ≡ false
    not_true true h = cc
    not_true false h = refl

    ended : nat_lt (phases_in m.past) (length sc.phases) ≡ false
    ended = not_true _ over

    at_end : (a b : ℕ) → a ≤ b → nat_lt a b ≡ false → a ≡ b
    at_end a b h g = grind arith

    past_all : (a b : ℕ) → nat_lt a b ≡ false → b ≤ a
    past_all a b g = grind arith

    all_answered : (t : ℕ) → Before sc t m → calls_in m.past t ≡ length (lines_of sc t)
    all_answered t b =
        let l : length sc.phases ≤ phases_in m.past = past_all _ _ ended in
        let c : (tasked m t).begun ≡ calls_in m.past t + bit (is_answering (tasked m t).frame) = b.counted in
        let d : lines_until sc (phases_in m.past) t ≤ calls_in m.past t = b.answered in
        let e : (tasked m t).begun ≤ lines_until sc (phases_in m.past + 1) t = b.begun in
        let f : lines_until sc (phases_in m.past) t ≡ length (lines_of sc t) = all_lines sc t (phases_in m.past) l in
        let g : lines_until sc (phases_in m.past + 1) t ≡ length (lines_of sc t) = all_lines sc t
        (phases_in m.past + 1) (omega arith) in
        omega arith

pub run_whole : (sc : Scenario) (moves : List Move) (n : Machine) → run_from_start sc moves ≡ Some n → has_ended sc n
    ≡ true → Whole (reverse n.past) sc
run_whole sc moves n e over = record {
  legal = run_legal sc moves n e;
  ended = subst (Ended sc) (sym (reverse-reverse n.past)) (ended_past sc n (reached_stands sc moves n e) over);
}
