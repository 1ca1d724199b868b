-- The moves of the schedules can happen, one after the other.
use Rattle.std.proofs.Common.{◌≡◌, ℕ, zero, suc, ◌+◌, ◌%◌, ◌<◌, ◌≤◌, Bool, List, [], ◌∷◌, refl, true, false, not, ◌&&◌, arith, sym, ap, subst, length, get_or, Some, None, Option}
use Rattle.std.proofs.Math.Nat.{mod-lt}
use Rattle.std.specs.Prelude.{if◌then◌else◌, ◌==◌, nat_lt, is_some, slice_index_or}
use Rattle.std.specs.List.{count_by, list_all, AllByRecursion}
use Rattle.vch_base.specs.declared.kind.Kind.TheVariants as kinds
use Rattle.vch_model.specs.declared.call.Line.{Line}
use Rattle.vch_model.specs.declared.lists.Scenario.{Scenario}
use Rattle.vch_model.specs.Lines.{is_task, calls_in, phases_in, lines_until}
use Rattle.vch_model.specs.Scenarios.{IsIn, IsLimited}
use Rattle.vch_machine.specs.State.{Frame, Machine, tasked, start}
use Rattle.vch_machine.specs.Events.{phase_event, is_at_rest, all_at_rest, numbers, ready}
use Rattle.vch_machine.specs.Next.{next_kind, task_next}
use Rattle.vch_machine.specs.Schedules.{Move, happens, run, run_from_start, lowest_open, first_waiting, turn_task, move_of, has_ended, in_turn, drawn, picked, seed_after, by_seed}
use Rattle.vch_legal.specs.Facts.{bit}
use Rattle.vch_legal.specs.Tie.{is_answering, Ties}
use Rattle.vch_legal.proofs.facts.Choices.{cases_bool}
use Rattle.vch_legal.proofs.store.AtRest.{task_of}
use Rattle.vch_legal.proofs.lines.PhaseCounts.{of_task, lines_with_phase}
use Rattle.vch_legal.proofs.runs.Possible.{event_some}
use Rattle.vch_legal.proofs.runs.Runs.{start_stands, happens_stands}
use Rattle.vch_legal.proofs.runs.Turns.{all_numbers, number_of_all, all_tasks, Opened, lowest_some, lowest_none, opened_next, waiting_some, waiting_in, waiting_none}

-- the lines of a phase are calls of tasks
phase_limited : (sc : Scenario) → (phases : List (List Line)) (p : ℕ)
    → AllByRecursion (λ lines. AllByRecursion (λ l. IsIn sc.version (length sc.flags) l) lines) phases
    → AllByRecursion (λ l. IsIn sc.version (length sc.flags) l) (get_or phases p [])
phase_limited sc [] p h = tt
phase_limited sc (lines ∷ phases) zero h = h.0
phase_limited sc (lines ∷ phases) (suc p) h = phase_limited sc phases p h.1

abbrev now : Scenario → Machine → List Line
now sc m = slice_index_or sc.phases (phases_in m.past) []

next_begin : (b : Bool) → b ≡ true → is_some (if b then Some kinds.Begin else None) ≡ true
next_begin true e = refl
next_begin false e = cc

below : (a b : ℕ) → a < b → nat_lt a b ≡ true
below a b h = grind arith

not_below : (a b : ℕ) → b ≤ a → nat_lt a b ≡ false
not_below a b h = grind arith

-- a task whose line waits has a next event: a Begin, or one of its frame
pub waiting_next : (sc : Scenario) (m : Machine) (t : ℕ) → Ties sc m → is_task sc t ≡ true
    → first_waiting sc m [] (now sc m) ≡ Some t → is_some (next_kind sc m t) ≡ true
waiting_next sc m t s task e = by_frame (tasked m t).frame refl
  where
    more : (tasked m t).begun < lines_until sc (phases_in m.past + 1) t
    more =
        let a : (tasked m t).begun < count_by (λ u. u == t) [] + of_task t (now sc m) + lines_until sc
        (phases_in m.past) t = waiting_some sc m [] (now sc m) t e in
        let b : lines_until sc (phases_in m.past + 1) t ≡ lines_until sc (phases_in m.past) t + of_task t (now sc m) =
        lines_with_phase sc t (phases_in m.past) in
        let c : count_by (λ u. u == t) [] ≡ 0 = refl in omega arith

    by_frame : (f : Option Frame) → (tasked m t).frame ≡ f → is_some
        (task_next sc (phases_in m.past) t (tasked m t) (tasked m t).frame) ≡ true
    by_frame None g = subst (λ (o : Option Frame). is_some (task_next sc (phases_in m.past) t (tasked m t) o) ≡ true)
        (sym g) (next_begin _ (below _ _ more))
    by_frame (Some f) g = opened_next sc m t (s.tasks t task) (ap is_some g)

-- a task without a frame, and with all calls of the phase begun, is at rest
rests : (sc : Scenario) (m : Machine) (t : ℕ) → is_some (tasked m t).frame ≡ false
    → nat_lt (tasked m t).begun (lines_until sc (phases_in m.past + 1) t) ≡ false
    → is_at_rest sc (phases_in m.past) t (tasked m t) ≡ true
rests sc m t e h = rw (e, h) refl

-- where no frame is and no line waits, each task is at rest
pub resting : (sc : Scenario) (m : Machine) (t : ℕ) → Ties sc m → is_task sc t ≡ true → is_some (tasked m t).frame
    ≡ false → first_waiting sc m [] (now sc m) ≡ None → is_at_rest sc (phases_in m.past) t (tasked m t) ≡ true
resting sc m t s task none e = rests sc m t none (not_below _ _ fewer)
  where
    above : (a b : ℕ) → nat_lt a b ≡ true → a < b
    above a b h = grind arith

    at_most : (a b : ℕ) → nat_lt a b ≡ false → b ≤ a
    at_most a b h = grind arith

    fewer : lines_until sc (phases_in m.past + 1) t ≤ (tasked m t).begun
    fewer =
        let b : lines_until sc (phases_in m.past + 1) t ≡ lines_until sc (phases_in m.past) t + of_task t (now sc m) =
        lines_with_phase sc t (phases_in m.past) in
        let c : (tasked m t).begun ≡ calls_in m.past t + bit (is_answering (tasked m t).frame) =
        (s.tasks t task).counted in
        let d : lines_until sc (phases_in m.past) t ≤ calls_in m.past t = (s.tasks t task).answered in
        cases_bool (nat_lt 0 (of_task t (now sc m))) (lines_until sc (phases_in m.past + 1) t ≤ (tasked m t).begun)
        (λ some. let i : count_by (λ u. u == t) [] + of_task t (now sc m) + lines_until sc (phases_in m.past) t ≤
        (tasked m t).begun = waiting_none sc m [] (now sc m) t e (above _ _ some) in
        let k : count_by (λ u. u == t) [] ≡ 0 = refl in omega arith)
        (λ zero. let z : of_task t (now sc m) ≤ 0 = at_most _ _ zero in omega arith)

-- a task without a next event is at rest
pub none_next_rests : (sc : Scenario) (m : Machine) (t : ℕ) → Ties sc m → is_task sc t ≡ true
    → is_some (next_kind sc m t) ≡ false → is_at_rest sc (phases_in m.past) t (tasked m t) ≡ true
none_next_rests sc m t s task e = by_frame (tasked m t).frame refl e
  where
    begun_all : (b : Bool) → is_some (if b then Some kinds.Begin else None) ≡ false → b ≡ false
    begun_all true h = cc
    begun_all false h = refl

    not_both : (b : Bool) → b ≡ true → b ≡ false → ⊥
    not_both true e h = cc
    not_both false e h = cc

    by_frame : (f : Option Frame) → (tasked m t).frame ≡ f
        → is_some (task_next sc (phases_in m.past) t (tasked m t) f) ≡ false
        → is_at_rest sc (phases_in m.past) t (tasked m t) ≡ true
    by_frame None g h = rests sc m t (ap is_some g) (begun_all _ h)
    by_frame (Some f) g h =
        absurd (not_both (is_some (next_kind sc m t)) (opened_next sc m t (s.tasks t task) (ap is_some g)) e)

-- each of some tasks is at rest
pub all_rest : (sc : Scenario) (m : Machine) (ts : List ℕ)
    → AllByRecursion (λ t. is_at_rest sc (phases_in m.past) t (tasked m t) ≡ true) ts
    → list_all (λ t. is_at_rest sc (phases_in m.past) t (tasked m t)) ts ≡ true
all_rest sc m [] h = refl
all_rest sc m (t ∷ ts) h = both _ _ h.0 (all_rest sc m ts h.1)
  where
    both : (a b : Bool) → a ≡ true → b ≡ true → (a && b) ≡ true
    both a b e g = grind arith

-- where no task is ready, each is at rest
pub none_ready : (sc : Scenario) (m : Machine) → Ties sc m → (ts : List ℕ)
    → AllByRecursion (λ t. is_task sc t ≡ true) ts
    → ready sc m ts ≡ [] → AllByRecursion (λ t. is_at_rest sc (phases_in m.past) t (tasked m t) ≡ true) ts
none_ready sc m s [] h e = tt
none_ready sc m s (t ∷ ts) h e =
    cases_bool (is_some (next_kind sc m t))
    (AllByRecursion (λ t. is_at_rest sc (phases_in m.past) t (tasked m t) ≡ true) (t ∷ ts))
    (λ here. let g : t ∷ ready sc m ts ≡ [] = rw here at e in cc)
    (λ none. (none_next_rests sc m t s h.0 none, none_ready sc m s ts h.1 (rw none at e)))

-- a phase can end
pub phase_some : (sc : Scenario) (m : Machine) → all_at_rest sc m ≡ true → has_ended sc m ≡ false
    → is_some (phase_event sc m) ≡ true
unfolding phase_event
phase_some sc m e over = rw (e, more (nat_lt (phases_in m.past) (length sc.phases)) over) refl
  where
    more : (b : Bool) → not b ≡ false → b ≡ true
    more true h = refl
    more false h = cc

-- in turn

-- a move in turn can happen
pub turn_some : (sc : Scenario) (wants : ℕ → Bool) (n : ℕ) (m : Machine) → IsLimited sc → Ties sc m → has_ended sc m
    ≡ false
    → is_some (happens sc m (move_of wants n (turn_task sc m (lowest_open m (numbers (length sc.flags)))))) ≡ true
turn_some sc wants n m limited s over = by_open (lowest_open m (numbers (length sc.flags))) refl
  where
    by_open : (o : Option ℕ) → lowest_open m (numbers (length sc.flags)) ≡ o
        → is_some (happens sc m (move_of wants n (turn_task sc m o))) ≡ true
    by_open (Some t) e =
        let o : Opened sc m t = lowest_some sc m (numbers (length sc.flags)) t (all_tasks sc) e in
        event_some sc (wants n) t m s o.task (opened_next sc m t (s.tasks t o.task) o.frame)
    by_open None e = by_line (first_waiting sc m [] (now sc m)) refl
      where
        by_line : (o : Option ℕ) → first_waiting sc m [] (now sc m) ≡ o → is_some (happens sc m (move_of wants n o))
            ≡ true
        by_line (Some t) g =
            let task : is_task sc t ≡ true = waiting_in sc m [] (now sc m) t
            (phase_limited sc sc.phases (phases_in m.past) limited.lines) g in
            event_some sc (wants n) t m s task (waiting_next sc m t s task g)
        by_line None g =
            phase_some sc m (all_rest sc m (numbers (length sc.flags))
            (all_numbers (λ t. is_at_rest sc (phases_in m.past) t (tasked m t) ≡ true) (length sc.flags)
            (λ t a b. resting sc m t s (task_of sc t a b)
            (number_of_all (λ u. is_some (tasked m u).frame ≡ false) (length sc.flags)
            (lowest_none m (numbers (length sc.flags)) e) t a b) g))) over

-- some moves that can happen lead to a state
abbrev Runs : Scenario → List Move → Option Machine → Type 0
Runs sc moves o = is_some (run sc moves o) ≡ true

pub turn_runs : (sc : Scenario) (wants : ℕ → Bool) (n : ℕ) (m : Machine) → IsLimited sc → Ties sc m
    → Runs sc (in_turn n wants sc (Some m)) (Some m)
unfolding in_turn
turn_runs sc wants zero m limited s = refl
turn_runs sc wants (suc n) m limited s =
    cases_bool (has_ended sc m) (Runs sc (in_turn (suc n) wants sc (Some m)) (Some m))
    (λ over. rw over refl)
    (λ over. rw over (by_move (happens sc m move) refl (turn_some sc wants n m limited s over)
    (λ k. turn_runs sc wants n k limited)))
  where
    move : Move
    move = move_of wants n (turn_task sc m (lowest_open m (numbers (length sc.flags))))

    by_move : (o : Option Machine) → happens sc m move ≡ o → is_some o ≡ true
        → ((k : Machine) → Ties sc k → Runs sc (in_turn n wants sc (Some k)) (Some k))
        → Runs sc (in_turn n wants sc o) o
    by_move None e h rec = cc
    by_move (Some k) e h rec = rec k (happens_stands sc m k move s e)

-- by seed

-- a task that is ready
pub record IsReady (sc : Scenario) (m : Machine) (t : ℕ) : Type 0 where
  task : is_task sc t ≡ true
  next : is_some (next_kind sc m t) ≡ true

pub all_ready : (sc : Scenario) (m : Machine) (ts : List ℕ) → AllByRecursion (λ t. is_task sc t ≡ true) ts
    → AllByRecursion (IsReady sc m) (ready sc m ts)
all_ready sc m [] h = tt
all_ready sc m (t ∷ ts) h =
    cases_bool (is_some (next_kind sc m t)) (AllByRecursion (IsReady sc m) (ready sc m (t ∷ ts)))
    (λ e. rw e (record { task = h.0; next = e }, all_ready sc m ts h.1))
    (λ e. rw e (all_ready sc m ts h.1))

all_at : (P : ℕ → Type 0) (xs : List ℕ) (i : ℕ) → AllByRecursion P xs → i < length xs → P (get_or xs i 0)
all_at P [] i h l = absurd (omega arith)
all_at P (x ∷ xs) zero h l = h.0
all_at P (x ∷ xs) (suc i) h l = all_at P xs i h.1 (omega arith)

pub seed_some : (sc : Scenario) (wants : ℕ → Bool) (n s : ℕ) (m : Machine) → Ties sc m → has_ended sc m ≡ false
    → (ts : List ℕ) → ready sc m (numbers (length sc.flags)) ≡ ts → AllByRecursion (IsReady sc m) ts
    → is_some (happens sc m (move_of wants n (picked ts s))) ≡ true
seed_some sc wants n s m stands over [] e h = phase_some sc m
    (all_rest sc m (numbers (length sc.flags)) (none_ready sc m stands (numbers (length sc.flags)) (all_tasks sc) e))
    over
seed_some sc wants n s m stands over (t ∷ ts) e h =
    let r : IsReady sc m (get_or (t ∷ ts) (drawn s % length (t ∷ ts)) 0) = all_at (IsReady sc m) (t ∷ ts)
    (drawn s % length (t ∷ ts)) h (mod-lt (drawn s) (omega arith)) in
    event_some sc (wants n) (get_or (t ∷ ts) (drawn s % length (t ∷ ts)) 0) m stands r.task r.next

pub seed_runs : (sc : Scenario) (wants : ℕ → Bool) (n seed : ℕ) (m : Machine) → Ties sc m
    → Runs sc (by_seed n seed wants sc (Some m)) (Some m)
unfolding by_seed
seed_runs sc wants zero seed m s = refl
seed_runs sc wants (suc n) seed m s =
    cases_bool (has_ended sc m) (Runs sc (by_seed (suc n) seed wants sc (Some m)) (Some m))
    (λ over. rw over refl)
    (λ over. rw over (by_move (happens sc m move) refl
    (seed_some sc wants n next m s over (ready sc m (numbers (length sc.flags))) refl
    (all_ready sc m (numbers (length sc.flags)) (all_tasks sc))) (λ k. seed_runs sc wants n next k)))
  where
    next : ℕ
    next = seed_after (ready sc m (numbers (length sc.flags))) seed

    move : Move
    move = move_of wants n (picked (ready sc m (numbers (length sc.flags)))
        (seed_after (ready sc m (numbers (length sc.flags))) seed))

    by_move : (o : Option Machine) → happens sc m move ≡ o → is_some o ≡ true
        → ((k : Machine) → Ties sc k → Runs sc (by_seed n next wants sc (Some k)) (Some k))
        → Runs sc (by_seed n next wants sc o) o
    by_move None e h rec = cc
    by_move (Some k) e h rec = rec k (happens_stands sc m k move s e)

-- from the start
pub turn_from_start : (sc : Scenario) (wants : ℕ → Bool) (n : ℕ) → IsLimited sc
    → is_some (run_from_start sc (in_turn n wants sc (Some (start sc)))) ≡ true
turn_from_start sc wants n limited = turn_runs sc wants n (start sc) limited (start_stands sc)

pub seed_from_start : (sc : Scenario) (wants : ℕ → Bool) (n seed : ℕ)
    → is_some (run_from_start sc (by_seed n seed wants sc (Some (start sc)))) ≡ true
seed_from_start sc wants n seed = seed_runs sc wants n seed (start sc) (start_stands sc)
