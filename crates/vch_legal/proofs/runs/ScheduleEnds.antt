-- With a bound above what is left at the start, the schedules come to the end of the last phase.
use Rattle.std.proofs.Common.{◌≡◌, ℕ, zero, suc, ◌+◌, ◌<◌, ◌≤◌, Bool, List, refl, true, arith, subst, length, Some, None, Option}
use Rattle.std.specs.Prelude.{is_some}
use Rattle.vch_model.specs.declared.lists.Scenario.{Scenario}
use Rattle.vch_model.specs.Scenarios.{IsLimited}
use Rattle.vch_machine.specs.State.{Machine, start}
use Rattle.vch_machine.specs.Events.{numbers, ready}
use Rattle.vch_machine.specs.Schedules.{Move, happens, run, run_from_start, lowest_open, turn_task, move_of, has_ended, in_turn, picked, seed_after, by_seed}
use Rattle.vch_legal.specs.Tie.{Ties}
use Rattle.vch_legal.specs.Left.{work_left}
use Rattle.vch_legal.proofs.facts.Choices.{cases_bool}
use Rattle.vch_legal.proofs.runs.Runs.{start_stands, happens_stands}
use Rattle.vch_legal.proofs.runs.Turns.{all_tasks}
use Rattle.vch_legal.proofs.runs.ScheduleRuns.{turn_some, all_ready, seed_some}
use Rattle.vch_legal.proofs.bounds.Bounds.{move_lowers}

some_eq : {x y : Machine} → Some x ≡ Some y → x ≡ y
some_eq h = cc

-- some moves end where the last phase has ended
abbrev Ends : Scenario → List Move → Option Machine → Type 0
Ends sc moves o = (k : Machine) → run sc moves o ≡ Some k → has_ended sc k ≡ true

-- one move, and what follows
then_ends : (sc : Scenario) (m : Machine) (move : Move) (n : ℕ) (rest : Option Machine → List Move) → Ties sc m
    → is_some (happens sc m move) ≡ true → work_left sc m < suc n
    → ((k : Machine) → Ties sc k → work_left sc k < n → Ends sc (rest (Some k)) (Some k))
    → Ends sc (rest (happens sc m move)) (happens sc m move)
then_ends sc m move n rest s some few rec = by_move (happens sc m move) refl some
  where
    by_move : (o : Option Machine) → happens sc m move ≡ o → is_some o ≡ true → Ends sc (rest o) o
    by_move None e h = cc
    by_move (Some k) e h = rec k (happens_stands sc m k move s e)
        (let a : work_left sc k + 1 ≤ work_left sc m = move_lowers sc m k move s e in omega arith)

turn_ends : (sc : Scenario) (wants : ℕ → Bool) (n : ℕ) (m : Machine) → IsLimited sc → Ties sc m → work_left sc m < n
    → Ends sc (in_turn n wants sc (Some m)) (Some m)
unfolding in_turn
turn_ends sc wants zero m limited s few = absurd (omega arith)
turn_ends sc wants (suc n) m limited s few =
    cases_bool (has_ended sc m) (Ends sc (in_turn (suc n) wants sc (Some m)) (Some m))
    (λ over. rw over (λ k e. subst (λ (x : Machine). has_ended sc x ≡ true) (some_eq e) over))
    (λ over. rw over (then_ends sc m move n (in_turn n wants sc) s (turn_some sc wants n m limited s over) few
    (λ k. turn_ends sc wants n k limited)))
  where
    move : Move
    move = move_of wants n (turn_task sc m (lowest_open m (numbers (length sc.flags))))

seed_ends : (sc : Scenario) (wants : ℕ → Bool) (n seed : ℕ) (m : Machine) → Ties sc m → work_left sc m < n
    → Ends sc (by_seed n seed wants sc (Some m)) (Some m)
unfolding by_seed
seed_ends sc wants zero seed m s few = absurd (omega arith)
seed_ends sc wants (suc n) seed m s few =
    cases_bool (has_ended sc m) (Ends sc (by_seed (suc n) seed wants sc (Some m)) (Some m))
    (λ over. rw over (λ k e. subst (λ (x : Machine). has_ended sc x ≡ true) (some_eq e) over))
    (λ over. rw over (then_ends sc m move n (by_seed n next wants sc) s
    (seed_some sc wants n next m s over (ready sc m (numbers (length sc.flags))) refl
    (all_ready sc m (numbers (length sc.flags)) (all_tasks sc))) few (λ k. seed_ends sc wants n next k)))
  where
    next : ℕ
    next = seed_after (ready sc m (numbers (length sc.flags))) seed

    move : Move
    move = move_of wants n (picked (ready sc m (numbers (length sc.flags)))
        (seed_after (ready sc m (numbers (length sc.flags))) seed))

-- from the start
pub turn_ends_from_start : (sc : Scenario) (wants : ℕ → Bool) (n : ℕ) (m : Machine) → IsLimited sc
    → work_left sc (start sc) < n → run_from_start sc (in_turn n wants sc (Some (start sc))) ≡ Some m → has_ended sc m
    ≡ true
turn_ends_from_start sc wants n m limited few e = turn_ends sc wants n (start sc) limited (start_stands sc) few m e

pub seed_ends_from_start : (sc : Scenario) (wants : ℕ → Bool) (n seed : ℕ) (m : Machine) → work_left sc (start sc) < n
    → run_from_start sc (by_seed n seed wants sc (Some (start sc))) ≡ Some m → has_ended sc m ≡ true
seed_ends_from_start sc wants n seed m few e = seed_ends sc wants n seed (start sc) (start_stands sc) few m e
