-- A run to its end: what is left bounds the moves, and each move is the next one of the schedule.
use Rattle.std.proofs.Common.{◌≡◌, ℕ, zero, suc, ◌+◌, ◌*◌, ◌<◌, ◌≤◌, ◌==◌, nat_lt, Bool, true, false, not, List, [], ◌∷◌, ◌++◌, refl, arith, sym, ap, ◌∙◌, length, subst, Option, Some, None}
use Rattle.std.specs.Prelude.{if◌then◌else◌}
use Rattle.std.proofs.lemmas.Grind.{common_steps}
use Rattle.vch_model.specs.declared.lists.Scenario.{Scenario}
use Rattle.vch_model.specs.Lines.{phases_in}
use Rattle.vch_model.specs.Scenarios.{line_count}
use Rattle.vch_machine.specs.State.{Machine, start}
use Rattle.vch_machine.specs.Events.{ready}
use Rattle.vch_machine.specs.Schedules.{Move, happens, run, run_from_start, in_turn, by_seed, move_of, lowest_open, turn_task, picked, seed_after, has_ended}
use Rattle.vch_legal.specs.Left.{work_left, largest_call}
use Rattle.vch_legal.proofs.CallerLemmas.{reached_stands, move_lowers, run_bounded, start_few}
use Rattle.vch_parts.specs.declared.parts.Parts.{Parts}
use Rattle.vch_parts.specs.Reached.{Reached, Stands}
use Rattle.vch_frame.proofs.CallerLemmas.{run_on}
use Rattle.vch_runs.specs.Runs.{RunsTo, EndsInTurn, EndsBySeed}
use Rattle.vch_runs.specs.Turning.{all_of, IsTurn, IsDraw, Goes, Turns, Draws}
use Rattle.vch_runs.proofs.Framed.{reach}
use Rattle.vch_runs.proofs.Waiting.{same_phase}

-- What is left.

-- so many moves were made, and what is left is at least so much less
pub record Spares (p : Parts) (count : ℕ) : Type 0 where
  pub moves : List Move
  pub m : Machine
  pub run : run_from_start p.scenario moves ≡ Some m
  pub stands : Stands p m
  pub few : work_left p.scenario m + count < 1099511627776

pub spares_first : (p : Parts) → Reached p → Spares p 0
spares_first p r =
    let x = reach p r in
    let a : length x.moves + work_left p.scenario x.m ≤ work_left p.scenario (start p.scenario) = run_bounded p.scenario x.moves x.m x.run in
    let b : work_left p.scenario (start p.scenario) ≤ largest_call * line_count p.scenario.phases + length p.scenario.phases = start_few p.scenario in
    let c = x.limited.calls in
    let d = x.limited.phases in
    record { moves = x.moves; m = x.m; run = x.run; stands = x.state; few = omega (arith, a, b, c, d) }

abbrev choice_move : Bool → Option ℕ → Move
choice_move want choice = move_of (λ _. want) 0 choice

pub spares_more : (p q : Parts) (choice : Option ℕ) (count : ℕ) → Goes choice p q → Spares p count → Spares q (count + 1)
spares_more p q choice count f s =
    let y = f.move s.m s.stands in
    let a : work_left p.scenario y.0 + 1 ≤ work_left p.scenario s.m = move_lowers p.scenario s.m y.0 (choice_move f.want choice) (reached_stands p.scenario s.moves s.m s.run) y.1 in
    let b = s.few in
    record {
      moves = s.moves ++ choice_move f.want choice ∷ [];
      m = y.0;
      run = subst (λ sc. run_from_start sc (s.moves ++ choice_move f.want choice ∷ []) ≡ Some y.0) (sym f.scenario) (run_on p.scenario s.moves (Some (start p.scenario)) s.m y.0 (choice_move f.want choice) s.run y.1);
      stands = y.2;
      few = subst (λ sc. work_left sc y.0 + (count + 1) < 1099511627776) (sym f.scenario) (omega (arith, a, b));
    }

pub never_spent : (p : Parts) (count : ℕ) → 1099511627776 ≤ count → Spares p count → ⊥
never_spent p count l s = let a = s.few in omega (arith, a, l)

-- What is wanted.

-- memory is out at one move more
abbrev pub and_at : ℕ → Bool → (ℕ → Bool) → ℕ → Bool
and_at n want wants i = if i == n then want else wants i

pub at_own : (n : ℕ) (want : Bool) (wants : ℕ → Bool) → and_at n want wants n ≡ want
at_own n want wants = let e : (n == n) ≡ true = grind (arith, common_steps) in rw e refl

pub at_below : (n i : ℕ) (want : Bool) (wants : ℕ → Bool) → i < n → and_at n want wants i ≡ wants i
at_below n i want wants l = let e : (i == n) ≡ false = grind (arith, common_steps) in rw e refl

same_move : (v w : ℕ → Bool) (n k : ℕ) (choice : Option ℕ) → v n ≡ w k → move_of v n choice ≡ move_of w k choice
same_move v w n k None e = refl
same_move v w n k (Some t) e = ap (Move.Of t) e

-- only wishes below the bound are looked at
turn_same : (n : ℕ) (v w : ℕ → Bool) (sc : Scenario) (o : Option Machine) → ((i : ℕ) → i < n → v i ≡ w i) → in_turn n v sc o ≡ in_turn n w sc o
unfolding in_turn
turn_same zero v w sc o h = refl
turn_same (suc n) v w sc None h = refl
turn_same (suc n) v w sc (Some m) h =
    ap (λ rest. if has_ended sc m then [] else rest)
    (ap (λ (x : Move). x ∷ in_turn n v sc (happens sc m x)) (same_move v w n n (turn_task sc m (lowest_open m (all_of sc))) (h n (omega arith)))
    ∙ ap (λ rest. move_of w n (turn_task sc m (lowest_open m (all_of sc))) ∷ rest) (turn_same n v w sc (happens sc m (move_of w n (turn_task sc m (lowest_open m (all_of sc))))) (λ i l. h i (omega (arith, l)))))

seed_same : (n s : ℕ) (v w : ℕ → Bool) (sc : Scenario) (o : Option Machine) → ((i : ℕ) → i < n → v i ≡ w i) → by_seed n s v sc o ≡ by_seed n s w sc o
unfolding by_seed
seed_same zero s v w sc o h = refl
seed_same (suc n) s v w sc None h = refl
seed_same (suc n) s v w sc (Some m) h =
    ap (λ rest. if has_ended sc m then [] else rest)
    (ap (λ (x : Move). x ∷ by_seed n (seed_after (ready sc m (all_of sc)) s) v sc (happens sc m x)) (same_move v w n n (picked (ready sc m (all_of sc)) (seed_after (ready sc m (all_of sc)) s)) (h n (omega arith)))
    ∙ ap (λ rest. move_of w n (picked (ready sc m (all_of sc)) (seed_after (ready sc m (all_of sc)) s)) ∷ rest)
    (seed_same n (seed_after (ready sc m (all_of sc)) s) v w sc (happens sc m (move_of w n (picked (ready sc m (all_of sc)) (seed_after (ready sc m (all_of sc)) s)))) (λ i l. h i (omega (arith, l)))))

-- One move, and what follows.

pub not_over : (p : Parts) (m : Machine) → Stands p m → p.phase < length p.scenario.phases → has_ended p.scenario m ≡ false
not_over p m s l =
    let e : p.phase ≡ phases_in m.past = same_phase p m s in
    let t : nat_lt (phases_in m.past) (length p.scenario.phases) ≡ true = grind (arith, common_steps) in
    ap not t

one_move : (sc : Scenario) (move : Move) (rest : List Move) (m k : Machine) → happens sc m move ≡ Some k → run sc (move ∷ rest) (Some m) ≡ run sc rest (Some k)
one_move sc move rest m k e = ap (run sc rest) e

turn_moves : (sc : Scenario) (n : ℕ) (want : Bool) (wants : ℕ → Bool) (m k : Machine) (choice : Option ℕ) → has_ended sc m ≡ false → turn_task sc m (lowest_open m (all_of sc)) ≡ choice
    → happens sc m (choice_move want choice) ≡ Some k → run sc (in_turn (suc n) (and_at n want wants) sc (Some m)) (Some m) ≡ run sc (in_turn n wants sc (Some k)) (Some k)
unfolding in_turn
turn_moves sc n want wants m k choice over turn e =
    let a : move_of (and_at n want wants) n (turn_task sc m (lowest_open m (all_of sc))) ≡ choice_move want choice =
    ap (move_of (and_at n want wants) n) turn ∙ same_move (and_at n want wants) (λ _. want) n 0 choice (at_own n want wants) in
    rw (over, a, e) (one_move sc (choice_move want choice) (in_turn n (and_at n want wants) sc (Some k)) m k e ∙ ap (λ rest. run sc rest (Some k)) (turn_same n (and_at n want wants) wants sc (Some k) (λ i l. at_below n i want wants l)))

seed_moves : (sc : Scenario) (n s next : ℕ) (want : Bool) (wants : ℕ → Bool) (m k : Machine) (choice : Option ℕ) → has_ended sc m ≡ false
    → picked (ready sc m (all_of sc)) next ≡ choice → seed_after (ready sc m (all_of sc)) s ≡ next
    → happens sc m (choice_move want choice) ≡ Some k → run sc (by_seed (suc n) s (and_at n want wants) sc (Some m)) (Some m) ≡ run sc (by_seed n next wants sc (Some k)) (Some k)
unfolding by_seed
seed_moves sc n s next want wants m k choice over turn after e =
    let a : move_of (and_at n want wants) n (picked (ready sc m (all_of sc)) next) ≡ choice_move want choice =
    ap (move_of (and_at n want wants) n) turn ∙ same_move (and_at n want wants) (λ _. want) n 0 choice (at_own n want wants) in
    rw (over, after, a, e) (one_move sc (choice_move want choice) (by_seed n next (and_at n want wants) sc (Some k)) m k e ∙ ap (λ rest. run sc rest (Some k)) (seed_same n next (and_at n want wants) wants sc (Some k) (λ i l. at_below n i want wants l)))

-- Of parts.

pub ends_here : (p : Parts) → length p.scenario.phases ≤ p.phase → EndsInTurn p p
unfolding in_turn
ends_here p l = record { scenario = refl; ended = l; bound = 0; wants = λ _. false; run = λ m s. (m, refl, s) }

pub seed_ends_here : (seed : ℕ) (p : Parts) → length p.scenario.phases ≤ p.phase → EndsBySeed seed p p
unfolding by_seed
seed_ends_here seed p l = record { scenario = refl; ended = l; bound = 0; wants = λ _. false; run = λ m s. (m, refl, s) }

pub turn_then : (p q r : Parts) → p.phase < length p.scenario.phases → Turns p q → EndsInTurn q r → EndsInTurn p r
unfolding IsTurn
turn_then p q r left f g = record {
  scenario = g.scenario ∙ f.goes.scenario;
  ended = subst (λ (sc : Scenario). length sc.phases ≤ r.phase) f.goes.scenario g.ended;
  bound = suc g.bound;
  wants = and_at g.bound f.goes.want g.wants;
  run = λ m s.
      let y = f.goes.move m s in
      let z : RunsTo p.scenario (in_turn g.bound g.wants p.scenario (Some y.0)) y.0 r = subst (λ sc. RunsTo sc (in_turn g.bound g.wants sc (Some y.0)) y.0 r) f.goes.scenario (g.run y.0 y.2) in
      (z.0, turn_moves p.scenario g.bound f.goes.want g.wants m y.0 f.choice (not_over p m s left) (f.turn m s) y.1 ∙ z.1, z.2);
}

pub draw_then : (seed next : ℕ) (p q r : Parts) → p.phase < length p.scenario.phases → Draws seed next p q → EndsBySeed next q r → EndsBySeed seed p r
unfolding IsDraw
draw_then seed next p q r left f g = record {
  scenario = g.scenario ∙ f.goes.scenario;
  ended = subst (λ (sc : Scenario). length sc.phases ≤ r.phase) f.goes.scenario g.ended;
  bound = suc g.bound;
  wants = and_at g.bound f.goes.want g.wants;
  run = λ m s.
      let y = f.goes.move m s in
      let d = f.draw m s in
      let z : RunsTo p.scenario (by_seed g.bound next g.wants p.scenario (Some y.0)) y.0 r = subst (λ sc. RunsTo sc (by_seed g.bound next g.wants sc (Some y.0)) y.0 r) f.goes.scenario (g.run y.0 y.2) in
      (z.0, seed_moves p.scenario g.bound seed next f.goes.want g.wants m y.0 f.choice (not_over p m s left) d.0 d.1 y.1 ∙ z.1, z.2);
}
