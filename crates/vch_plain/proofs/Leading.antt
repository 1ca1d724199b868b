-- The moves of a schedule lead from the start to a state, and the next of them can happen.
use Rattle.std.proofs.Common.{◌≡◌, ℕ, suc, ◌+◌, ◌*◌, ◌<◌, ◌≤◌, nat_lt, Bool, true, false, List, [], ◌∷◌, ◌++◌, refl, arith, sym, ap, ◌∙◌, length, subst, reverse, Option, Some, None}
use Rattle.std.specs.Prelude.{is_some, IsSome, if◌then◌else◌, ◌&&◌}
use Rattle.vch_model.specs.declared.entry.Entry.TheVariants as entries
use Rattle.vch_model.specs.declared.lists.Scenario.{Scenario}
use Rattle.vch_model.specs.Lines.{is_task, phases_in}
use Rattle.vch_model.specs.Scenarios.{IsLimited, line_count}
use Rattle.vch_machine.specs.Next.{next_kind}
use Rattle.vch_machine.specs.State.{Machine, start, tasked}
use Rattle.vch_machine.specs.Frames.{noted}
use Rattle.vch_machine.specs.Events.{event, event_of, phase_event, all_at_rest}
use Rattle.vch_machine.specs.EndedRuns.{IsBySeed}
use Rattle.vch_machine.specs.PlainRuns.{never, IsPlainRun}
use Rattle.vch_machine.specs.Schedules.{Move, happens, run, run_from_start, in_turn, by_seed, move_of, has_ended}
use Rattle.vch_legal.specs.Left.{work_left, largest_call}
use Rattle.vch_legal.specs.Tie.{Ties}
use Rattle.vch_legal.proofs.CallerLemmas.{reached_stands, start_few}
use Rattle.vch_model.specs.Legal.{LegalPast}
use Rattle.vch_sums.specs.Summed.{Summed, IsSummed}
use Rattle.vch_sums.proofs.CallerLemmas.{passed}
use Rattle.vch_plain.specs.Keeping.{Keeps}
use Rattle.vch_plain.specs.Turning.{IsGoing, LeadsInTurn, LeadsBySeed, IsDraw, chosen_move, turn_of}
use Rattle.vch_plain.specs.declared.run.Run.{Run}
use Rattle.vch_plain.proofs.Growing.{event_grows, one_phase}

some_true : (A : Type 0) (o : Option A) → is_some o ≡ true → IsSome o
some_true A None e = e
some_true A (Some x) e = refl

one_more : (count rest : ℕ) → (count + 1) + rest ≡ count + suc rest
one_more count rest = omega arith

-- a run goes on by one move
pub run_on : (sc : Scenario) (moves : List Move) (o : Option Machine) (m n : Machine) (move : Move) → run sc moves o ≡ Some m → happens sc m move ≡ Some n
    → run sc (moves ++ move ∷ []) o ≡ Some n
run_on sc moves None m n move e h = absurd (cc)
run_on sc [] (Some k) m n move e h = let z : k ≡ m = cc in ap (λ (o : Option Machine). run sc [] o) (subst (λ (x : Machine). happens sc x move ≡ Some n) (sym z) h)
run_on sc (x ∷ moves) (Some k) m n move e h = run_on sc moves (happens sc k x) m n move e h

pub ties_of : (sc : Scenario) (r : Run) → IsGoing sc r → Ties sc r.machine
ties_of sc r g = reached_stands sc g.moves r.machine g.reached

-- the end of a phase appends its entry
pub phase_is : (sc : Scenario) (m : Machine) → IsSome (phase_event sc m) → phase_event sc m ≡ Some (noted m entries.Phase)
unfolding phase_event
phase_is sc m h = by (all_at_rest sc m && nat_lt (phases_in m.past) (length sc.phases)) h
  where
    by : (b : Bool) → IsSome (if b then Some (noted m entries.Phase) else None) → (if b then Some (noted m entries.Phase) else None) ≡ Some (noted m entries.Phase)
    by true h = refl
    by false h = let z : false ≡ true = h in absurd (cc)

-- an event that can happen is of a task
pub task_of_event : (sc : Scenario) (m : Machine) (t : ℕ) → IsSome (event sc false m t) → is_task sc t ≡ true
unfolding event
task_of_event sc m t h = by (is_task sc t) h
  where
    by : (b : Bool) → IsSome (if b then event_of sc false m t (tasked m t).frame (next_kind sc m t) else None) → b ≡ true
    by true h = refl
    by false h = let z : false ≡ true = h in absurd (cc)

-- In turn.

in_turn_next : (sc : Scenario) (m n : Machine) (rest : ℕ) → has_ended sc m ≡ false → happens sc m (chosen_move (turn_of sc m)) ≡ Some n
    → run sc (in_turn (suc rest) never sc (Some m)) (Some m) ≡ run sc (in_turn rest never sc (Some n)) (Some n)
unfolding in_turn
in_turn_next sc m n rest over e = by (turn_of sc m) e
  where
    by : (choice : Option ℕ) → happens sc m (chosen_move choice) ≡ Some n
        → run sc (if has_ended sc m then [] else (move_of never rest choice ∷ in_turn rest never sc (happens sc m (move_of never rest choice)))) (Some m) ≡ run sc (in_turn rest never sc (Some n)) (Some n)
    by None e = rw over (ap (λ (o : Option Machine). run sc (in_turn rest never sc o) o) e)
    by (Some t) e = rw over (ap (λ (o : Option Machine). run sc (in_turn rest never sc o) o) e)

pub leads_first : (sc : Scenario) (m : Machine) → m ≡ start sc → LeadsInTurn sc m 0
unfolding LeadsInTurn
leads_first sc m e rest = let z : 0 + rest ≡ rest = omega arith in rw (z, e) refl

pub leads_more : (sc : Scenario) (m n : Machine) (count : ℕ) → has_ended sc m ≡ false → happens sc m (chosen_move (turn_of sc m)) ≡ Some n → LeadsInTurn sc m count → LeadsInTurn sc n (count + 1)
unfolding LeadsInTurn
leads_more sc m n count over e l rest =
    subst (λ k. run sc (in_turn k never sc (Some (start sc))) (Some (start sc)) ≡ run sc (in_turn rest never sc (Some n)) (Some n)) (sym (one_more count rest))
    (l (suc rest) ∙ in_turn_next sc m n rest over e)

turn_one : (sc : Scenario) (m : Machine) → has_ended sc m ≡ false → is_some (run sc (in_turn 1 never sc (Some m)) (Some m)) ≡ true → is_some (happens sc m (chosen_move (turn_of sc m))) ≡ true
unfolding in_turn
turn_one sc m over e = by (turn_of sc m) e
  where
    after : (o : Option Machine) → is_some (run sc [] o) ≡ true → is_some o ≡ true
    after None e = e
    after (Some n) e = e

    by : (choice : Option ℕ) → is_some (run sc (if has_ended sc m then [] else (move_of never 0 choice ∷ [])) (Some m)) ≡ true → is_some (happens sc m (chosen_move choice)) ≡ true
    by choice e = after (happens sc m (chosen_move choice)) (rw over at e)

pub turn_can : (sc : Scenario) (m : Machine) (count : ℕ)
    → ((s : Scenario) (wants : ℕ → Bool) (bound : ℕ) → IsLimited s → is_some (run_from_start s (in_turn bound wants s (Some (start s)))) ≡ true)
    → IsLimited sc → has_ended sc m ≡ false → LeadsInTurn sc m count → IsSome (happens sc m (chosen_move (turn_of sc m)))
unfolding LeadsInTurn
turn_can sc m count law limited over l =
    some_true Machine (happens sc m (chosen_move (turn_of sc m))) (turn_one sc m over (subst (λ o. is_some o ≡ true) (l 1) (law sc never (count + 1) limited)))

pub turn_reached : (sc : Scenario) (m : Machine) (count : ℕ) → LeadsInTurn sc m count → run_from_start sc (in_turn count never sc (Some (start sc))) ≡ Some m
unfolding LeadsInTurn in_turn
turn_reached sc m count l = let z : count + 0 ≡ count = omega arith in subst (λ k. run sc (in_turn k never sc (Some (start sc))) (Some (start sc)) ≡ Some m) z (l 0)

pub turn_plain : (sc : Scenario) (m : Machine) (count : ℕ) → LeadsInTurn sc m count → has_ended sc m ≡ true → IsPlainRun sc (reverse m.past)
turn_plain sc m count l e = record { bound = count; m = m; run = turn_reached sc m count l; ended = e; history_is = refl }

few_left : (sc : Scenario) (count : ℕ) → IsLimited sc → 1099511627776 ≤ count → work_left sc (start sc) < count
few_left sc count l e =
    let b : work_left sc (start sc) ≤ largest_call * line_count sc.phases + length sc.phases = start_few sc in
    let c = l.calls in
    let d = l.phases in
    omega (arith, b, c, d, e)

pub turn_over : (sc : Scenario) (m : Machine) (count : ℕ)
    → ((s : Scenario) (wants : ℕ → Bool) (bound : ℕ) (n : Machine) → IsLimited s → work_left s (start s) < bound → run_from_start s (in_turn bound wants s (Some (start s))) ≡ Some n → has_ended s n ≡ true)
    → IsLimited sc → 1099511627776 ≤ count → LeadsInTurn sc m count → has_ended sc m ≡ true
turn_over sc m count law limited e l = law sc never count m limited (few_left sc count limited e) (turn_reached sc m count l)

-- By seed.

by_seed_next : (sc : Scenario) (m n : Machine) (seed next : ℕ) (choice : Option ℕ) (rest : ℕ) → has_ended sc m ≡ false → IsDraw sc m seed choice next → happens sc m (chosen_move choice) ≡ Some n
    → run sc (by_seed (suc rest) seed never sc (Some m)) (Some m) ≡ run sc (by_seed rest next never sc (Some n)) (Some n)
unfolding by_seed
by_seed_next sc m n seed next choice rest over d e =
    rw (over, d.after, d.picks) (by choice e)
  where
    by : (choice : Option ℕ) → happens sc m (chosen_move choice) ≡ Some n
        → run sc (move_of never rest choice ∷ by_seed rest next never sc (happens sc m (move_of never rest choice))) (Some m) ≡ run sc (by_seed rest next never sc (Some n)) (Some n)
    by None e = ap (λ (o : Option Machine). run sc (by_seed rest next never sc o) o) e
    by (Some t) e = ap (λ (o : Option Machine). run sc (by_seed rest next never sc o) o) e

pub seed_first : (sc : Scenario) (m : Machine) (seed : ℕ) → m ≡ start sc → LeadsBySeed seed seed sc m 0
unfolding LeadsBySeed
seed_first sc m seed e rest = let z : 0 + rest ≡ rest = omega arith in rw (z, e) refl

pub seed_more : (first seed next : ℕ) (sc : Scenario) (m n : Machine) (choice : Option ℕ) (count : ℕ) → has_ended sc m ≡ false → IsDraw sc m seed choice next → happens sc m (chosen_move choice) ≡ Some n
    → LeadsBySeed first seed sc m count → LeadsBySeed first next sc n (count + 1)
unfolding LeadsBySeed
seed_more first seed next sc m n choice count over d e l rest =
    subst (λ k. run sc (by_seed k first never sc (Some (start sc))) (Some (start sc)) ≡ run sc (by_seed rest next never sc (Some n)) (Some n)) (sym (one_more count rest))
    (l (suc rest) ∙ by_seed_next sc m n seed next choice rest over d e)

seed_one : (sc : Scenario) (m : Machine) (seed next : ℕ) (choice : Option ℕ) → has_ended sc m ≡ false → IsDraw sc m seed choice next → is_some (run sc (by_seed 1 seed never sc (Some m)) (Some m)) ≡ true
    → is_some (happens sc m (chosen_move choice)) ≡ true
unfolding by_seed
seed_one sc m seed next choice over d e = after (happens sc m (chosen_move choice)) (rw (over, d.after, d.picks) at e)
  where
    after : (o : Option Machine) → is_some (run sc [] o) ≡ true → is_some o ≡ true
    after None e = e
    after (Some n) e = e

pub seed_can : (first seed next : ℕ) (sc : Scenario) (m : Machine) (choice : Option ℕ) (count : ℕ)
    → ((s : Scenario) (wants : ℕ → Bool) (bound seed : ℕ) → is_some (run_from_start s (by_seed bound seed wants s (Some (start s)))) ≡ true)
    → has_ended sc m ≡ false → IsDraw sc m seed choice next → LeadsBySeed first seed sc m count → IsSome (happens sc m (chosen_move choice))
unfolding LeadsBySeed
seed_can first seed next sc m choice count law over d l =
    some_true Machine (happens sc m (chosen_move choice)) (seed_one sc m seed next choice over d (subst (λ o. is_some o ≡ true) (l 1) (law sc never (count + 1) first)))

pub seed_reached : (first seed : ℕ) (sc : Scenario) (m : Machine) (count : ℕ) → LeadsBySeed first seed sc m count → run_from_start sc (by_seed count first never sc (Some (start sc))) ≡ Some m
unfolding LeadsBySeed by_seed
seed_reached first seed sc m count l = let z : count + 0 ≡ count = omega arith in subst (λ k. run sc (by_seed k first never sc (Some (start sc))) (Some (start sc)) ≡ Some m) z (l 0)

pub seed_ended : (first seed : ℕ) (sc : Scenario) (m : Machine) (count : ℕ) → LeadsBySeed first seed sc m count → has_ended sc m ≡ true → IsBySeed first sc (reverse m.past)
seed_ended first seed sc m count l e =
    record { bound = count; wants = never; run = record { m = m; run = seed_reached first seed sc m count l; ended = e; history_is = refl } }

pub seed_over : (first seed : ℕ) (sc : Scenario) (m : Machine) (count : ℕ)
    → ((s : Scenario) (wants : ℕ → Bool) (bound seed : ℕ) (n : Machine) → work_left s (start s) < bound → run_from_start s (by_seed bound seed wants s (Some (start s))) ≡ Some n → has_ended s n ≡ true)
    → IsLimited sc → 1099511627776 ≤ count → LeadsBySeed first seed sc m count → has_ended sc m ≡ true
seed_over first seed sc m count law limited e l = law sc never count first m (few_left sc count limited e) (seed_reached first seed sc m count l)

-- Of runs.

pub keeps_of : (sc : Scenario) (r : Run) → IsGoing sc r → Keeps sc r.machine r.sums
keeps_of sc r g = record { limited = g.limited; ties = ties_of sc r g; summed = g.summed }

pub going_on : (sc : Scenario) (r : Run) (n : Machine) (sums : Summed) (t : ℕ) → IsGoing sc r → event sc false r.machine t ≡ Some n → IsSummed sc n.past sums → IsGoing sc (record r { machine = n; sums = sums })
going_on sc r n sums t g e d = record {
  limited = g.limited;
  moves = g.moves ++ Move.Of t false ∷ [];
  reached = run_on sc g.moves (Some (start sc)) r.machine n (Move.Of t false) g.reached e;
  phase = g.phase ∙ sym (event_grows sc false t r.machine n e).phases;
  summed = d;
}

pub ties_on : (sc : Scenario) (r : Run) (n : Machine) (t : ℕ) → IsGoing sc r → event sc false r.machine t ≡ Some n → Ties sc n
ties_on sc r n t g e = reached_stands sc (g.moves ++ Move.Of t false ∷ []) n (run_on sc g.moves (Some (start sc)) r.machine n (Move.Of t false) g.reached e)

pub going_over : (sc : Scenario) (r : Run) (n : Machine) (k : ℕ) → IsGoing sc r → phase_event sc r.machine ≡ Some n → n ≡ noted r.machine entries.Phase → k ≡ r.phases + 1
    → IsGoing sc (record r { machine = n; phases = k })
going_over sc r n k g e same z =
    let reached : run_from_start sc (g.moves ++ Move.EndPhase ∷ []) ≡ Some n = run_on sc g.moves (Some (start sc)) r.machine n Move.EndPhase g.reached e in
    let legal : LegalPast sc (entries.Phase ∷ r.machine.past) = subst (λ (x : Machine). LegalPast sc x.past) same (reached_stands sc (g.moves ++ Move.EndPhase ∷ []) n reached).legal in
    record {
      limited = g.limited;
      moves = g.moves ++ Move.EndPhase ∷ [];
      reached = reached;
      phase = z ∙ ap (λ i. i + 1) g.phase ∙ sym (one_phase sc r.machine n e).0;
      summed = subst (λ (x : Machine). IsSummed sc x.past r.sums) (sym same) (passed sc r.machine.past entries.Phase r.sums refl legal g.summed);
    }
