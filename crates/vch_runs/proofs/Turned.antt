-- Whose turn it is can go.
use Rattle.std.proofs.Common.{◌≡◌, ℕ, ◌<◌, true, false, List, [], ◌∷◌, length, sym, ap, ◌∙◌, refl, Option, Some, None}
use Rattle.std.specs.Prelude.{is_some, if◌then◌else◌}
use Rattle.std.specs.List.{AllByRecursion}
use Rattle.vch_base.specs.declared.kind.Kind.{Kind}
use Rattle.vch_base.specs.declared.kind.Kind.TheVariants as kinds
use Rattle.vch_model.specs.declared.lists.Scenario.{Scenario}
use Rattle.vch_model.specs.Lines.{is_task, phases_in}
use Rattle.vch_machine.specs.State.{Machine, tasked}
use Rattle.vch_machine.specs.Events.{ready, is_at_rest}
use Rattle.vch_machine.specs.Next.{next_kind, task_next}
use Rattle.vch_machine.specs.Schedules.{turn_task}
use Rattle.vch_legal.proofs.CallerLemmas.{reached_stands, opened_next, lowest_none, number_of_all, all_numbers, task_of, waiting_next, resting, task_rests}
use Rattle.vch_parts.specs.declared.parts.Parts.{Parts}
use Rattle.vch_parts.specs.Framed.{frame_of}
use Rattle.vch_parts.specs.Reached.{Reached, Stands}
use Rattle.vch_parts.proofs.CallerLemmas.{next_agrees}
use Rattle.vch_runs.specs.Called.{HasNext}
use Rattle.vch_runs.specs.Turning.{all_of, IsTurn, IsLowest, IsWaiting, IsTaskOrNone, OfFrame, IsResting, CanGo}
use Rattle.vch_runs.proofs.Framed.{Reach, reach, frame_same, is_there}

-- all states that the parts stand for have the same next event of a task
pub same_next : (p : Parts) (t : ℕ) (m n : Machine) → is_task p.scenario t ≡ true → Stands p m → Stands p n → next_kind p.scenario n t ≡ next_kind p.scenario m t
same_next p t m n task a b = sym (next_agrees p t n task b) ∙ next_agrees p t m task a

pub for_all : (p : Parts) (t : ℕ) (m : Machine) → is_task p.scenario t ≡ true → Stands p m → is_some (next_kind p.scenario m t) ≡ true → HasNext p t
unfolding HasNext
for_all p t m task a e n b = ap is_some (same_next p t m n task a b) ∙ e

-- the lowest task with a frame
pub lowest_turn : (p : Parts) (t : ℕ) → IsLowest p (Some t) → IsTurn p (Some t)
unfolding IsLowest IsTurn
lowest_turn p t l m s = ap (turn_task p.scenario m) (l m s)

pub frame_can : (p : Parts) (t : ℕ) → Reached p → OfFrame p (Some t) → CanGo p (Some t)
frame_can p t r o =
    let x = reach p r in
    (o.0, for_all p t x.m o.0 x.state (opened_next p.scenario x.m t ((reached_stands p.scenario x.moves x.m x.run).tasks t o.0) (frame_same p x.m t x.state o.0 ∙ is_there (frame_of p.frames t) o.1)))

-- the first line that waits
pub waiting_turn : (p : Parts) (choice : Option ℕ) → IsLowest p None → IsWaiting p choice → IsTurn p choice
unfolding IsLowest IsWaiting IsTurn
waiting_turn p choice l w m s = ap (turn_task p.scenario m) (l m s) ∙ w m s

-- a task at rest has no next event
rest_next : (sc : Scenario) (m : Machine) (t : ℕ) → is_at_rest sc (phases_in m.past) t (tasked m t) ≡ true → is_some (next_kind sc m t) ≡ false
rest_next sc m t e =
    let r = task_rests sc m t e in
    ap (λ o. is_some (task_next sc (phases_in m.past) t (tasked m t) o)) r.frame ∙ ap (λ b. is_some (if b then Some kinds.Begin else None)) r.begun

none_are_ready : (sc : Scenario) (m : Machine) (ts : List ℕ) → AllByRecursion (λ t. is_some (next_kind sc m t) ≡ false) ts → ready sc m ts ≡ []
none_are_ready sc m [] h = refl
none_are_ready sc m (t ∷ ts) h = rw h.0 (none_are_ready sc m ts h.1)

some_false : (o : Option Kind) → is_some o ≡ false → o ≡ None
some_false None e = refl
some_false (Some k) e = absurd (cc)

pub waiting_can : (p : Parts) (choice : Option ℕ) → Reached p → p.phase < length p.scenario.phases → IsLowest p None → IsWaiting p choice → IsTaskOrNone p choice → CanGo p choice
unfolding IsLowest IsWaiting IsResting
waiting_can p None r left l w o = (
  left,
  λ n b. none_are_ready p.scenario n (all_of p.scenario)
      (all_numbers (λ t. is_some (next_kind p.scenario n t) ≡ false) (length p.scenario.flags)
      (λ t a c. ap is_some (same_next p t x.m n (task_of p.scenario t a c) x.state b)
      ∙ rest_next p.scenario x.m t (resting p.scenario x.m t (reached_stands p.scenario x.moves x.m x.run) (task_of p.scenario t a c)
      (number_of_all (λ u. is_some (tasked x.m u).frame ≡ false) (length p.scenario.flags) (lowest_none x.m (all_of p.scenario) (l x.m x.state)) t a c) (w x.m x.state)))),
)
  where
    x : Reach p
    x = reach p r
waiting_can p (Some t) r left l w o =
    let x = reach p r in
    (o, for_all p t x.m o x.state (waiting_next p.scenario x.m t (reached_stands p.scenario x.moves x.m x.run) o (w x.m x.state)))
