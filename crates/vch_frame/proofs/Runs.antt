-- A run with one event more, and the event of a task with a frame.
use Rattle.std.proofs.Common.{◌≡◌, List, [], ◌∷◌, ◌++◌, refl, ◌∙◌, subst, Bool, true, ℕ, Option, Some, None}
use Rattle.vch_base.specs.declared.kind.Kind.{Kind}
use Rattle.vch_model.specs.Lines.{is_task}
use Rattle.vch_model.specs.declared.lists.Scenario.{Scenario}
use Rattle.vch_machine.specs.State as machine
use Rattle.vch_machine.specs.State.{Machine, tasked}
use Rattle.vch_machine.specs.Events.{event, event_of}
use Rattle.vch_machine.specs.Next.{next_kind}
use Rattle.vch_machine.specs.Schedules.{Move, happens, run}

no_moves : (sc : Scenario) (o : Option Machine) → run sc [] o ≡ o
no_moves sc None = refl
no_moves sc (Some m) = refl

pub run_on : (sc : Scenario) (moves : List Move) (o : Option Machine) (m n : Machine) (move : Move) → run sc moves o ≡ Some m → happens sc m move ≡ Some n → run sc (moves ++ move ∷ []) o ≡ Some n
run_on sc moves None m n move e h = absurd (by moves e)
  where
    by : (moves : List Move) → run sc moves None ≡ Some m → ⊥
    by [] e = cc
    by (x ∷ moves) e = cc
run_on sc [] (Some k) m n move e h = no_moves sc (happens sc k move) ∙ subst (λ j. happens sc j move ≡ Some n) (same e) h
  where
    same : Some k ≡ Some m → m ≡ k
    same q = cc
run_on sc (x ∷ moves) (Some k) m n move e h = run_on sc moves (happens sc k x) m n move e h

-- the event of a task with a frame
pub event_is : (sc : Scenario) (want : Bool) (m : Machine) (t : ℕ) (f : machine.Frame) (k : Kind) (n : Option Machine) → is_task sc t ≡ true → (tasked m t).frame ≡ Some f → next_kind sc m t ≡ Some k
    → event_of sc want m t (Some f) (Some k) ≡ n → event sc want m t ≡ n
unfolding event
event_is sc want m t f k n task frame next e = rw (task, next, frame) e
