-- From what an event does to the parts, to a run with one event more.
use Rattle.std.proofs.Common.{◌≡◌, ℕ, ◌-◌, ◌<◌, Bool, true, [], ◌∷◌, ◌++◌, arith, length, subst, Some}
use Rattle.vch_base.specs.declared.kind.Kind.{Kind}
use Rattle.vch_model.specs.Lines.{is_task}
use Rattle.vch_model.specs.declared.lists.Scenario.{Scenario}
use Rattle.vch_machine.specs.State as machine
use Rattle.vch_machine.specs.State.{Machine, tasked, start}
use Rattle.vch_machine.specs.Next.{next_kind}
use Rattle.vch_machine.specs.Events.{event}
use Rattle.vch_machine.specs.Schedules.{Move}
use Rattle.vch_legal.specs.Tie.{Ties}
use Rattle.vch_legal.proofs.CallerLemmas.{reached_stands}
use Rattle.vch_frame.specs.Pairs.{Optional}
use Rattle.vch_frame.proofs.CallerLemmas.{task_number, run_on}
use Rattle.vch_parts.specs.declared.frame.Frame.{Frame}
use Rattle.vch_parts.specs.Plain.{Plain, part_of}
use Rattle.vch_parts.specs.Shape.{IsFrame}
use Rattle.vch_parts.specs.Stands.{StandsFor}
use Rattle.vch_parts.specs.Reached.{IsState, IsEnd, IsEvent}
use Rattle.vch_parts.proofs.framing.FrameParts.{twin}

-- the parts have every task of the scenario
pub in_parts : (sc : Scenario) (c : Plain) (m : Machine) (t : ℕ) → StandsFor sc c m → Ties sc m → is_task sc t ≡ true → (0 < t) × (t - 1 < length c.tasks)
in_parts sc c m t s ties e = let n = task_number sc t e in (n.0, omega (arith, n.1, s.shape.long, ties.fits.tasks))

-- and the machine's frame beside one of the core
pub twin_of : (sc : Scenario) (c : Plain) (m : Machine) (t : ℕ) (f : Frame) (P : Type 0) → StandsFor sc c m → Ties sc m → is_task sc t ≡ true → (part_of c t).frame ≡ Some f
    → ((g : machine.Frame) → (tasked m t).frame ≡ Some g → IsFrame c.keyed f g → P) → P
twin_of sc c m t f P s ties e own h =
    let n = in_parts sc c m t s ties e in
    twin c.keyed f (tasked m t).frame P (subst (λ o. Optional (IsFrame c.keyed) o (tasked m t).frame) own (s.shape.tasks t n.0 n.1).frame) h

-- what the parts at the end of a run give
pub from_end : (sc : Scenario) (c : Plain) (P : Type 0) → IsEnd sc c → ((m : Machine) → StandsFor sc c m → Ties sc m → P) → P
unfolding IsEnd IsState
from_end sc c P e f = f e.0 e.1.2 (reached_stands sc e.1.0 e.0 e.1.1)

-- what an event of a task does to a state
abbrev pub Happens : Scenario → Bool → Kind → ℕ → Plain → Machine → Type 0
Happens sc want kind t d m = (n : Machine) × (event sc want m t ≡ Some n) × (next_kind sc m t ≡ Some kind) × StandsFor sc d n

-- the run goes on by the event
pub event_of_run : (sc : Scenario) (kind : Kind) (t : ℕ) (c d : Plain) → ((want : Bool) (m : Machine) → StandsFor sc c m → Ties sc m → Happens sc want kind t d m) → IsEvent sc kind t c d
unfolding IsEvent IsState
event_of_run sc kind t c d f want m st =
    let e = f want m st.2 (reached_stands sc st.0 m st.1) in
    (e.0, e.1, e.2, (st.0 ++ Move.Of t want ∷ [], run_on sc st.0 (Some (start sc)) m e.0 (Move.Of t want) st.1 e.1, e.3))
