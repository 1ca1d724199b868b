-- What the parts are at every moment: the end of a run of the event machine over their own scenario.
use Rattle.std.specs.Prelude.{◌≡◌, ℕ, ◌==◌, Bool, if◌then◌else◌, List, [], ◌∷◌, length, Option, Some}
use Rattle.vch_base.specs.declared.kind.Kind.{Kind}
use Rattle.vch_bounds.specs.Bounded.{Limited}
use Rattle.vch_model.specs.declared.lists.Scenario.{Scenario}
use Rattle.vch_machine.specs.State.{Machine}
use Rattle.vch_machine.specs.Events.{event}
use Rattle.vch_machine.specs.Next.{next_kind}
use Rattle.vch_machine.specs.Schedules.{Move, run_from_start}
use Rattle.vch_parts.specs.declared.frames.Working.{Working}
use Rattle.vch_parts.specs.declared.parts.Parts.{Parts}
use Rattle.vch_vouchers.specs.Desks.{Desk}
use Rattle.vch_parts.specs.Plain.{Plain, Part}
use Rattle.vch_parts.specs.Stands.{StandsFor}

-- some run of the machine ends in the state, and the parts stand for it. What every state of every run keeps is not said again:
-- above all, that a frame with a receipt has no claim, and what bounds the counts
unfoldable pub IsState : Scenario → Plain → Machine → Type 0
IsState sc c m = (moves : List Move) × (run_from_start sc moves ≡ Some m) × StandsFor sc c m

-- the parts stand for the end of some run
unfoldable pub IsEnd : Scenario → Plain → Type 0
IsEnd sc c = (m : Machine) × IsState sc c m

-- one event of a task, of this kind, with memory out or not: whatever state the parts stand for, they stand for the one after
-- its event afterwards
unfoldable pub IsEventBy : Scenario → Bool → Kind → ℕ → Plain → Plain → Type 0
IsEventBy sc want kind t old new =
    (m : Machine) → IsState sc old m → (n : Machine) × (event sc want m t ≡ Some n) × (next_kind sc m t ≡ Some kind) × IsState sc new n

-- the same where memory makes no difference
unfoldable pub IsEvent : Scenario → Kind → ℕ → Plain → Plain → Type 0
IsEvent sc kind t old new =
    (want : Bool) (m : Machine) → IsState sc old m → (n : Machine) × (event sc want m t ≡ Some n) × (next_kind sc m t ≡ Some kind) × IsState sc new n

-- The parts as plain data.

-- a task: its names and its queue, and what it works at
abbrev pub part_in : Desk → Working → Part
part_in d x = record { names = d.names; next = d.next; queue = d.queue; limit = d.limit; begun = x.begun; frame = x.frame }

-- tasks with both, side by side
abbrev pub beside : List Desk → List Working → List Part
beside (d ∷ desks) (x ∷ frames) = part_in d x ∷ beside desks frames
beside desks frames = []

-- all tasks, each of which has both; where there are not as many of both, no task is there
abbrev pub parts_in : List Desk → List Working → List Part
parts_in desks frames = if length desks == length frames then beside desks frames else []

abbrev pub plain_of : Parts → Plain
plain_of p = record {
  keyed = p.values;
  tasks = parts_in p.vouchers p.frames;
  history = p.history.entries;
  spare = p.history.spare;
  phase = p.phase;
  tally = p.tally;
}

abbrev pub Stands : Parts → Machine → Type 0
Stands p m = IsState p.scenario (plain_of p) m

-- the parts are the end of a run of their own scenario
pub record Reached (p : Parts) : Type 0 where
  pub limited : Limited p.scenario
  pub end : IsEnd p.scenario (plain_of p)

-- one event of a task: whatever state the parts stand for, they stand for the one after its event afterwards, and that is of
-- this kind
pub record Follows (kind : Kind) (t : ℕ) (old new : Parts) : Type 0 where
  pub scenario : new.scenario ≡ old.scenario
  pub event : IsEvent old.scenario kind t (plain_of old) (plain_of new)

-- the same with memory out or not, for an event that may ask for memory
pub record MayFollow (kind : Kind) (t : ℕ) (old new : Parts) : Type 0 where
  pub scenario : new.scenario ≡ old.scenario
  pub want : Bool
  pub event : IsEventBy old.scenario want kind t (plain_of old) (plain_of new)

-- the kind of a task's next event, or none, in every state that the parts stand for
unfoldable pub IsNext : Parts → ℕ → Option Kind → Type 0
IsNext p t kind = (m : Machine) → Stands p m → next_kind p.scenario m t ≡ kind
