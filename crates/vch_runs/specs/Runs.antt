-- Whole runs of a core, told by the runs of the event machine.
use Rattle.std.specs.Prelude.{◌≡◌, ◌≤◌, ℕ, Bool, if◌then◌else◌, List, [], ◌∷◌, length, Option, Some, None}
use Rattle.vch_model.specs.declared.lists.Scenario.{Scenario}
use Rattle.vch_machine.specs.State.{Machine}
use Rattle.vch_machine.specs.Events.{event}
use Rattle.vch_machine.specs.Schedules.{Move, run, in_turn, by_seed, has_ended}
use Rattle.vch_parts.specs.declared.parts.Parts.{Parts}
use Rattle.vch_parts.specs.Reached.{Stands}

-- the new parts stand for the state after these moves
abbrev pub RunsTo : Scenario → List Move → Machine → Parts → Type 0
RunsTo sc moves m new = (n : Machine) × (run sc moves (Some m) ≡ Some n) × Stands new n

-- a run to the end, in turn: whatever state the one stands for, the other stands for the end of its run in turn, in which
-- only memory that was wanted is free
pub record EndsInTurn (old new : Parts) : Type 0 where
  pub scenario : new.scenario ≡ old.scenario
  pub ended : length old.scenario.phases ≤ new.phase
  pub bound : ℕ
  pub wants : ℕ → Bool
  pub run : (m : Machine) → Stands old m → RunsTo old.scenario (in_turn bound wants old.scenario (Some m)) m new

-- the same by the schedule of a seed
pub record EndsBySeed (seed : ℕ) (old new : Parts) : Type 0 where
  pub scenario : new.scenario ≡ old.scenario
  pub ended : length old.scenario.phases ≤ new.phase
  pub bound : ℕ
  pub wants : ℕ → Bool
  pub run : (m : Machine) → Stands old m → RunsTo old.scenario (by_seed bound seed wants old.scenario (Some m)) m new

-- the state after an event, or the one before where the event can't happen
abbrev pub or_stays : Machine → Option Machine → Machine
or_stays m None = m
or_stays m (Some n) = n

-- a task does its next event; it is passed over where it has none, and where all phases have ended
abbrev pub stepped : Scenario → Bool → Machine → ℕ → Machine
stepped sc want m t = if has_ended sc m then m else or_stays m (event sc want m t)

-- each task of an order in its turn
abbrev pub driven : Scenario → (ℕ → Bool) → List ℕ → Machine → Machine
driven sc wants [] m = m
driven sc wants (t ∷ order) m = driven sc wants order (stepped sc (wants (length order)) m t)

-- the tasks of an order did one step each
pub record Drives (order : List ℕ) (old new : Parts) : Type 0 where
  pub scenario : new.scenario ≡ old.scenario
  pub wants : ℕ → Bool
  pub stands : (m : Machine) → Stands old m → Stands new (driven old.scenario wants order m)
