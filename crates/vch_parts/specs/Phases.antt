-- When a phase is over, and what its end is.
use Rattle.std.specs.Prelude.{◌≡◌, ℕ, ◌+◌, ◌<◌, ◌≤◌, length, Some, None, IsTrue}
use Rattle.vch_model.specs.Lines.{is_task, lines_until}
use Rattle.vch_model.specs.declared.lists.Scenario.{Scenario}
use Rattle.vch_machine.specs.State.{Machine}
use Rattle.vch_machine.specs.Events.{phase_event}
use Rattle.vch_parts.specs.declared.parts.Parts.{Parts}
use Rattle.vch_parts.specs.Framed.{frame_of, begun_of}
use Rattle.vch_parts.specs.Plain.{Plain}
use Rattle.vch_parts.specs.Reached.{plain_of, IsState}

-- a task has nothing left to do in the phase: no call is under way, and each of its calls of the phases so far was begun
pub record IsQuiet (p : Parts) (t : ℕ) : Type 0 where
  pub frame : frame_of p.frames t ≡ None
  pub begun : lines_until p.scenario (p.phase + 1) t ≤ begun_of p.frames t

-- a phase is left, and no task has anything to do in it
pub record IsOver (p : Parts) : Type 0 where
  pub left : p.phase < length p.scenario.phases
  pub quiet : (t : ℕ) → IsTrue (is_task p.scenario t) → IsQuiet p t

-- the end of a phase, over plain data
unfoldable pub IsPhaseEnd : Scenario → Plain → Plain → Type 0
IsPhaseEnd sc old new = (m : Machine) → IsState sc old m → (n : Machine) × (phase_event sc m ≡ Some n) × IsState sc new n

-- whatever state the parts stand for, they stand for the one after the end of its phase afterwards
pub record PhaseFollows (old new : Parts) : Type 0 where
  pub scenario : new.scenario ≡ old.scenario
  pub event : IsPhaseEnd old.scenario (plain_of old) (plain_of new)
