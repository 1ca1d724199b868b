-- One step of a task.
use Rattle.std.specs.Prelude.{◌≡◌, ◌<◌, ◌≤◌, ℕ, length, Option, Some, None, IsSome}
use Rattle.vch_base.specs.declared.kind.Kind.{Kind}
use Rattle.vch_parts.specs.declared.parts.Parts.{Parts}
use Rattle.vch_parts.specs.Framed.{frame_of}
use Rattle.vch_parts.specs.Reached.{MayFollow, IsNext}
use Rattle.vch_runs.specs.declared.stepped.Stepped.{Stepped}
use Rattle.vch_runs.specs.declared.stepped.Stepped.TheVariants as stepped

-- the kind of the next event of the task's frame, and none where it has no frame
abbrev pub IsFrameNext : Parts → ℕ → Option Kind → Type 0
IsFrameNext p t None = frame_of p.frames t ≡ None
IsFrameNext p t (Some kind) = IsSome (frame_of p.frames t) × IsNext p t (Some kind)

-- a step does one event of the task; nothing changes where the task has none in this phase, or all phases have ended
abbrev pub Steps : Parts → ℕ → Stepped → Parts → Type 0
Steps old t (stepped.Went did next) new =
    (old.phase < length old.scenario.phases) × IsNext old t (Some did) × MayFollow did t old new × IsFrameNext new t next
Steps old t stepped.PhaseEnd new = (old.phase < length old.scenario.phases) × IsNext old t None × (new ≡ old)
Steps old t stepped.Ended new = (length old.scenario.phases ≤ old.phase) × (new ≡ old)
