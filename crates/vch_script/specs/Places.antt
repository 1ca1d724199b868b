-- Where the lines of each task stand in a scenario.
use Rattle.std.specs.Prelude.{◌≡◌, ◌⊎◌, ◌<◌, ◌≤◌, ℕ, ◌+◌, ◌-◌, ◌==◌, if◌then◌else◌, List, [], ◌++◌, length, map, take, slice_get, slice_index_or, Option, Some, None}
use Rattle.std.specs.List.{filter, AllByRecursion}
use Rattle.vch_model.specs.Lines.{lines_from}
use Rattle.vch_model.specs.Scenarios.{line_count}
use Rattle.vch_model.specs.declared.call.Line.{Line}
use Rattle.vch_model.specs.declared.lists.Scenario.{Scenario}
use Rattle.vch_script.specs.declared.places.Spot.{Spot}

-- each line is of one of so many tasks
abbrev pub IsOfTask : ℕ → Line → Type 0
IsOfTask tasks l = (0 < l.task) × (l.task ≤ tasks)

abbrev pub AreOfTasks : ℕ → List (List Line) → Type 0
AreOfTasks tasks phases = AllByRecursion (λ lines. AllByRecursion (IsOfTask tasks) lines) phases

-- a line with the number of its phase
abbrev pub numbered : ℕ → Option Line → Option (ℕ × Line)
numbered phase None = None
numbered phase (Some l) = Some (phase, l)

-- the line that stands there, with its phase, or none
abbrev pub line_at_spot : List (List Line) → Spot → Option (ℕ × Line)
line_at_spot phases s = numbered (s.phase + 1) (slice_get (slice_index_or phases s.phase []) s.line)

-- where the lines of a task stand
abbrev pub spots_of : List (List Spot) → ℕ → List Spot
spots_of places t = if t == 0 then [] else slice_index_or places (t - 1) []

-- each task has the places of its lines among these, in their order
pub record Placed (tasks : ℕ) (phases : List (List Line)) (lines : List (ℕ × Line)) (places : List (List Spot)) : Type 0 where
  pub long : length places ≡ tasks
  pub each : (t : ℕ) → map (line_at_spot phases) (spots_of places t) ≡ map (λ l. Some l) (filter (λ l. l.1.task == t) lines)

-- these are the places of the scenario's lines
abbrev pub ArePlaces : Scenario → List (List Spot) → Type 0
ArePlaces sc places = Placed (length sc.flags) sc.phases (lines_from 1 sc.phases) places

-- what is kept of a scenario: that its version is one of the two, where the lines of each task stand, and how many calls
-- there are
pub record IsIndexOf (sc : Scenario) (places : List (List Spot)) (calls : ℕ) : Type 0 where
  pub version : (sc.version ≡ 1) ⊎ (sc.version ≡ 2)
  pub placed : ArePlaces sc places
  pub counted : calls ≡ line_count sc.phases

-- the first lines of a phase, with its number
abbrev pub first_lines : List (List Line) → ℕ → ℕ → List (ℕ × Line)
first_lines phases phase n = map (λ line. (phase + 1, line)) (take n (slice_index_or phases phase []))

-- so many lines of a phase were added
pub record AddsLines (phases : List (List Line)) (phase n : ℕ) (old new : List (List Spot)) : Type 0 where
  pub long : length new ≡ length old
  pub adds : (lines : List (ℕ × Line)) → Placed (length old) phases lines old → Placed (length old) phases (lines ++ first_lines phases phase n) new
