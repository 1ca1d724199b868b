-- The lines of a text, and what is read of them.
use Rattle.std.specs.Prelude.{ℕ, ◌+◌, ◌<◌, ◌≤◌, Bool, true, false, nat_lt, ◌&&◌, ◌≡◌, ◌==◌, if◌then◌else◌, List, [], ◌∷◌, ◌++◌, length, Result, Ok, Err, codes}
use Rattle.vch_model.specs.declared.lists.Scenario.{Scenario}
use Rattle.vch_model.specs.Rows.{with_line}
use Rattle.vch_model.specs.TextLines.{is_passed, split_of}
use Rattle.vch_scenario.specs.declared.fault.Why.{Why}
use Rattle.vch_scenario.specs.declared.fault.Why.TheVariants.{Limit, Ending}
use Rattle.vch_scenario.specs.declared.fault.ScenarioFault.{ScenarioFault}
use Rattle.vch_scenario.specs.declared.fault.ScenarioFault.TheVariants as faults
use Rattle.vch_scenario.specs.declared.fault.Stop.{Stop}
use Rattle.vch_scenario.specs.declared.fault.Stop.TheVariants as stops
use Rattle.vch_scenario.specs.declared.draft.Draft.{Draft}
use Rattle.vch_scenario.specs.declared.draft.Place.{Place}
use Rattle.vch_scenario.specs.declared.draft.Place.TheVariants as places
use Rattle.vch_scenario.specs.Reading.{◌>>=◌}
use Rattle.vch_text.specs.Words.{is_word}
use Rattle.vch_base.specs.declared.limits.TheConstants.{MOST_TASKS, MOST_PHASES, MOST_CALLS}
use Rattle.vch_scenario.specs.Calls.{word_is, version_of, tasks_of, task_of, line_of}

-- the line of a fault, and why
pub record At : Type 0 where
  pub line : ℕ
  pub why : Why

abbrev pub is_empty : List ℕ → Bool
is_empty [] = true
is_empty (c ∷ cs) = false

unfoldable pub title_of : Draft → List ℕ → Result Draft Why
title_of d line = do
  version ← version_of line
  Ok (record d { place = places.Tasks; version = version })

unfoldable pub count_of : Draft → List ℕ → Result Draft Why
count_of d line = do
  n ← tasks_of line
  Ok (record d { place = places.Task; tasks = n })

unfoldable pub task_in : Draft → List ℕ → Result Draft Why
task_in d line = do
  t ← task_of d.version (length d.flags + 1) line
  Ok (record d { place = if length d.flags + 1 == d.tasks then places.Phase else places.Task; flags = d.flags ++ t.flags ∷ []; queues = d.queues ++ t.queue ∷ [] })

unfoldable pub phase_in : Draft → Result Draft Why
phase_in d = if nat_lt (length d.phases) MOST_PHASES then Ok (record d { place = places.Call; phases = d.phases ++ [] ∷ [] }) else Err Limit

unfoldable pub first_in : Draft → List ℕ → Result Draft Why
first_in d line = do
  done ← word_is (codes "phase") line
  phase_in d

unfoldable pub call_in : Draft → List ℕ → Result Draft Why
call_in d line = do
  l ← line_of d.version d.tasks line
  if nat_lt d.calls MOST_CALLS then Ok (record d { phases = with_line d.phases l; calls = d.calls + 1 }) else Err Limit

unfoldable pub next_in : Draft → List ℕ → Result Draft Why
next_in d line =
    if is_word line (codes "phase") then phase_in d
    else if is_word line (codes "end") then Ok (record d { place = places.End })
    else call_in d line

abbrev pub step_at : Place → Draft → List ℕ → Result Draft Why
step_at places.Title d line = title_of d line
step_at places.Tasks d line = count_of d line
step_at places.Task d line = task_in d line
step_at places.Phase d line = first_in d line
step_at places.Call d line = next_in d line
step_at places.End d line = Err Ending

abbrev pub is_end : Place → Bool
is_end places.End = true
is_end p = false

-- what the next line makes of what was read
unfoldable pub step_of : Draft → List ℕ → Result Draft Why
step_of d line = if is_end d.place then Err Ending else if is_passed line then Ok d else step_at d.place d line

-- the scenario that was read
abbrev pub scenario_of : Draft → Scenario
scenario_of d = record { version = d.version; flags = d.flags; queues = d.queues; phases = d.phases }

unfoldable pub finish : ℕ → Draft → List ℕ → Result Scenario At
finish n d rest =
    if is_end d.place && is_empty rest then Ok (scenario_of d) else Err (record { line = n; why = Ending })

abbrev pub at_line : ℕ → Why → At
at_line n why = record { line = n; why = why }

-- what the lines behind a draft give, the first of them with this number
unfoldable pub read_lines : ℕ → Draft → List (List ℕ) → List ℕ → Result Scenario At
read_lines n d [] rest = finish n d rest
read_lines n d (l ∷ lines) rest = elim (step_of d l) [ Ok e ↦ read_lines (n + 1) e lines rest | Err why ↦ Err (at_line n why) ]

abbrev pub nothing : Draft
nothing = record { place = places.Title; version = 0; tasks = 0; flags = []; queues = []; phases = []; calls = 0 }

abbrev pub read_text : ℕ → Draft → List (List ℕ) × List ℕ → Result Scenario At
read_text n d parts = read_lines n d parts.0 parts.1

-- what is read of a text
unfoldable pub read_of : List ℕ → Result Scenario At
read_of text = read_text 1 nothing (split_of text)

-- what the reader returned
abbrev pub Stopped : ScenarioFault → Result Scenario At → Type 0
Stopped (faults.NoMemory cause) read = Unit {0}
Stopped (faults.At line why) read = read ≡ Err (at_line line why)

abbrev pub fault_at : ℕ → Stop → ScenarioFault
fault_at n (stops.Memory cause) = faults.NoMemory cause
fault_at n (stops.Fault why) = faults.At n why

abbrev pub Reads : Result Scenario ScenarioFault → Result Scenario At → Type 0
Reads (Ok sc) read = read ≡ Ok sc
Reads (Err e) read = Stopped e read

-- what a draft keeps at each place
abbrev pub FitsAt : Place → Draft → Type 0
FitsAt places.Title d = length d.flags ≡ 0
FitsAt places.Tasks d = length d.flags ≡ 0
FitsAt places.Task d = (length d.flags < d.tasks) × (d.tasks ≤ MOST_TASKS)
FitsAt places.Phase d = d.tasks ≤ MOST_TASKS
FitsAt places.Call d = (1 ≤ length d.phases) × (d.tasks ≤ MOST_TASKS)
FitsAt p d = Unit {0}

abbrev pub IsFitting : Draft → Type 0
IsFitting d = FitsAt d.place d
