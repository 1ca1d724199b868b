-- Which lines may follow what was read, and the first that may not.
use Rattle.std.specs.Prelude.{◌≡◌, ◌≢◌, ◌⊎◌, ℕ, ◌+◌, ◌<◌, ◌≤◌, ◌==◌, if◌then◌else◌, true, false, List, [], ◌∷◌, ◌++◌, length, Option, Some, None, Result, Err}
use Rattle.vch_model.specs.declared.lists.Scenario.{Scenario}
use Rattle.vch_model.specs.Rows.{with_line}
use Rattle.vch_scenario.specs.declared.fault.Why.{Why}
use Rattle.vch_scenario.specs.declared.fault.Why.TheVariants as whys
use Rattle.vch_scenario.specs.declared.fault.ScenarioFault.{ScenarioFault}
use Rattle.vch_scenario.specs.declared.fault.ScenarioFault.TheVariants as faults
use Rattle.vch_scenario.specs.declared.draft.Draft.{Draft}
use Rattle.vch_scenario.specs.declared.draft.Place.{Place}
use Rattle.vch_scenario.specs.declared.draft.Place.TheVariants as places
use Rattle.vch_base.specs.declared.limits.TheConstants.{USUAL_QUEUE, LARGEST_QUEUE, MOST_TASKS, MOST_PHASES, MOST_CALLS}
use Rattle.vch_model.specs.Scenarios.{IsCallOf}
use Rattle.vch_model.specs.Grammar.{Item, Title, Tasks, Task, Phase, Calls, End, IsLine, IsSmall}
use Rattle.vch_scenario.specs.Whole.{nothing, scenario_of}
use Rattle.vch_model.specs.TextLines.{is_passed, split_of}

-- the item has a form that may stand at the place, in a text of the version
abbrev pub MayStand : ℕ → Place → Item → Type 0
MayStand version places.Title (Title v) = (v ≡ 1) ⊎ (v ≡ 2)
MayStand version places.Tasks (Tasks n) = Unit {0}
MayStand version places.Task (Task t f None) = Unit {0}
MayStand version places.Task (Task t f (Some q)) = version ≡ 2
MayStand version places.Phase Phase = Unit {0}
MayStand version places.Call Phase = Unit {0}
MayStand version places.Call (Calls l) = IsCallOf version l.call
MayStand version places.Call End = Unit {0}
MayStand version p i = ⊥

-- the limit that a task line writes is one that a queue may have
abbrev pub IsQueueRanged : Option ℕ → Type 0
IsQueueRanged None = Unit {0}
IsQueueRanged (Some q) = (0 < q) × (q ≤ LARGEST_QUEUE)

-- its numbers are in their ranges
abbrev pub IsRanged : Draft → Item → Type 0
IsRanged d (Tasks n) = (0 < n) × (n ≤ MOST_TASKS)
IsRanged d (Task t f queue) = (t ≡ length d.flags + 1) × IsQueueRanged queue
IsRanged d (Calls l) = (0 < l.task) × (l.task ≤ d.tasks) × IsSmall l.call
IsRanged d i = Unit {0}

-- it is within the limits
abbrev pub IsWithin : Draft → Item → Type 0
IsWithin d Phase = length d.phases < MOST_PHASES
IsWithin d (Calls l) = d.calls < MOST_CALLS
IsWithin d i = Unit {0}

-- the limit that a task line gives: the usual one where it writes none
abbrev pub limit_by : Option ℕ → ℕ
limit_by None = USUAL_QUEUE
limit_by (Some q) = q

-- what was read, with the item
abbrev pub with_item : Draft → Item → Draft
with_item d (Title v) = record d { place = places.Tasks; version = v }
with_item d (Tasks n) = record d { place = places.Task; tasks = n }
with_item d (Task t f queue) = record d { place = if t == d.tasks then places.Phase else places.Task; flags = d.flags ++ f ∷ []; queues = d.queues ++ limit_by queue ∷ [] }
with_item d Phase = record d { place = places.Call; phases = d.phases ++ [] ∷ [] }
with_item d (Calls l) = record d { phases = with_line d.phases l; calls = d.calls + 1 }
with_item d End = record d { place = places.End }

-- the line takes what was read to more
abbrev pub Goes : Draft → List ℕ → Draft → Type 0
Goes d line e = ((is_passed line ≡ true) × (e ≡ d))
    ⊎ ((i : Item) × IsLine line i × MayStand d.version d.place i × IsRanged d i × IsWithin d i × (e ≡ with_item d i))

-- the line can't stand behind what was read
abbrev pub IsWrong : Draft → List ℕ → Why → Type 0
IsWrong d line whys.Form = (is_passed line ≡ false) × ((i : Item) → IsLine line i → MayStand d.version d.place i → ⊥)
IsWrong d line whys.Range = (i : Item) × IsLine line i × MayStand d.version d.place i × (IsRanged d i → ⊥)
IsWrong d line whys.Limit = (i : Item) × IsLine line i × MayStand d.version d.place i × IsRanged d i × (IsWithin d i → ⊥)
IsWrong d line whys.Ending = ⊥

abbrev pub IsOpen : Draft → Type 0
IsOpen d = d.place ≢ places.End

-- the first fault of the lines behind a draft, the first of them with number n, and of what stands behind the last line feed
abbrev pub FirstFault : ℕ → Draft → List (List ℕ) → List ℕ → ℕ → Why → Type 0
FirstFault n d [] rest at why = (at ≡ n) × (why ≡ whys.Ending) × ((d.place ≡ places.End) × (rest ≡ []) → ⊥)
FirstFault n d (l ∷ lines) rest at why =
    ((d.place ≡ places.End) × (at ≡ n) × (why ≡ whys.Ending))
    ⊎ (IsOpen d × IsWrong d l why × (at ≡ n))
    ⊎ (IsOpen d × (e : Draft) × Goes d l e × FirstFault (n + 1) e lines rest at why)

-- the lines take what was read to more
abbrev pub Lead : Draft → List (List ℕ) → Draft → Type 0
Lead d [] e = e ≡ d
Lead d (l ∷ lines) e = IsOpen d × (x : Draft) × Goes d l x × Lead x lines e

-- the text has this first fault
abbrev pub IsFault : List ℕ → ℕ → Why → Type 0
IsFault text at why = FirstFault 1 nothing (split_of text).0 (split_of text).1 at why

-- the lines of the text lead to the scenario
abbrev pub IsRead : List ℕ → Scenario → Type 0
IsRead text sc = ((split_of text).1 ≡ []) × (e : Draft) × Lead nothing (split_of text).0 e × (e.place ≡ places.End) × (sc ≡ scenario_of e)

abbrev pub IsOutOfMemory : Result Scenario ScenarioFault → Type 0
IsOutOfMemory (Err (faults.NoMemory cause)) = Unit {0}
IsOutOfMemory result = ⊥

-- it is this answer, or memory ran out
abbrev pub IsUnlessMemory : Result Scenario ScenarioFault → Result Scenario ScenarioFault → Type 0
IsUnlessMemory result answer = (result ≡ answer) ⊎ IsOutOfMemory result
