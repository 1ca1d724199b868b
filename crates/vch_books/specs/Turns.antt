-- The next call of a task.
use Rattle.std.specs.Prelude.{◌≡◌, ℕ, ◌+◌, ◌-◌, ◌<◌, ◌≤◌, List, length, Option}
use Rattle.vch_base.specs.Tasks.{at_task}
use Rattle.vch_model.specs.Legal.{EachTask}
use Rattle.vch_script.specs.Places.{spots_of}
use Rattle.vch_script.specs.declared.places.Spot.{Spot}
use Rattle.vch_books.specs.Desks.{Desk, empty_desk}
use Rattle.vch_model.specs.declared.call.Call.{Call}
use Rattle.vch_model.specs.declared.lists.Scenario.{Scenario}
use Rattle.vch_model.specs.Lines.{line_at, call_of_phase}

-- the call of a task behind so many others, where it lies in the phase behind so many others
unfoldable pub call_in_phase : Scenario → ℕ → ℕ → ℕ → Option Call
call_in_phase sc t begun phases = call_of_phase (phases + 1) (line_at sc t (begun + 1))

-- the task has begun fewer calls than it has lines, and this line is the next; no lower task has
pub record IsShort (places : List (List Spot)) (tasks : List Desk) (task number : ℕ) : Type 0 where
  pub some : 1 ≤ task
  pub inside : task ≤ length tasks
  pub fewer : (at_task tasks task empty_desk).begun < length (spots_of places task)
  pub first : number ≡ (at_task tasks task empty_desk).begun + 1
  pub lower : EachTask (task - 1) (λ t. length (spots_of places t) ≤ (at_task tasks t empty_desk).begun)
