-- How the next move of a schedule is found and made.
use Rattle.std.specs.Prelude.{◌≡◌, ◌<◌, ◌+◌, ◌-◌, ℕ, ◌==◌, true, List, [], ◌∷◌, ◌++◌, length, slice_index_or, Option, Some, None}
use Rattle.std.specs.List.{count_by}
use Rattle.vch_model.specs.declared.call.Line.{Line}
use Rattle.vch_model.specs.declared.lists.Scenario.{Scenario}
use Rattle.vch_model.specs.Lines.{is_task, lines_until, phases_in}
use Rattle.vch_model.specs.Scenarios.{IsLimited}
use Rattle.vch_machine.specs.State.{Machine, start, tasked}
use Rattle.vch_machine.specs.Events.{numbers, ready}
use Rattle.vch_machine.specs.PlainRuns.{never}
use Rattle.vch_machine.specs.Schedules.{Move, run, run_from_start, in_turn, by_seed, move_of, lowest_open, first_waiting, turn_task, picked, seed_after}
use Rattle.vch_legal.specs.Facts.{times}
use Rattle.vch_sums.specs.Summed.{IsSummed}
use Rattle.vch_plain.specs.declared.run.Run.{Run}
use Rattle.vch_plain.specs.declared.turn.Cursor.{Cursor}

abbrev pub all_of : Scenario → List ℕ
all_of sc = numbers (length sc.flags)

-- a run of a scenario within the limits led to the state, the sums are those of its history, and so many phases have ended
pub record IsGoing (sc : Scenario) (r : Run) : Type 0 where
  pub limited : IsLimited sc
  pub moves : List Move
  pub reached : run_from_start sc moves ≡ Some r.machine
  pub phase : r.phases ≡ phases_in r.machine.past
  pub summed : IsSummed sc r.machine.past r.sums

-- the move of a choice: an event of a task with memory, or the end of the phase
abbrev pub chosen_move : Option ℕ → Move
chosen_move choice = move_of never 0 choice

-- whose turn it is, or none for the end of the phase
abbrev pub turn_of : Scenario → Machine → Option ℕ
turn_of sc m = turn_task sc m (lowest_open m (all_of sc))

-- the moves in turn from the start lead to the state, so many of them
unfoldable pub LeadsInTurn : Scenario → Machine → ℕ → Type 0
LeadsInTurn sc m count =
    (rest : ℕ) → run sc (in_turn (count + rest) never sc (Some (start sc))) (Some (start sc)) ≡ run sc (in_turn rest never sc (Some m)) (Some m)

-- the same by seed, which has come to another one
unfoldable pub LeadsBySeed : ℕ → ℕ → Scenario → Machine → ℕ → Type 0
LeadsBySeed first seed sc m count =
    (rest : ℕ) → run sc (by_seed (count + rest) first never sc (Some (start sc))) (Some (start sc)) ≡ run sc (by_seed rest seed never sc (Some m)) (Some m)

-- The cursor of a run in turn.

-- the tasks of some lines, before others
abbrev pub seen_after : List ℕ → List Line → List ℕ
seen_after seen [] = seen
seen_after seen (l ∷ lines) = seen_after (l.task ∷ seen) lines

-- how many lines of a task are before the phase or among those seen
abbrev pub lines_before : Scenario → ℕ → List ℕ → ℕ → ℕ
lines_before sc phase seen t = count_by (λ u. u == t) seen + lines_until sc phase t

-- how many lines are a task's
abbrev pub lines_of_task : ℕ → List Line → ℕ
lines_of_task t lines = times (λ (l : Line). l.task == t) lines

-- each of these lines was begun
abbrev pub AreBegun : Scenario → ℕ → Machine → List ℕ → List Line → Type 0
AreBegun sc phase m seen [] = Unit {0}
AreBegun sc phase m seen (l ∷ lines) = (lines_before sc phase seen l.task < (tasked m l.task).begun) × AreBegun sc phase m (l.task ∷ seen) lines

-- the lines before the cursor were begun, and it has the number of each task's lines before it
pub record CursorAt (sc : Scenario) (phase : ℕ) (m : Machine) (cursor : Cursor) : Type 0 where
  pub passed_lines : List Line
  pub rest : List Line
  pub lines : slice_index_or sc.phases phase [] ≡ passed_lines ++ rest
  pub line : cursor.line ≡ length passed_lines
  pub begun : AreBegun sc phase m [] passed_lines
  pub long : length cursor.passed ≡ 64
  pub passed : (t : ℕ) → is_task sc t ≡ true → slice_index_or cursor.passed (t - 1) 0 ≡ lines_before sc phase (seen_after [] passed_lines) t

abbrev pub IsCursor : Scenario → Machine → Cursor → Type 0
IsCursor sc m cursor = CursorAt sc (phases_in m.past) m cursor

-- the lines of the phase that is under way
abbrev pub current_lines : Scenario → Machine → List Line
current_lines sc m = slice_index_or sc.phases (phases_in m.past) []

-- the task of the first line of the phase that was not begun
abbrev pub waiting_of : Scenario → Machine → Option ℕ
waiting_of sc m = first_waiting sc m [] (current_lines sc m)

-- where no line of the phase waits, the cursor has passed all
abbrev pub IsPassed : Scenario → Machine → Option ℕ → Cursor → Type 0
IsPassed sc m None cursor = cursor.line ≡ length (current_lines sc m)
IsPassed sc m (Some t) cursor = Unit {0}

-- the cursor after a move: at the first line again where the phase ends
abbrev pub rewound : Option ℕ → Cursor → Cursor
rewound None cursor = record cursor { line = 0 }
rewound (Some t) cursor = cursor

-- the tasks that have a next event
abbrev pub ready_of : Scenario → Machine → List ℕ
ready_of sc m = ready sc m (all_of sc)

-- whom the seed chooses, and the seed after that
pub record IsDraw (sc : Scenario) (m : Machine) (seed : ℕ) (choice : Option ℕ) (next : ℕ) : Type 0 where
  pub picks : picked (ready_of sc m) next ≡ choice
  pub after : seed_after (ready_of sc m) seed ≡ next
