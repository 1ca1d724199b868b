-- How the next move of a schedule is found and made.
use Rattle.std.specs.Prelude.{◌≡◌, ◌<◌, ◌≤◌, ◌+◌, ◌-◌, ℕ, ◌==◌, true, false, Bool, List, [], ◌∷◌, ◌++◌, length, slice_index_or, Option, Some, None, IsSome, is_some}
use Rattle.std.specs.List.{count_by, AllByRecursion}
use Rattle.vch_model.specs.declared.call.Line.{Line}
use Rattle.vch_model.specs.declared.lists.Scenario.{Scenario}
use Rattle.vch_model.specs.Lines.{is_task, lines_until, phases_in}
use Rattle.vch_machine.specs.State.{Machine}
use Rattle.vch_machine.specs.Events.{numbers, ready}
use Rattle.vch_machine.specs.Next.{next_kind}
use Rattle.vch_machine.specs.Schedules.{happens, move_of, lowest_open, first_waiting, turn_task, picked, seed_after}
use Rattle.vch_legal.specs.Facts.{times}
use Rattle.vch_parts.specs.declared.parts.Parts.{Parts}
use Rattle.vch_parts.specs.declared.frames.Working.{Working}
use Rattle.vch_parts.specs.Framed.{begun_of, frame_of}
use Rattle.vch_script.specs.Places.{IsOfTask}
use Rattle.vch_parts.specs.Reached.{Stands}
use Rattle.vch_runs.specs.declared.turn.Cursor.{Cursor}
use Rattle.vch_runs.specs.Called.{HasNext}

abbrev pub all_of : Scenario → List ℕ
all_of sc = numbers (length sc.flags)

-- whose turn it is, or none for the end of the phase, in every state that the parts stand for
unfoldable pub IsTurn : Parts → Option ℕ → Type 0
IsTurn p choice = (m : Machine) → Stands p m → turn_task p.scenario m (lowest_open m (all_of p.scenario)) ≡ choice

-- whether a task has a next event, in every state that the parts stand for
unfoldable pub IsReady : Parts → ℕ → Bool → Type 0
IsReady p t b = (m : Machine) → Stands p m → is_some (next_kind p.scenario m t) ≡ b

-- the tasks that have a next event, in every state that the parts stand for
unfoldable pub AreReady : Parts → List ℕ → Type 0
AreReady p tasks = (m : Machine) → Stands p m → ready p.scenario m (all_of p.scenario) ≡ tasks

-- whom the seed chooses, and the seed after that
unfoldable pub IsDraw : Parts → ℕ → Option ℕ → ℕ → Type 0
IsDraw p seed choice next =
    (m : Machine) → Stands p m → (picked (ready p.scenario m (all_of p.scenario)) next ≡ choice) × (seed_after (ready p.scenario m (all_of p.scenario)) seed ≡ next)

-- no task has a next event, in every state that the parts stand for
unfoldable pub IsResting : Parts → Type 0
IsResting p = (m : Machine) → Stands p m → ready p.scenario m (all_of p.scenario) ≡ []

-- the choice can be carried out
abbrev pub CanGo : Parts → Option ℕ → Type 0
CanGo p None = (p.phase < length p.scenario.phases) × IsResting p
CanGo p (Some t) = (is_task p.scenario t ≡ true) × HasNext p t

-- whether the task of the choice has a next event; not where there is none
abbrev pub StillReady : Parts → Option ℕ → Bool → Type 0
StillReady p None b = b ≡ false
StillReady p (Some t) b = IsReady p t b

-- the move that was chosen was made, with memory out or not
pub record Goes (choice : Option ℕ) (old new : Parts) : Type 0 where
  pub scenario : new.scenario ≡ old.scenario
  pub want : Bool
  pub move : (m : Machine) → Stands old m → (n : Machine) × (happens old.scenario m (move_of (λ _. want) 0 choice) ≡ Some n) × Stands new n

-- the lowest task with a frame, in every state that the parts stand for
unfoldable pub IsLowest : Parts → Option ℕ → Type 0
IsLowest p choice = (m : Machine) → Stands p m → lowest_open m (all_of p.scenario) ≡ choice

-- a task that has a frame, or none
abbrev pub OfFrame : Parts → Option ℕ → Type 0
OfFrame p None = Unit {0}
OfFrame p (Some t) = (is_task p.scenario t ≡ true) × IsSome (frame_of p.frames t)

-- no task below this one has a frame
pub record NoneBelow (frames : List Working) (t : ℕ) : Type 0 where
  pub none : (u : ℕ) → 0 < u → u < t → is_some (frame_of frames u) ≡ false

-- where the look for the lowest task with a frame may start
pub record IsStart (p : Parts) (t : ℕ) : Type 0 where
  pub positive : 1 ≤ t
  pub below : NoneBelow p.frames t

-- no task below the choice has a frame, and no task at all where there is none
abbrev pub NoneBefore : Parts → Option ℕ → Type 0
NoneBefore p None = NoneBelow p.frames (length p.scenario.flags + 1)
NoneBefore p (Some t) = NoneBelow p.frames t

-- where the look may start after a move
abbrev pub start_after : Option ℕ → ℕ
start_after None = 1
start_after (Some t) = t

-- a task of the scenario, or none
abbrev pub IsTaskOrNone : Parts → Option ℕ → Type 0
IsTaskOrNone p None = Unit {0}
IsTaskOrNone p (Some t) = is_task p.scenario t ≡ true

-- the task of the first line of the phase that was not begun
unfoldable pub IsWaiting : Parts → Option ℕ → Type 0
IsWaiting p choice = (m : Machine) → Stands p m → first_waiting p.scenario m [] (slice_index_or p.scenario.phases (phases_in m.past) []) ≡ choice

-- The cursor of a run in turn.

-- each line is of one of 64 tasks
abbrev pub AreOfTasks : List Line → Type 0
AreOfTasks lines = AllByRecursion (IsOfTask 64) lines

-- how many lines are a task's
abbrev pub lines_of_task : ℕ → List Line → ℕ
lines_of_task t lines = times (λ (l : Line). l.task == t) lines

-- the lines of the phase that is under way
abbrev pub current_lines : Parts → List Line
current_lines p = slice_index_or p.scenario.phases p.phase []

-- the tasks of some lines, before others
abbrev pub seen_after : List ℕ → List Line → List ℕ
seen_after seen [] = seen
seen_after seen (l ∷ lines) = seen_after (l.task ∷ seen) lines

-- how many lines of a task are before the phase or among those seen
abbrev pub lines_before : Scenario → ℕ → List ℕ → ℕ → ℕ
lines_before sc phase seen t = count_by (λ u. u == t) seen + lines_until sc phase t

-- each of these lines was begun
abbrev pub AreBegun : Scenario → ℕ → List Working → List ℕ → List Line → Type 0
AreBegun sc phase frames seen [] = Unit {0}
AreBegun sc phase frames seen (l ∷ lines) =
    (lines_before sc phase seen l.task < begun_of frames l.task) × AreBegun sc phase frames (l.task ∷ seen) lines

-- the lines before the cursor were begun, and it has the number of each task's lines before it
pub record CursorAt (sc : Scenario) (phase : ℕ) (frames : List Working) (cursor : Cursor) : Type 0 where
  pub passed_lines : List Line
  pub rest : List Line
  pub lines : slice_index_or sc.phases phase [] ≡ passed_lines ++ rest
  pub line : cursor.line ≡ length passed_lines
  pub begun : AreBegun sc phase frames [] passed_lines
  pub long : length cursor.passed ≡ 64
  pub passed : (t : ℕ) → is_task sc t ≡ true → slice_index_or cursor.passed (t - 1) 0 ≡ lines_before sc phase (seen_after [] passed_lines) t

abbrev pub IsCursor : Parts → Cursor → Type 0
IsCursor p cursor = CursorAt p.scenario p.phase p.frames cursor

-- the cursor of the state in which all lines of the phase were begun
abbrev pub IsPassed : Parts → Option ℕ → Cursor → Type 0
IsPassed p None cursor = cursor.line ≡ length (current_lines p)
IsPassed p (Some t) cursor = Unit {0}

-- the cursor after a move: at the first line again where the phase ends
abbrev pub rewound : Option ℕ → Cursor → Cursor
rewound None cursor = record cursor { line = 0 }
rewound (Some t) cursor = cursor

-- the move in turn was made
pub record Turns (old new : Parts) : Type 0 where
  pub choice : Option ℕ
  pub turn : IsTurn old choice
  pub goes : Goes choice old new

-- a draw of the seed was made, and its move
pub record Draws (seed next : ℕ) (old new : Parts) : Type 0 where
  pub choice : Option ℕ
  pub draw : IsDraw old seed choice next
  pub goes : Goes choice old new
