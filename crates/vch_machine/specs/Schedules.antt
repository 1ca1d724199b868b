-- Runs of the machine, and the schedules in turn and by seed.
use Rattle.std.specs.Prelude.{ℕ, zero, suc, ◌+◌, ◌*◌, ◌%◌, ◌/◌, ◌^◌, Bool, ◌==◌, nat_lt, not, if◌then◌else◌, List, [], ◌∷◌, length, reverse, slice_index_or, Option, Some, None, is_some}
use Rattle.std.specs.List.{count_by}
use Rattle.vch_model.specs.declared.call.Line.{Line}
use Rattle.vch_model.specs.declared.entry.Entry.{Entry}
use Rattle.vch_model.specs.declared.lists.Scenario.{Scenario}
use Rattle.vch_model.specs.Lines.{phases_in, lines_until}
use Rattle.vch_machine.specs.State.{Machine, tasked, start}
use Rattle.vch_machine.specs.Events.{event, phase_event, numbers, ready}

-- what happens next: an event of a task, with or without memory, or the end of a phase
pub data Move : Type 0 where
  Of : ℕ → Bool → Move
  EndPhase : Move

abbrev pub happens : Scenario → Machine → Move → Option Machine
happens sc m (Move.Of t want) = event sc want m t
happens sc m Move.EndPhase = phase_event sc m

-- a run: nothing where a move cannot happen
abbrev pub run : Scenario → List Move → Option Machine → Option Machine
run sc moves None = None
run sc [] (Some m) = Some m
run sc (move ∷ moves) (Some m) = run sc moves (happens sc m move)

abbrev pub run_from_start : Scenario → List Move → Option Machine
run_from_start sc moves = run sc moves (Some (start sc))

-- in turn: the lowest task with a frame, else the task of the first line that was not begun
abbrev pub lowest_open : Machine → List ℕ → Option ℕ
lowest_open m [] = None
lowest_open m (t ∷ ts) = if is_some (tasked m t).frame then Some t else lowest_open m ts

abbrev pub first_waiting : Scenario → Machine → List ℕ → List Line → Option ℕ
first_waiting sc m seen [] = None
first_waiting sc m seen (line ∷ lines) =
    if nat_lt (count_by (λ t. t == line.task) seen + lines_until sc (phases_in m.past) line.task)
    (tasked m line.task).begun
    then first_waiting sc m (line.task ∷ seen) lines else Some line.task

abbrev pub turn_task : Scenario → Machine → Option ℕ → Option ℕ
turn_task sc m (Some t) = Some t
turn_task sc m None = first_waiting sc m [] (slice_index_or sc.phases (phases_in m.past) [])

abbrev pub move_of : (ℕ → Bool) → ℕ → Option ℕ → Move
move_of wants n None = Move.EndPhase
move_of wants n (Some t) = Move.Of t (wants n)

abbrev pub has_ended : Scenario → Machine → Bool
has_ended sc m = not (nat_lt (phases_in m.past) (length sc.phases))

-- the moves in turn from a state on; the bound is above their number, and `wants` tells where memory runs out, by the number
-- of moves left
unfoldable pub in_turn : ℕ → (ℕ → Bool) → Scenario → Option Machine → List Move
in_turn zero wants sc m = []
in_turn (suc n) wants sc None = []
in_turn (suc n) wants sc (Some m) =
    if has_ended sc m then [] else (
    let move = move_of wants n (turn_task sc m (lowest_open m (numbers (length sc.flags)))) in
    move ∷ in_turn n wants sc (happens sc m move))

abbrev pub next_seed : ℕ → ℕ
next_seed s = (s * 6364136223846793005 + 1442695040888963407) % 2 ^ 64

abbrev pub drawn : ℕ → ℕ
drawn s = s / 2 ^ 33

abbrev pub picked : List ℕ → ℕ → Option ℕ
picked [] s = None
picked (t ∷ ts) s = Some (slice_index_or (t ∷ ts) (drawn s % length (t ∷ ts)) 0)

abbrev pub seed_after : List ℕ → ℕ → ℕ
seed_after [] s = s
seed_after (t ∷ ts) s = next_seed s

-- the moves by seed from a state on
unfoldable pub by_seed : ℕ → ℕ → (ℕ → Bool) → Scenario → Option Machine → List Move
by_seed zero s wants sc m = []
by_seed (suc n) s wants sc None = []
by_seed (suc n) s wants sc (Some m) =
    if has_ended sc m then [] else (
    let tasks = ready sc m (numbers (length sc.flags)) in
    let next = seed_after tasks s in
    let move = move_of wants n (picked tasks next) in
    move ∷ by_seed n next wants sc (happens sc m move))

abbrev pub past_of : Option Machine → List Entry
past_of None = []
past_of (Some m) = m.past

-- the history of some moves, the oldest entry first
abbrev pub history_of : Scenario → List Move → List Entry
history_of sc moves = reverse (past_of (run_from_start sc moves))
