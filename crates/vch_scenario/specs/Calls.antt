-- One line of a scenario: the call, the task or the number that it spells, or why it is none.
use Rattle.std.specs.Prelude.{ℕ, Bool, true, false, ◌&&◌, nat_lt, nat_le, ◌==◌, if◌then◌else◌, List, [], ◌∷◌, Option, Some, None, Result, Ok, Err, codes}
use Rattle.vch_model.specs.declared.call.Call.{Call}
use Rattle.vch_model.specs.declared.call.Call.TheVariants as calls
use Rattle.vch_model.specs.declared.call.Line.{Line}
use Rattle.vch_model.specs.declared.call.Word.{Word}
use Rattle.vch_model.specs.declared.call.Word.TheVariants as words
use Rattle.vch_base.specs.declared.flags.Flags.{Flags}
use Rattle.vch_base.specs.declared.limits.TheConstants.{MOST_TASKS, USUAL_QUEUE, LARGEST_QUEUE}
use Rattle.vch_scenario.specs.declared.task.TaskLine.{TaskLine}
use Rattle.vch_scenario.specs.declared.fault.Why.{Why}
use Rattle.vch_scenario.specs.declared.fault.Why.TheVariants.{Form, Range}
use Rattle.vch_scenario.specs.Reading.{◌>>=◌, formed}
use Rattle.vch_text.specs.Words.{is_word, front_of, word_at, end_of}
use Rattle.vch_text.specs.Numbers.{number_of, number_at, one_of, two_of}
use Rattle.vch_text.specs.Digits.{bytes_of}
use Rattle.vch_model.specs.Grammar.{top}

-- a number that isn't above 4294967295
unfoldable pub fit : ℕ → Result ℕ Why
fit n = if nat_lt n top then Ok n else Err Range

-- the word of a call. An exit is one of version 2 alone
unfoldable pub verb_of : ℕ → List ℕ → Result Word Why
verb_of version w =
    if is_word w (codes "create") then Ok words.Create
    else if is_word w (codes "drop") then Ok words.GiveUp
    else if is_word w (codes "extract") then Ok words.Extract
    else if is_word w (codes "recipes") then Ok words.Recipes
    else if is_word w (codes "send") then Ok words.Send
    else if is_word w (codes "recv") then Ok words.Recv
    else if is_word w (codes "extern") then Ok words.Extern
    else if is_word w (codes "charge") then Ok words.Charge
    else if is_word w (codes "ledger") then Ok words.Ledger
    else if is_word w (codes "assertions") then Ok words.Assertions
    else if is_word w (codes "live") then Ok words.Live
    else if version == 2 && is_word w (codes "exit") then Ok words.Exit
    else Err Form

-- which of two words it is
unfoldable pub either_of : List ℕ → List ℕ → List ℕ → Result Bool Why
either_of yes_text no_text w =
    if is_word w yes_text then Ok true else if is_word w no_text then Ok false else Err Form

unfoldable pub create_of : List ℕ → Result Call Why
create_of rest = do
  w ← formed (word_at rest)
  done ← formed (end_of w.1)
  bytes ← formed (bytes_of w.0)
  Ok (calls.Create bytes)

unfoldable pub give_up_of : List ℕ → Result Call Why
give_up_of rest = do
  a ← formed (one_of top rest)
  name ← fit a
  Ok (calls.GiveUp name)

unfoldable pub extract_of : List ℕ → Result Call Why
extract_of rest = do
  a ← formed (two_of top rest)
  name ← fit a.0
  key ← fit a.1
  Ok (calls.Extract name key)

unfoldable pub recipes_of : List ℕ → Result Call Why
recipes_of rest = do
  a ← formed (one_of top rest)
  name ← fit a
  Ok (calls.Recipes name)

unfoldable pub send_of : List ℕ → Result Call Why
send_of rest = do
  a ← formed (number_at top rest)
  w ← formed (word_at a.1)
  moving ← either_of (codes "move") (codes "copy") w.0
  b ← formed (two_of top w.1)
  to ← fit a.0
  name ← fit b.0
  id ← fit b.1
  Ok (calls.Send to moving name id)

unfoldable pub extern_of : List ℕ → Result Call Why
extern_of rest = do
  a ← formed (number_at top rest)
  w ← formed (word_at a.1)
  adding ← either_of (codes "add") (codes "drop") w.0
  b ← formed (one_of top w.1)
  name ← fit a.0
  n ← fit b
  Ok (calls.Extern name adding n)

unfoldable pub charge_of : List ℕ → Result Call Why
charge_of rest = do
  a ← formed (two_of top rest)
  name ← fit a.0
  n ← fit a.1
  Ok (calls.Charge name n)

-- a call without anything behind its word
unfoldable pub bare_of : Call → List ℕ → Result Call Why
bare_of call rest = do
  done ← formed (end_of rest)
  Ok call

abbrev pub call_by : Word → List ℕ → Result Call Why
call_by words.Create rest = create_of rest
call_by words.GiveUp rest = give_up_of rest
call_by words.Extract rest = extract_of rest
call_by words.Recipes rest = recipes_of rest
call_by words.Send rest = send_of rest
call_by words.Recv rest = bare_of calls.Recv rest
call_by words.Extern rest = extern_of rest
call_by words.Charge rest = charge_of rest
call_by words.Ledger rest = bare_of calls.Ledger rest
call_by words.Assertions rest = bare_of calls.Assertions rest
call_by words.Live rest = bare_of calls.Live rest
call_by words.Exit rest = bare_of calls.Exit rest

-- what stands behind the task in a line
unfoldable pub call_of : ℕ → List ℕ → Result Call Why
call_of version rest = do
  w ← formed (word_at rest)
  verb ← verb_of version w.0
  call_by verb w.1

-- a number from 1 to the most
unfoldable pub up_to : ℕ → ℕ → Result ℕ Why
up_to most n = if nat_lt 0 n && nat_le n most then Ok n else Err Range

-- a call line of the version, where there are so many tasks
unfoldable pub line_of : ℕ → ℕ → List ℕ → Result Line Why
line_of version tasks line = do
  t ← formed (number_of top (front_of 32 line).0)
  call ← call_of version (front_of 32 line).1
  task ← up_to tasks t
  Ok (record { task = task; call = call })

-- whether the next word is this text, and what is left: where it isn't, all
abbrev pub flag_by : List ℕ → List ℕ → Option (List ℕ × List ℕ) → Bool × List ℕ
flag_by text rest None = (false, rest)
flag_by text rest (Some w) = if is_word w.0 text then (true, w.1) else (false, rest)

unfoldable pub flag_at : List ℕ → List ℕ → Bool × List ℕ
flag_at text rest = flag_by text rest (word_at rest)

-- the word that a line begins with
unfoldable pub word_is : List ℕ → List ℕ → Result (Unit {0}) Why
word_is text w = if is_word w text then Ok tt else Err Form

-- the limit that a line writes of a queue
unfoldable pub written_queue : List ℕ → Result ℕ Why
written_queue rest = do
  w ← formed (word_at rest)
  done ← word_is (codes "queue") w.0
  n ← formed (one_of top w.1)
  Ok n

-- the same, or none where nothing is left. A text of version 1 writes none
abbrev pub queue_of : ℕ → List ℕ → Result (Option ℕ) Why
queue_of version [] = Ok None
queue_of version (c ∷ cs) = if version == 2 then (written_queue (c ∷ cs) >>= λ n. Ok (Some n)) else Err Form

-- what stands behind the number of a task
unfoldable pub tail_of : ℕ → List ℕ → Result (Flags × Option ℕ) Why
tail_of version rest = do
  queue ← queue_of version (flag_at (codes "receiver") (flag_at (codes "donor") rest).1).1
  Ok (record { donor = (flag_at (codes "donor") rest).0; receiver = (flag_at (codes "receiver") (flag_at (codes "donor") rest).1).0 }, queue)

-- the limit of a queue, and the usual one where none is written
unfoldable pub limit_of : Option ℕ → Result ℕ Why
limit_of None = Ok USUAL_QUEUE
limit_of (Some n) = up_to LARGEST_QUEUE n

-- that the number is this one
unfoldable pub number_is : ℕ → ℕ → Result (Unit {0}) Why
number_is wanted n = if n == wanted then Ok tt else Err Range

-- the line of the task with this number
unfoldable pub task_of : ℕ → ℕ → List ℕ → Result TaskLine Why
task_of version number line = do
  done ← word_is (codes "task") (front_of 32 line).0
  t ← formed (number_at top (front_of 32 line).1)
  tail ← tail_of version t.1
  same ← number_is number t.0
  limit ← limit_of tail.1
  Ok (record { flags = tail.0; queue = limit })

-- the number of tasks
unfoldable pub tasks_of : List ℕ → Result ℕ Why
tasks_of line = do
  done ← word_is (codes "tasks") (front_of 32 line).0
  n ← formed (one_of top (front_of 32 line).1)
  up_to MOST_TASKS n

-- the version of the text
unfoldable pub version_of : List ℕ → Result ℕ Why
version_of line =
    if is_word line (codes "vouch 1") then Ok 1
    else if is_word line (codes "vouch 2") then Ok 2
    else Err Form
