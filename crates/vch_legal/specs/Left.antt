-- What is left to do in a run at most. Each move lowers it, so a run ends.
use Rattle.std.specs.Prelude.{ℕ, ◌+◌, ◌-◌, ◌*◌, Bool, true, false, nat_lt, if◌then◌else◌, List, [], ◌∷◌, length, drop, Option, Some, None, is_some}
use Rattle.vch_base.specs.declared.key.Key.{Key}
use Rattle.vch_base.specs.declared.limits.TheConstants.{ARRAY_BYTES}
use Rattle.vch_base.specs.Keys.{every_key, managed}
use Rattle.vch_model.specs.declared.call.Call.{Call}
use Rattle.vch_model.specs.declared.call.Call.TheVariants as calls
use Rattle.vch_model.specs.declared.call.Line.{Line}
use Rattle.vch_model.specs.declared.lists.Scenario.{Scenario}
use Rattle.vch_model.specs.Lines.{phases_in, lines_of}
use Rattle.vch_machine.specs.Next.{nth_call}
use Rattle.vch_machine.specs.State.{Place, Claim, Frame, Tasked, Machine}
use Rattle.vch_legal.specs.Facts.{most_lets}
use Rattle.vch_legal.specs.Tie.{place_with, keys_with}

-- what an event of a call may add: the handles of two vouchers are let go at most, and each may be claimed
abbrev pub event_left : ℕ
event_left = 2 + 3 * most_lets

-- the keys that a record of a create may still ask, which are all managed ones at its start
abbrev pub record_keys : ℕ → List Key → ℕ
record_keys version [] = length (managed version)
record_keys version (k ∷ ks) = length (k ∷ ks)

-- how many events of its own a call that is not answered still has at most, and one more for the name or the message that
-- it may give. A record has sixteen bytes or more, and as many events as there are keys at most
abbrev pub steps_left : ℕ → Option Call → ℕ → List Key → ℕ
steps_left version None place ks = 0
steps_left version (Some (calls.Create bytes)) place ks = 2 + length (drop place bytes) + record_keys version ks
steps_left version (Some call) place ks = 2 + length ks

-- a question and a look after it; and where the claim is back it may begin anew
abbrev pub claim_left : Option Claim → ℕ
claim_left None = 0
claim_left (Some c) = (if is_some c.answer then 1 else 2) + (if c.back then 3 else 0)

-- a receipt is taken, which lets a handle go and may bring another's claim back
abbrev pub receipt_left : Option Place → ℕ
receipt_left None = 0
receipt_left (Some p) = 8

-- the call is answered, or has its own events
abbrev pub answer_left : Bool → ℕ → ℕ
answer_left true steps = 0
answer_left false steps = event_left * steps

-- the events of the call, where its receipt is seen as taken
abbrev pub steps_with : ℕ → Option Call → ℕ → List Key → Option Place → ℕ
steps_with version None place ks r = 0
steps_with version (Some c) place ks r =
    steps_left version (Some c) (place_with version c place ks r) (keys_with version c place ks r)

-- of a frame without its claim; a handle that is let go may be claimed
abbrev pub frame_base : ℕ → Option Call → Frame → ℕ
frame_base version call f =
    answer_left f.answered (steps_with version call f.at_byte f.keys f.receipt) + receipt_left f.receipt + 3 * length
    f.lets

-- of a frame, or none
abbrev pub frame_left : ℕ → Option Call → Option Frame → ℕ
frame_left version call None = 0
frame_left version call (Some f) = frame_base version call f + claim_left f.claim

-- a call that was not begun; a create of more than 5,120 bytes is refused at once
abbrev pub call_left : Call → ℕ
call_left (calls.Create bytes) =
    10 + (if nat_lt ARRAY_BYTES (length bytes) then 0 else event_left * (2 + length every_key + length bytes))
call_left call = 10 + event_left * (2 + length every_key)

abbrev pub lines_left : List (ℕ × Line) → ℕ
lines_left [] = 0
lines_left (l ∷ lines) = call_left l.1.call + lines_left lines

-- what an exit may have to give up: each name and each message
abbrev pub owned_left : Tasked → ℕ
owned_left x = event_left * (length x.names + length x.queue)

-- a task: its calls that were not begun, its frame, and what it has
abbrev pub task_left : Scenario → ℕ → Tasked → ℕ
task_left sc t x = lines_left (drop x.begun (lines_of sc t)) + frame_left sc.version (nth_call sc t x.begun) x.frame +
    owned_left x

-- all tasks, from a number on
abbrev pub tasks_left : Scenario → ℕ → List Tasked → ℕ
tasks_left sc t [] = 0
tasks_left sc t (x ∷ xs) = task_left sc t x + tasks_left sc (t + 1) xs

-- and the phases that have not ended
abbrev pub work_left : Scenario → Machine → ℕ
work_left sc m = tasks_left sc 1 m.tasks + (length sc.phases - phases_in m.past)

-- a call has at most so much left at the start
abbrev pub largest_call : ℕ
largest_call = 10 + event_left * (2 + length every_key + ARRAY_BYTES)
