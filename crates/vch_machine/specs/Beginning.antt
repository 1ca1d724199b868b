-- Begin: a task takes its next call. Most calls are answered at once; a create, a send or a recv that forms a voucher
-- begins a frame, and so do an exit and the drop of a voucher's last name.
use Rattle.std.specs.Prelude.{ℕ, ◌+◌, Bool, true, false, ◌==◌, nat_lt, ◌&&◌, ◌||◌, not, if◌then◌else◌, List, [], ◌∷◌, ◌++◌, length, Option, Some, None}
use Rattle.vch_base.specs.declared.codes.TheConstants.{KERN_RESOURCE_SHORTAGE}
use Rattle.vch_base.specs.declared.limits.TheConstants.{ARRAY_BYTES}
use Rattle.vch_base.specs.declared.key.Key.{Key}
use Rattle.vch_model.specs.Legal.{has_code}
use Rattle.vch_model.specs.Lines.{is_task}
use Rattle.vch_model.specs.Store.{limit_of}
use Rattle.vch_model.specs.Replies.{refused, reply_to}
use Rattle.vch_model.specs.declared.call.Call.{Call}
use Rattle.vch_model.specs.declared.entry.Reply.{Reply}
use Rattle.vch_model.specs.declared.lists.Scenario.{Scenario}
use Rattle.vch_machine.specs.Frames.{replied, closed, with_frame}
use Rattle.vch_machine.specs.Naming.{one_less, handles_of, orphaned}
use Rattle.vch_machine.specs.Next.{nth_call}
use Rattle.vch_machine.specs.State.{Handles, no_handles, Place, Message, Frame, Tasked, Machine, tasked, with_tasked, seen}
use Rattle.vch_base.specs.declared.key.Key.TheVariants as keys
use Rattle.vch_model.specs.declared.call.Call.TheVariants as calls

-- the task has begun one call more
abbrev pub begun_one : Tasked → Tasked
begun_one x = record x { begun = x.begun + 1 }

-- the frame of a call that forms a voucher
abbrev pub fresh_frame : Handles → List Key → Frame
fresh_frame v ks = record { forming = Some v; answered = false; at_byte = 0; keys = ks; receipt = None; lets = []; claim = None }

-- the frame of a call that is answered and lets handles go
abbrev pub leaving_frame : List Place → Frame
leaving_frame lets = record { forming = None; answered = true; at_byte = 0; keys = []; receipt = None; lets = lets; claim = None }

-- the frame of an exit, which forms no voucher
abbrev pub exiting_frame : Frame
exiting_frame = record { forming = None; answered = false; at_byte = 0; keys = []; receipt = None; lets = []; claim = None }

-- a key that is to be asked where the voucher has a value there
abbrev pub key_if : Key → Option ℕ → List Key
key_if k None = []
key_if k (Some h) = k ∷ []

-- what the sequential store replies in this state
abbrev pub store_reply : Scenario → Machine → ℕ → Call → Reply
store_reply sc m t call = reply_to sc m.past (seen m) t call

-- the reply, or out of memory in place of one that has no code
abbrev pub or_want : Bool → Reply → Reply
or_want want reply = if want && not (has_code reply) then refused KERN_RESOURCE_SHORTAGE else reply

-- one user reference of a name is given up; with the last of a voucher that no one else has, a frame lets its handles go
abbrev pub dropped : Machine → ℕ → Call → Reply → Option Handles → ℕ → Machine
dropped m t call reply v name =
    let mid = with_tasked m t (record (tasked m t) { names = one_less (tasked m t).names name }) in
    replied (with_frame mid t (closed (leaving_frame (orphaned mid v)))) t call reply

-- the voucher of the first message, or none
abbrev pub first_voucher : List Message → Option Handles
first_voucher [] = None
first_voucher (q ∷ queue) = q.voucher

-- the first message is taken
abbrev pub dequeued : Machine → ℕ → List Message → Machine
dequeued m t [] = m
dequeued m t (q ∷ queue) = with_tasked m t (record (tasked m t) { queue = queue })

-- a message is queued
abbrev pub enqueued : Machine → ℕ → Message → Machine
enqueued m to q = with_tasked m to (record (tasked m to) { queue = (tasked m to).queue ++ q ∷ [] })

-- the queue of a task has as many messages as it may
abbrev pub is_full : Scenario → Machine → ℕ → Bool
is_full sc m to = not (nat_lt (length (tasked m to).queue) (limit_of sc to))

-- a recv of no message, or of one without a voucher, is answered; else importance and bank are to be asked
abbrev pub begin_recv : Machine → ℕ → Call → Reply → Option Handles → Machine
begin_recv m t call reply None = replied (dequeued m t (tasked m t).queue) t call reply
begin_recv m t call reply (Some v) = with_frame m t (Some (fresh_frame v
    (key_if keys.Importance v.importance ++ key_if keys.Bank v.bank)))

-- a send to no task, of no voucher or of a name that is not there is answered; else the bank is to be asked
abbrev pub begin_send : Scenario → Machine → ℕ → Call → ℕ → ℕ → ℕ → Reply → Option Handles → Machine
begin_send sc m t call to name id reply v =
    if not (is_task sc to) then replied m t call reply
    else if name == 0 then replied (if is_full sc m to then m else enqueued m to
    (record { sender = t; id = id; voucher = None })) t call reply
    else elim v [
      | None ↦ replied m t call reply
      | Some w ↦ with_frame m t
          (Some (fresh_frame w (key_if keys.Bank w.bank)))
    ]

-- by command; m is the state in which the call is counted as begun
abbrev pub begin_call : Scenario → Bool → Machine → ℕ → Call → Reply → Machine
begin_call sc want m t (calls.Create bytes) reply =
    if (length bytes == 0) || nat_lt ARRAY_BYTES (length bytes) then replied m t (calls.Create bytes) reply
    else with_frame m t (Some (fresh_frame no_handles []))
begin_call sc want m t (calls.GiveUp name) reply = dropped m t (calls.GiveUp name) reply
    (handles_of (tasked m t).names name) name
begin_call sc want m t (calls.Extract name key) reply = replied m t (calls.Extract name key) (or_want want reply)
begin_call sc want m t (calls.Recipes name) reply = replied m t (calls.Recipes name) (or_want want reply)
begin_call sc want m t (calls.Send to moving name id) reply =
    begin_send sc m t (calls.Send to moving name id) to name id reply (handles_of (tasked m t).names name)
begin_call sc want m t calls.Recv reply = begin_recv m t calls.Recv reply (first_voucher (tasked m t).queue)
begin_call sc want m t calls.Exit reply = with_frame m t (Some exiting_frame)
begin_call sc want m t call reply = replied m t call reply

-- a call that may be none
abbrev pub begin_line : Scenario → Bool → Machine → ℕ → Option Call → Option Machine
begin_line sc want m t None = None
begin_line sc want m t (Some call) = Some (begin_call sc want (with_tasked m t (begun_one (tasked m t))) t call
    (store_reply sc m t call))

-- the event, out of memory or not
abbrev pub do_begin : Scenario → Bool → Machine → ℕ → Option Machine
do_begin sc want m t = begin_line sc want m t (nth_call sc t ((tasked m t).begun + 1))
