-- Place: the end of a create, a send or a recv. The voucher that was formed goes to a name or a message, and the call is
-- answered.
use Rattle.std.specs.Prelude.{ℕ, Bool, true, if◌then◌else◌, List, [], ◌∷◌, ◌++◌, Option, Some, None}
use Rattle.vch_base.specs.declared.codes.TheConstants.{KERN_RESOURCE_SHORTAGE, MACH_SEND_TIMED_OUT}
use Rattle.vch_model.specs.declared.call.Call.{Call}
use Rattle.vch_model.specs.declared.lists.Scenario.{Scenario}
use Rattle.vch_machine.specs.Beginning.{is_full, enqueued}
use Rattle.vch_machine.specs.Frames.{refuse, replied, closed, with_frame}
use Rattle.vch_machine.specs.Naming.{name_of, one_less, name_for, handles_of, orphaned, with_name, doubled}
use Rattle.vch_machine.specs.State.{Handles, Place, Message, Frame, Machine, tasked, with_tasked}
use Rattle.vch_model.specs.declared.call.Call.TheVariants as calls
use Rattle.vch_model.specs.declared.entry.Reply.TheVariants as replies

-- the call is answered: nothing is formed any more, and these handles are let go
abbrev pub ended : Frame → List Place → Option Frame
ended f lets = closed (record f { forming = None; answered = true; keys = []; lets = f.lets ++ lets })

-- the voucher gets a name of the task; its handles are let go where the voucher was there before
abbrev pub place_create : Machine → ℕ → Frame → Handles → Call → Machine
place_create m t f v call =
    replied (with_frame (with_tasked m t (with_name (tasked m t) v (name_of (tasked m t).names v))) t
    (ended f (doubled m v))) t call
    (replies.Created (name_for (tasked m t) (name_of (tasked m t).names v)))

-- a send that moves its name takes one user reference of it
abbrev pub moved_name : Machine → ℕ → Bool → ℕ → Machine
moved_name m t moving name = if moving then with_tasked m t (record
    (tasked m t) { names = one_less (tasked m t).names name }) else m

-- the voucher is queued in a message; the handles of the named voucher are let go where no one has it any more
abbrev pub place_send : Machine → ℕ → Frame → Handles → Call → ℕ → Bool → ℕ → ℕ → Machine
place_send m t f v call to moving name id =
    let mid = moved_name (enqueued m to (record { sender = t; id = id; voucher = Some v })) t moving name in
    replied (with_frame mid t (ended f (doubled m v ++ orphaned mid (handles_of (tasked m t).names name)))) t call
    replies.Done

-- the first message is taken and the voucher gets a name; the handles of the message's voucher are let go where no one has
-- it any more
abbrev pub place_recv : Machine → ℕ → Frame → Handles → Call → List Message → Machine
place_recv m t f v call [] = m
place_recv m t f v call (q ∷ queue) =
    let x = record (tasked m t) { queue = queue } in
    let mid = with_tasked m t (with_name x v (name_of x.names v)) in
    replied (with_frame mid t (ended f (doubled m v ++ orphaned mid q.voucher))) t call
    (replies.Received q.sender q.id (name_for x (name_of x.names v)))

-- the event, out of memory or not; a full queue is looked at before memory is asked for
abbrev pub do_place : Scenario → Bool → Machine → ℕ → Frame → Handles → Call → Option Machine
do_place sc want m t f v (calls.Create bytes) =
    if want then Some (refuse m t f (calls.Create bytes) KERN_RESOURCE_SHORTAGE)
    else Some (place_create m t f v (calls.Create bytes))
do_place sc want m t f v (calls.Send to moving name id) =
    if is_full sc m to then Some (refuse m t f (calls.Send to moving name id) MACH_SEND_TIMED_OUT)
    else if want then Some (refuse m t f (calls.Send to moving name id) KERN_RESOURCE_SHORTAGE)
    else Some (place_send m t f v (calls.Send to moving name id) to moving name id)
do_place sc want m t f v calls.Recv =
    if want then Some (refuse m t f calls.Recv KERN_RESOURCE_SHORTAGE)
    else Some (place_recv m t f v calls.Recv (tasked m t).queue)
do_place sc want m t f v call = None
