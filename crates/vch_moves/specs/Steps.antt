-- One task of the parts is another, and an entry is noted or none is.
use Rattle.std.specs.Prelude.{◌≡◌, ℕ, ◌+◌, ◌-◌, ◌++◌, length, List, Option, Some, None, option_to_list, ℤ, [], ◌∷◌, Bool, true, false, if◌then◌else◌}
use Rattle.vch_base.specs.declared.key.Key.{Key}
use Rattle.vch_base.specs.Keyed.{Keyed}
use Rattle.vch_base.specs.Tasks.{set_task}
use Rattle.vch_model.specs.declared.call.Call.{Call}
use Rattle.vch_model.specs.declared.call.Call.TheVariants as calls
use Rattle.vch_model.specs.declared.entry.Entry.{Entry}
use Rattle.vch_model.specs.declared.entry.Entry.TheVariants as entries
use Rattle.vch_model.specs.declared.entry.Reply.{Reply}
use Rattle.vch_model.specs.declared.entry.Reply.TheVariants as replies
use Rattle.vch_model.specs.Replies.{refused}
use Rattle.vch_model.specs.Words.{word_of}
use Rattle.vch_machine.specs.Beginning as begins
use Rattle.vch_machine.specs.State.{Machine, Tasked, tasked, with_tasked}
use Rattle.vch_frame.specs.declared.frame.Claiming.{Claiming}
use Rattle.vch_frame.specs.declared.frame.KeyIndex.{KeyIndex}
use Rattle.vch_values.specs.Parts.{KeyParts}
use Rattle.vch_parts.specs.declared.frame.Frame.{Frame}
use Rattle.vch_vouchers.specs.declared.answers.Message.{Message}
use Rattle.vch_parts.specs.Plain.{Indices, Plain, Part, part_of, with_frame, closed}
use Rattle.vch_vouchers.specs.Desks.{voucher_of, one_less, without_name}
use Rattle.vch_moves.specs.Desks.{option_items, given, name_of_given, doubled, orphaned}

abbrev pub stepped : Plain → ℕ → Part → Option Entry → Plain
stepped c t x o = record c {
  tasks = set_task c.tasks t x;
  history = c.history ++ option_to_list o;
  spare = c.spare - length (option_to_list o);
}

-- the same of the machine
abbrev pub machine_stepped : Machine → ℕ → Tasked → Option Entry → Machine
machine_stepped m t y o = record m { tasks = set_task m.tasks t y; past = option_to_list o ++ m.past }

-- the answer to the call that a task has begun last
abbrev pub answer : Plain → ℕ → Call → Reply → Option Entry
answer c t call reply = Some (entries.Call t (part_of c t).begun (word_of call) reply)

-- a frame whose call is answered: it forms nothing, and has these indices more to let go of
abbrev pub ended : Frame → List KeyIndex → Frame
ended f lets = record f { forming = None; answered = true; keys = []; lets = f.lets ++ lets }

-- a call with a frame is refused: what it formed is let go
abbrev pub refused_call : Plain → ℕ → Frame → Call → ℤ → Plain
refused_call c t f call code = stepped c t (with_frame (part_of c t) (closed (ended f (option_items f.forming)))) (answer c t call (refused code))

-- a frame that has no receipt and no claim in hand
abbrev pub IsIdle : Option Frame → Type 0
IsIdle None = Unit {0}
IsIdle (Some f) = (f.receipt ≡ None) × (f.claim ≡ Claiming.Nothing)

-- the Place of a create: the voucher gets a name of the task, and its handles are let go where the voucher was known before
abbrev pub created : Plain → ℕ → Frame → Indices → Call → Plain
created c t f u call = stepped c t (with_frame (given (part_of c t) u) (closed (ended f (doubled c.tasks u))))
    (answer c t call (replies.Created (name_of_given (part_of c t) u)))

-- a task has begun one call more
abbrev pub begun_one : Part → Part
begun_one x = record x { begun = x.begun + 1 }

-- the answer to the call that it begins
abbrev pub first_answer : Plain → ℕ → Call → Reply → Option Entry
first_answer c t call reply = Some (entries.Call t ((part_of c t).begun + 1) (word_of call) reply)

-- the frame of a call that is answered and lets go of indices
abbrev pub leaving_frame : List KeyIndex → Frame
leaving_frame lets = record { forming = None; answered = true; at = 0; keys = []; receipt = None; lets = lets; claim = Claiming.Nothing }

-- a name's user reference is given up, and the call is answered; the handles of an orphan are let go
abbrev pub less_named : Part → ℕ → Part
less_named x name = record (begun_one x) { names = one_less x.names name }

abbrev pub dropped : Plain → ℕ → Call → Reply → ℕ → Plain
dropped c t call reply name = stepped c t
    (with_frame (less_named (part_of c t) name) (closed (leaving_frame (orphaned (set_task c.tasks t (less_named (part_of c t) name)) (voucher_of (part_of c t).names name)))))
    (first_answer c t call reply)

-- the frame of an exit has more to let go of
abbrev pub letting : Frame → List KeyIndex → Frame
letting f lets = record f { lets = f.lets ++ lets }

-- an exit gives up a name, and then a message
abbrev pub un_named : Part → ℕ → Part
un_named x name = record x { names = without_name x.names name }

abbrev pub gone : Plain → ℕ → Frame → ℕ → Plain
gone c t f name = stepped c t
    (with_frame (un_named (part_of c t) name) (Some (letting f (orphaned (set_task c.tasks t (un_named (part_of c t) name)) (voucher_of (part_of c t).names name)))))
    (Some (entries.Gone t name))

abbrev pub un_queued : Part → List Message → Part
un_queued x queue = record x { queue = queue }

abbrev pub lost : Plain → ℕ → Frame → Message → List Message → Plain
lost c t f q queue = stepped c t
    (with_frame (un_queued (part_of c t) queue) (Some (letting f (orphaned (set_task c.tasks t (un_queued (part_of c t) queue)) q.voucher))))
    (Some (entries.Lost t))

-- with nothing left, it is answered
abbrev pub left : Plain → ℕ → Frame → Plain
left c t f = stepped c t (with_frame (part_of c t) (closed (record f { answered = true }))) (answer c t calls.Exit replies.Done)

-- the frame of a call that forms a voucher, and that of an exit
abbrev pub fresh_frame : Indices → List Key → Frame
fresh_frame v ks = record { forming = Some v; answered = false; at = 0; keys = ks; receipt = None; lets = []; claim = Claiming.Nothing }

abbrev pub exiting_frame : Frame
exiting_frame = record { forming = None; answered = false; at = 0; keys = []; receipt = None; lets = []; claim = Claiming.Nothing }

-- the Place of a recv: the first message is taken, and the voucher gets a name
abbrev pub received_part : Part → List Message → Indices → Part
received_part x queue u = given (un_queued x queue) u

abbrev pub received : Plain → ℕ → Frame → Indices → Message → List Message → Plain
received c t f u q queue = stepped c t
    (with_frame (received_part (part_of c t) queue u) (closed (ended f (doubled c.tasks u ++ orphaned (set_task c.tasks t (received_part (part_of c t) queue u)) q.voucher))))
    (answer c t calls.Recv (replies.Received q.sender q.id (name_of_given (part_of c t) u)))

-- a message is queued with a task
abbrev pub queued_part : Part → Message → Part
queued_part x q = record x { queue = x.queue ++ q ∷ [] }

abbrev pub queued : Plain → ℕ → Message → Plain
queued c to q = record c { tasks = set_task c.tasks to (queued_part (part_of c to) q) }

-- the Place of a send: the voucher is queued, and a name that moves loses a user reference
abbrev pub sender_part : Bool → Part → ℕ → Part
sender_part moving x name = if moving then record x { names = one_less x.names name } else x

abbrev pub sender_lets : Bool → Plain → ℕ → Part → Option Indices → List KeyIndex
sender_lets moving c t x u = if moving then orphaned (set_task c.tasks t x) u else []

abbrev pub sent_from : Plain → Plain → ℕ → Frame → Bool → ℕ → Indices → Call → Plain
sent_from c mid t f moving name u call = stepped mid t
    (with_frame (sender_part moving (part_of mid t) name)
    (closed (ended f (doubled c.tasks u ++ sender_lets moving mid t (sender_part moving (part_of mid t) name) (voucher_of (part_of mid t).names name)))))
    (answer c t call replies.Done)

abbrev pub sent : Plain → ℕ → Frame → ℕ → Bool → ℕ → ℕ → Indices → Plain
sent c t f to moving name id u = sent_from c (queued c to (record { sender = t; id = id; voucher = Some u })) t f moving name u (calls.Send to moving name id)

-- a call begins that forms a voucher: a copy of this one, whose entries have one reference more, with keys to be asked
abbrev pub copied : Plain → ℕ → Keyed KeyParts → Indices → List Key → Plain
copied c t keyed v ks = record (stepped c t (with_frame (begun_one (part_of c t)) (Some (fresh_frame v ks))) None) { keyed = keyed }

-- a message is queued, or the first is taken, and the call is answered as it begins
abbrev pub queued_first : Plain → ℕ → ℕ → Message → Call → Reply → Plain
queued_first c t to q call reply =
    let mid = record c { tasks = set_task c.tasks t (begun_one (part_of c t)) } in
    stepped mid to (queued_part (part_of mid to) q) (first_answer c t call reply)

abbrev pub taken_first : Plain → ℕ → List Message → Call → Reply → Plain
taken_first c t queue call reply = stepped c t (un_queued (begun_one (part_of c t)) queue) (first_answer c t call reply)

-- a call begins with a frame
abbrev pub opened : Plain → ℕ → Frame → Plain
opened c t f = stepped c t (with_frame (begun_one (part_of c t)) (Some f)) None

-- or it is answered as it begins
abbrev pub answered_first : Plain → ℕ → Call → Reply → Plain
answered_first c t call reply = stepped c t (begun_one (part_of c t)) (first_answer c t call reply)

-- the machine after the beginning of a call
abbrev pub machine_begun : Machine → ℕ → Machine
machine_begun m t = with_tasked m t (begins.begun_one (tasked m t))
