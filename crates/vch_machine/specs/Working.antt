-- Work: one record of a create that asks no manager, or one thing that an exit gives up. The commands and the order of
-- their refusals are the kernel release's, but for the codes; an exit is this project's own.
use Rattle.std.specs.Prelude.{ℕ, ◌+◌, true, ◌==◌, not, if◌then◌else◌, List, [], ◌∷◌, ◌++◌, length, drop, Option, Some, None, Result, Ok, Err, ℤ}
use Rattle.vch_base.specs.declared.codes.TheConstants.{KERN_INVALID_ARGUMENT, KERN_NO_ACCESS, KERN_INVALID_CAPABILITY}
use Rattle.vch_base.specs.declared.commands.TheConstants as commands
use Rattle.vch_base.specs.declared.key.TheConstants.{ALL_KEYS}
use Rattle.vch_base.specs.Keyed.{of_key, with_key}
use Rattle.vch_base.specs.Keys.{managed, key_of}
use Rattle.vch_base.specs.declared.key.Key.{Key}
use Rattle.vch_recipe.specs.Recipes.{First, One, first_of}
use Rattle.vch_recipe.specs.declared.recipe.Recipe.{Recipe}
use Rattle.vch_model.specs.declared.call.Call.{Call}
use Rattle.vch_model.specs.Eval.{is_core_command, is_plain_command}
use Rattle.vch_machine.specs.Frames.{refuse, closed, noted, replied, with_frame}
use Rattle.vch_machine.specs.Naming.{same_handle, handles_of, item, lowest, without_name, orphaned}
use Rattle.vch_machine.specs.State.{Handles, Place, Named, Message, Frame, Machine, tasked, with_tasked}
use Rattle.vch_model.specs.declared.entry.Entry.TheVariants as entries
use Rattle.vch_model.specs.declared.entry.Reply.TheVariants as replies
use Rattle.vch_model.specs.declared.call.Call.TheVariants as calls

-- one record without a manager: the map, and the handles that leave it
pub record WorkDone : Type 0 where
  pub forming : Handles
  pub left : List Place

-- what COPY makes of a key, or nothing where it stays
abbrev pub copies : Option Handles → Handles → Key → Option (Option ℕ)
copies None map k = None
copies (Some v) map k = Some (of_key k v)

-- what REMOVE makes of a key, or nothing where it stays
abbrev pub removes : Option Handles → Handles → Key → Option (Option ℕ)
removes None map k = Some None
removes (Some v) map k = if same_handle (of_key k v) (of_key k map) then Some None else None

-- a key is given a handle or none; the one that was there leaves the map, also where it is put there again
abbrev pub changed : Key → Option (Option ℕ) → WorkDone → WorkDone
changed k None w = w
changed k (Some x) w = record { forming = with_key k x w.forming; left = w.left ++ item k (of_key k w.forming) }

-- a change at a key that may have no manager
abbrev pub changed_at : (Key → Option (Option ℕ)) → Option Key → WorkDone → Result WorkDone ℤ
changed_at f None w = Err KERN_INVALID_ARGUMENT
changed_at f (Some k) w = Ok (changed k (f k) w)

-- a change at each key of a list, one after the other
abbrev pub changed_each : (Key → Option (Option ℕ)) → List Key → WorkDone → WorkDone
changed_each f [] w = w
changed_each f (k ∷ keys) w = changed_each f keys (changed k (f k) w)

-- a change at one managed key of the version, or at all of them in rising order
abbrev pub changed_keys : ℕ → (Key → Option (Option ℕ)) → ℕ → WorkDone → Result WorkDone ℤ
changed_keys version f key w =
    if key == ALL_KEYS then Ok (changed_each f (managed version) w) else changed_at f (key_of version key) w

-- COPY, which does nothing without a previous voucher
abbrev pub copied : ℕ → Option Handles → ℕ → WorkDone → Result WorkDone ℤ
copied version None key w = Ok w
copied version (Some v) key w = changed_keys version (copies (Some v) w.forming) key w

-- a record with its previous voucher, or a code
abbrev pub worked : ℕ → Recipe → Option Handles → WorkDone → Result WorkDone ℤ
worked version r previous w =
    if is_core_command r.command then Err KERN_NO_ACCESS
    else if is_plain_command r.command then (
    if not (length r.content == 0) then Err KERN_INVALID_ARGUMENT
    else if r.command == commands.NOOP then Ok w
    else if r.command == commands.COPY then copied version previous r.key w
    else changed_keys version (removes previous w.forming) r.key w)
    else Err KERN_INVALID_ARGUMENT

-- a record that names a previous voucher, which may not be there
abbrev pub worked_with : ℕ → Recipe → Option Handles → WorkDone → Result WorkDone ℤ
worked_with version r None w = Err KERN_INVALID_CAPABILITY
worked_with version r (Some v) w = worked version r (Some v) w

-- the first record of what is left of the bytes
abbrev pub work_first : ℕ → List Named → First → Handles → Result WorkDone ℤ
work_first version names (One r rest) map =
    if r.previous == 0 then worked version r None (record { forming = map; left = [] })
    else worked_with version r (handles_of names r.previous) (record { forming = map; left = [] })
work_first version names First.End map = Err KERN_INVALID_ARGUMENT
work_first version names (First.HeaderCut left) map = Err KERN_INVALID_ARGUMENT
work_first version names (First.ContentCut wanted left) map = Err KERN_INVALID_ARGUMENT

-- a refusal answers the call; else the place moves on
abbrev pub work_done : Machine → ℕ → Frame → Call → ℕ → Result WorkDone ℤ → Machine
work_done m t f call size (Err code) = refuse m t f call code
work_done m t f call size (Ok w) =
    with_frame m t (Some (record f { forming = Some w.forming; at_byte = f.at_byte + size; lets = f.lets ++ w.left }))

-- the bytes of a record that was read: its four numbers and its content
abbrev pub size_of : First → ℕ
size_of (One r rest) = 16 + length r.content
size_of First.End = 0
size_of (First.HeaderCut left) = 0
size_of (First.ContentCut wanted left) = 0

-- the recipe array of a call
abbrev pub bytes_of : Call → List ℕ
bytes_of (calls.Create bytes) = bytes
bytes_of call = []

-- the next record of a call
abbrev pub first_at : Frame → Call → First
first_at f call = first_of (drop f.at_byte (bytes_of call))

-- the event of a create
abbrev pub do_work : ℕ → Machine → ℕ → Frame → Handles → Call → Machine
do_work version m t f v call = work_done m t f call (size_of (first_at f call))
    (work_first version (tasked m t).names (first_at f call) v)

-- the frame of an exit has these handles more to let go
abbrev pub letting : Machine → ℕ → Frame → List Place → Machine
letting m t f lets = with_frame m t (Some (record f { lets = f.lets ++ lets }))

-- a name is given up with all its user references; its voucher's handles are let go where no one has it any more
abbrev pub do_gone : Machine → ℕ → Frame → ℕ → Machine
do_gone m t f name =
    let mid = with_tasked m t (record (tasked m t) { names = without_name (tasked m t).names name }) in
    noted (letting mid t f (orphaned mid (handles_of (tasked m t).names name))) (entries.Gone t name)

-- the first message is thrown away, likewise
abbrev pub do_lost : Machine → ℕ → Frame → Message → List Message → Machine
do_lost m t f q queue =
    let mid = with_tasked m t (record (tasked m t) { queue = queue }) in
    noted (letting mid t f (orphaned mid q.voucher)) (entries.Lost t)

-- with no name and no message left, the exit is answered
abbrev pub do_left : Machine → ℕ → Frame → Machine
do_left m t f = replied (with_frame m t (closed (record f { answered = true }))) t calls.Exit replies.Done

-- messages are given up once there is no name
abbrev pub exit_queue : Machine → ℕ → Frame → List Message → Machine
exit_queue m t f [] = do_left m t f
exit_queue m t f (q ∷ queue) = do_lost m t f q queue

-- the lowest name goes first
abbrev pub exit_names : Machine → ℕ → Frame → Option ℕ → Machine
exit_names m t f None = exit_queue m t f (tasked m t).queue
exit_names m t f (Some name) = do_gone m t f name

-- the event of an exit
abbrev pub do_exit : Machine → ℕ → Frame → Machine
do_exit m t f = exit_names m t f (lowest (tasked m t).names)
