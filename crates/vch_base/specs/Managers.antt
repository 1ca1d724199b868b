-- What a manager keeps, and what it answers.
use Rattle.std.specs.Prelude.{◌≡◌, ◌≢◌, ℕ, ◌+◌, ◌-◌, ◌<◌, ◌≤◌, ◌==◌, nat_lt, ◌&&◌, not, if◌then◌else◌, Bool, true, false, List, [], ◌∷◌, ◌++◌, length, slice_set, slice_index, slice_index_or, count_by, Option, Some, None, Result, Ok, Err, ℤ}
use Rattle.vch_base.specs.declared.key.Key.{Key}
use Rattle.vch_base.specs.declared.key.Key.TheVariants as keys
use Rattle.vch_base.specs.declared.value.Value.{Value}
use Rattle.vch_base.specs.declared.value.Value.TheVariants as values
use Rattle.vch_base.specs.Values.{is_default}
use Rattle.vch_base.specs.declared.codes.TheConstants.{KERN_INVALID_ARGUMENT}
use Rattle.vch_base.specs.declared.commands.TheConstants as commands
use Rattle.vch_base.specs.declared.limits.TheConstants.{CHAIN_TASKS}
use Rattle.vch_base.specs.Tasks.{at_task, set_task}
use Rattle.vch_base.specs.Contents.{content_of}
use Rattle.vch_base.specs.declared.flags.Flags.{Flags}
use Rattle.vch_base.specs.declared.places.Live.{Live}
use Rattle.vch_base.specs.declared.manager.Got.{Got}
use Rattle.vch_base.specs.declared.manager.Got.TheVariants as got
use Rattle.vch_base.specs.declared.manager.GetFault.{GetFault}
use Rattle.vch_base.specs.declared.manager.GetFault.TheVariants as fault

-- the key whose commands a manager answers, and the flags of the tasks 1, 2, 3 and so on; none: it knows every task
pub record Rules : Type 0 where
  pub row : Key
  pub tasks : Option (List Flags)

-- the live values by their handles, the free handles (the next first), a ledger for each task, and the releases asked for
pub record Kept : Type 0 where
  pub slots : List (Option Live)
  pub free : List ℕ
  pub ledgers : List ℕ
  pub asked : ℕ
  pub rules : Rules

abbrev pub user_rules : Rules
user_rules = record { row = keys.User; tasks = None }

-- Values by their handles.

abbrev pub live_at : List (Option Live) → ℕ → Option Live
live_at slots h = slice_index_or slots h None

abbrev pub value_of : Option Live → Option Value
value_of None = None
value_of (Some l) = Some l.value

abbrev pub made_of : Option Live → ℕ
made_of None = 0
made_of (Some l) = l.made

abbrev pub value_at : List (Option Live) → ℕ → Option Value
value_at slots h = value_of (live_at slots h)

abbrev pub made_at : List (Option Live) → ℕ → ℕ
made_at slots h = made_of (live_at slots h)

-- what is due on a value: the amount of an account, the external count of a task list, 0 of all others
abbrev pub due_of : Option Live → ℕ
due_of None = 0
due_of (Some l) = l.due

abbrev pub due_at : List (Option Live) → ℕ → ℕ
due_at slots h = due_of (live_at slots h)

abbrev pub previous_of : List (Option Live) → Option ℕ → Option Value
previous_of slots None = None
previous_of slots (Some h) = value_at slots h

abbrev pub MadeBelow : ℕ → List (Option Live) → Type 0
MadeBelow n slots = (h : ℕ) → made_at slots h < n

abbrev pub IsAbsent : List (Option Live) → Value → Type 0
IsAbsent slots x = (h : ℕ) → value_at slots h ≡ Some x → ⊥

abbrev pub is_user : Value → Bool
is_user (values.User bytes) = true
is_user x = false

-- The rules.

abbrev pub no_flags : Flags
no_flags = record { donor = false; receiver = false }

abbrev pub knows : Option (List Flags) → ℕ → Type 0
knows None t = Unit {0}
knows (Some flags) t = (0 < t) × (t ≤ length flags)

abbrev pub Knows : Rules → ℕ → Type 0
Knows rules t = knows rules.tasks t

abbrev pub flags_in : Option (List Flags) → ℕ → Flags
flags_in None t = no_flags
flags_in (Some flags) t = at_task flags t no_flags

-- what SEND_PREPROCESS makes of a value where the task s sends it
abbrev pub preprocessed : ℕ → Value → Value
preprocessed s (values.User bytes) = values.User bytes
preprocessed s (values.Chain list) = values.Chain list
preprocessed s values.Default = values.Task s
preprocessed s (values.Task t) = values.Task t
preprocessed s (values.Account holder merchant) = values.Task holder

-- what AUTO_REDEEM makes of a value where the task r, a receiver of importance or not, receives it
abbrev pub received : Bool → ℕ → Value → Value
received receiver r (values.User bytes) = values.User bytes
received receiver r (values.Chain list) =
    if receiver && (nat_lt (length list) CHAIN_TASKS && not (slice_index list (length list - 1) == r)) then values.Chain (list ++ r ∷ []) else values.Chain list
received receiver r values.Default = values.Default
received receiver r (values.Task holder) = if holder == r then values.Task holder else values.Account holder r
received receiver r (values.Account holder merchant) = values.Account holder merchant

abbrev pub mapped : (Value → Value) → Option Value → Option Value
mapped f None = None
mapped f (Some x) = Some (f x)

-- a command without content
abbrev pub bare : List ℕ → Option Value → Result (Option Value) ℤ
bare content x = if length content == 0 then Ok x else Err KERN_INVALID_ARGUMENT

-- a manager of user data stores the content
abbrev pub stored : ℕ → List ℕ → Result (Option Value) ℤ
stored command content = if command == commands.USER_DATA_STORE then Ok (Some (values.User content)) else Err KERN_INVALID_ARGUMENT

-- the manager's own commands, and those that the core gives it; the manager of the key of tests is one of user data
abbrev pub own_answer : Key → Option (List Flags) → ℕ → ℕ → Option Value → List ℕ → Result (Option Value) ℤ
own_answer keys.User tasks by command previous content = stored command content
own_answer keys.Test tasks by command previous content = stored command content
own_answer keys.Importance tasks by command previous content =
    if command == commands.IMPORTANCE_SELF then bare content (Some (values.Chain (by ∷ [])))
    else if command == commands.AUTO_REDEEM then bare content (mapped (received (flags_in tasks by).receiver by) previous)
    else Err KERN_INVALID_ARGUMENT
own_answer keys.Bank tasks by command previous content =
    if command == commands.BANK_CREATE then bare content (Some values.Default)
    else if command == commands.AUTO_REDEEM then bare content (mapped (received (flags_in tasks by).receiver by) previous)
    else if command == commands.SEND_PREPROCESS then bare content (mapped (preprocessed by) previous)
    else Err KERN_INVALID_ARGUMENT

-- a value, none, or code 4
abbrev pub answer : Rules → ℕ → ℕ → Option Value → List ℕ → Result (Option Value) ℤ
answer rules by command previous content = if command == commands.REDEEM then bare content previous else own_answer rules.row rules.tasks by command previous content

-- The calls.

abbrev pub more_made : Option Live → Option Live
more_made None = None
more_made (Some l) = Some (record l { made = l.made + 1 })

abbrev pub with_due : ℕ → Option Live → Option Live
with_due n None = None
with_due n (Some l) = Some (record l { due = n })

abbrev pub new_live : Value → Live
new_live x = record { value = x; made = 1; due = 0 }

-- the first free handle, or the next new one
abbrev pub next_handle : List ℕ → ℕ → ℕ
next_handle [] used = used
next_handle (h ∷ free) used = h

abbrev pub slots_with : List (Option Live) → List ℕ → Live → List (Option Live)
slots_with slots [] l = slots ++ Some l ∷ []
slots_with slots (h ∷ free) l = slice_set slots h (Some l)

abbrev pub free_after : List ℕ → List ℕ
free_after [] = []
free_after (h ∷ free) = free

-- a value handed out: again at its handle, or at a new one
abbrev pub Hands : List (Option Live) → List ℕ → Value → ℕ → Bool → List (Option Live) → List ℕ → Type 0
Hands slots free x h false slots2 free2 = (value_at slots h ≡ Some x) × (slots2 ≡ slice_set slots h (more_made (live_at slots h))) × (free2 ≡ free)
Hands slots free x h true slots2 free2 = IsAbsent slots x × (h ≡ next_handle free (length slots)) × (slots2 ≡ slots_with slots free (new_live x)) × (free2 ≡ free_after free)

abbrev pub Handed : List (Option Live) → List ℕ → Value → Result Got GetFault → List (Option Live) → List ℕ → Type 0
Handed slots free x (Ok (got.Value h fresh persist)) slots2 free2 = (persist ≡ is_default x) × Hands slots free x h fresh slots2 free2
Handed slots free x (Err (fault.NoMemory cause)) slots2 free2 = (slots2 ≡ slots) × (free2 ≡ free)
Handed slots free x result slots2 free2 = ⊥

-- an answer, and what a call of it leaves; out of memory may stand in for a value alone
abbrev pub Gets : Kept → Result (Option Value) ℤ → Result Got GetFault → Kept → Type 0
Gets old (Err code) (Err (fault.Refused c)) new = (c.number ≡ code) × (new ≡ old)
Gets old (Err code) result new = ⊥
Gets old (Ok None) (Ok got.Nothing) new = new ≡ old
Gets old (Ok None) result new = ⊥
Gets old (Ok (Some x)) result new = Handed old.slots old.free x result new.slots new.free × (new ≡ record old { slots = new.slots; free = new.free })

abbrev pub credited : Option Live → List ℕ → List ℕ
credited None ledgers = ledgers
credited (Some l) ledgers =
    elim l.value [ values.Account holder merchant ↦ set_task ledgers holder (at_task ledgers holder 0 + l.due) | _ ↦ ledgers ]

abbrev pub after_release : Kept → ℕ → Bool → Kept
after_release old h true = record old { slots = slice_set old.slots h None; free = h ∷ old.free; ledgers = credited (live_at old.slots h) old.ledgers; asked = old.asked + 1 }
after_release old h false = record old { asked = old.asked + 1 }

abbrev pub content_at : List (Option Live) → ℕ → List ℕ
content_at slots h = content_of (value_at slots h)

-- The laws.

abbrev pub count : ℕ → List ℕ → ℕ
count h free = count_by (λ x. x == h) free

abbrev pub vacancy : Option Live → ℕ
vacancy None = 1
vacancy (Some l) = 0

-- something is due on accounts and on task lists alone, and the holder of an account is a task from 1 on
abbrev pub IsSettled : Value → ℕ → Type 0
IsSettled (values.User bytes) due = due ≡ 0
IsSettled (values.Chain list) due = Unit {0}
IsSettled values.Default due = due ≡ 0
IsSettled (values.Task t) due = due ≡ 0
IsSettled (values.Account holder merchant) due = 1 ≤ holder

pub record Lawful (k : Kept) : Type 0 where
  -- two live handles with one value are equal
  pub one_handle : (i j : ℕ) (x : Value) → value_at k.slots i ≡ Some x → value_at k.slots j ≡ Some x → i ≡ j
  -- live handles and free handles are the handles ever used, each once
  pub once : (h : ℕ) → h < length k.slots → count h k.free ≡ vacancy (live_at k.slots h)
  pub within : (h : ℕ) → length k.slots ≤ h → count h k.free ≡ 0
  -- Default is live at handle 0 of a manager of the bank's row
  pub default : k.rules.row ≡ keys.Bank → value_at k.slots 0 ≡ Some values.Default
  -- only a manager of the bank's row has ledgers, and no task that it knows has a flag
  pub ledgers : k.rules.row ≢ keys.Bank → k.ledgers ≡ []
  pub flags : k.rules.row ≡ keys.Bank → (t : ℕ) → flags_in k.rules.tasks t ≡ no_flags
  -- each live value is settled
  pub settled : (h : ℕ) (l : Live) → live_at k.slots h ≡ Some l → IsSettled l.value l.due
