-- What each task has: names for vouchers and queued messages. A voucher is what it holds; equal vouchers are one.
use Rattle.std.specs.Prelude.{ℕ, ◌≢◌, ◌+◌, ◌-◌, ◌<◌, ◌≤◌, ◌==◌, nat_lt, ◌||◌, if◌then◌else◌, Bool, false, List, [], ◌∷◌, ◌++◌, map, length, Option, Some, None, option_to_list}
use Rattle.std.specs.List.{flat_map}
use Rattle.vch_base.specs.Tasks.{at_task}
use Rattle.vch_table.specs.declared.indices.KeyedIndex.{KeyedIndex}
use Rattle.vch_table.specs.Index.{indices_eq}
use Rattle.vch_ports.specs.Names.{lower}
use Rattle.vch_vouchers.specs.declared.answers.Message.{Message}
use Rattle.vch_vouchers.specs.declared.answers.Taken.{Taken}

abbrev pub Voucher : Type 0
Voucher = List KeyedIndex

-- a name of a task, the voucher that it names, and its user references
pub record Named : Type 0 where
  pub name : ℕ
  pub voucher : Voucher
  pub refs : ℕ

-- the names of a task in the order in which they were given, the next name, its queue with the message received next first,
-- and the most messages that it may have
pub record Desk : Type 0 where
  pub names : List Named
  pub next : ℕ
  pub queue : List Message
  pub limit : ℕ

-- the desk of a task before any call, and that of a number that is no task's
abbrev pub empty_desk : ℕ → Desk
empty_desk limit = record { names = []; next = 1; queue = []; limit = limit }

abbrev pub desk : List Desk → ℕ → Desk
desk desks task = at_task desks task (empty_desk 0)

-- Names.

-- the voucher of a name, or none where the task has no such name
abbrev pub voucher_of : List Named → ℕ → Option Voucher
voucher_of [] name = None
voucher_of (n ∷ names) name = if n.name == name then Some n.voucher else voucher_of names name

-- the name that has a voucher, or none
abbrev pub name_with : List Named → Voucher → Option ℕ
name_with [] v = None
name_with (n ∷ names) v = if indices_eq n.voucher v then Some n.name else name_with names v

-- the name that a task gets for a voucher: the one it has, else the next
abbrev pub name_for : Desk → Option ℕ → ℕ
name_for d None = d.next
name_for d (Some name) = name

-- a name with one more user reference
abbrev pub one_more : List Named → ℕ → List Named
one_more [] name = []
one_more (n ∷ names) name = if n.name == name then record n { refs = n.refs + 1 } ∷ names else n ∷ one_more names name

-- a voucher is given to a task: one more user reference on the name that has it, else the next name at the end
abbrev pub given_to : Desk → Voucher → Option ℕ → Desk
given_to d v None = record d { names = d.names ++ record { name = d.next; voucher = v; refs = 1 } ∷ []; next = d.next + 1 }
given_to d v (Some name) = record d { names = one_more d.names name }

abbrev pub given : Desk → Voucher → Desk
given d v = given_to d v (name_with d.names v)

-- a name with one user reference less; it goes with the last
abbrev pub one_less : List Named → ℕ → List Named
one_less [] name = []
one_less (n ∷ names) name =
    if n.name == name then (if nat_lt 1 n.refs then record n { refs = n.refs - 1 } ∷ names else names) else n ∷ one_less names name

-- the names without one of them, whatever its user references
abbrev pub without_name : List Named → ℕ → List Named
without_name [] name = []
without_name (n ∷ names) name = if n.name == name then names else n ∷ without_name names name

-- the lowest name, where there is one
abbrev pub lowest : List Named → Option ℕ
lowest [] = None
lowest (n ∷ names) = Some (lower n.name (lowest names))

-- a message behind all others
abbrev pub queued : Desk → Message → Desk
queued d q = record d { queue = d.queue ++ q ∷ [] }

-- Vouchers.

-- the vouchers of all names and messages, as often as they are there
abbrev pub vouchers_at : Desk → List Voucher
vouchers_at d = map (λ (n : Named). n.voucher) d.names ++ flat_map (λ (q : Message). option_to_list q.voucher) d.queue

abbrev pub all_vouchers : List Desk → List Voucher
all_vouchers desks = flat_map vouchers_at desks

abbrev pub is_among : Voucher → List Voucher → Bool
is_among v [] = false
is_among v (w ∷ ws) = indices_eq w v || is_among v ws

-- some name or message of some task has the voucher
abbrev pub is_known : List Desk → Voucher → Bool
is_known desks v = is_among v (all_vouchers desks)

-- a voucher that no name and no message has any more
abbrev pub orphaned : List Desk → Option Voucher → Option Voucher
orphaned desks None = None
orphaned desks (Some v) = if is_known desks v then None else Some v

-- how many different ones a list has
abbrev pub different : List Voucher → ℕ
different [] = 0
different (v ∷ vs) = if is_among v vs then different vs else different vs + 1

-- the message taken from a queue, and its voucher where that is an orphan now
abbrev pub taken_from : List Desk → Option Message → Option Taken
taken_from desks None = None
taken_from desks (Some q) = Some (record { sender = q.sender; id = q.id; orphan = orphaned desks q.voucher })

-- What is true of a task's desk at all times.

abbrev pub NoneIs : {A : Type 0} → (Named → A) → A → List Named → Type 0
NoneIs f a [] = Unit {0}
NoneIs f a (n ∷ names) = (f n ≢ a) × NoneIs f a names

abbrev pub AllDiffer : {A : Type 0} → (Named → A) → List Named → Type 0
AllDiffer f [] = Unit {0}
AllDiffer f (n ∷ names) = NoneIs f (f n) names × AllDiffer f names

-- names from 1 and below the next, each with a user reference
abbrev pub AreInUse : ℕ → List Named → Type 0
AreInUse next [] = Unit {0}
AreInUse next (n ∷ names) = (1 ≤ n.name) × (n.name < next) × (1 ≤ n.refs) × AreInUse next names

pub record IsDesk (d : Desk) : Type 0 where
  pub names_differ : AllDiffer (λ (n : Named). n.name) d.names
  pub vouchers_differ : AllDiffer (λ (n : Named). n.voucher) d.names
  pub in_use : AreInUse d.next d.names
  pub within : length d.queue ≤ d.limit
  pub few : d.limit ≤ 1024

abbrev pub AreDesks : List Desk → Type 0
AreDesks desks = (task : ℕ) → 1 ≤ task → task ≤ length desks → IsDesk (desk desks task)

-- one empty desk for each limit
abbrev pub empty_desks : List ℕ → List Desk
empty_desks limits = map empty_desk limits

abbrev pub AreLimits : List ℕ → Type 0
AreLimits [] = Unit {0}
AreLimits (n ∷ limits) = (1 ≤ n) × (n ≤ 1024) × AreLimits limits
