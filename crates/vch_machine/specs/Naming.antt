-- Names, vouchers of handles and their handles in order.
use Rattle.std.specs.List.{list_any, list_all, flat_map}
use Rattle.std.specs.Prelude.{ℕ, ◌+◌, ◌-◌, Bool, true, false, ◌==◌, nat_lt, ◌||◌, not, if◌then◌else◌, List, [], ◌∷◌, ◌++◌, Option, Some, None}
use Rattle.vch_base.specs.Keys.{every_key}
use Rattle.vch_base.specs.Keyed.{of_key}
use Rattle.vch_model.specs.Store.{lower}
use Rattle.vch_base.specs.declared.key.Key.{Key}
use Rattle.vch_machine.specs.State.{Handles, Place, Named, Message, Tasked, Machine}

-- the voucher of a name, or none where the name is not there
abbrev pub handles_of : List Named → ℕ → Option Handles
handles_of [] name = None
handles_of (n ∷ names) name = if n.name == name then Some n.voucher else handles_of names name

-- both are none, or one handle
abbrev pub same_handle : Option ℕ → Option ℕ → Bool
same_handle None None = true
same_handle (Some a) (Some b) = a == b
same_handle x y = false

-- the vouchers have the same handles, so they are one voucher
abbrev pub same_handles : Handles → Handles → Bool
same_handles a b = list_all (λ k. same_handle (of_key k a) (of_key k b)) every_key

-- the name of a voucher, or none where no name has it
abbrev pub name_of : List Named → Handles → Option ℕ
name_of [] v = None
name_of (n ∷ names) v = if same_handles n.voucher v then Some n.name else name_of names v

-- a name with one more user reference
abbrev pub one_more : List Named → ℕ → List Named
one_more [] name = []
one_more (n ∷ names) name = if n.name == name then record n { refs = n.refs + 1 } ∷ names else n ∷ one_more names name

-- a name with one user reference less; the name is gone with its last
abbrev pub one_less : List Named → ℕ → List Named
one_less [] name = []
one_less (n ∷ names) name =
    if n.name == name then (if nat_lt 1 n.refs then record n { refs = n.refs - 1 } ∷ names else names) else n ∷
    one_less names name

-- the lowest name, where there is one
abbrev pub lowest : List Named → Option ℕ
lowest [] = None
lowest (n ∷ names) = Some (lower n.name (lowest names))

-- without a name, whatever its user references
abbrev pub without_name : List Named → ℕ → List Named
without_name [] name = []
without_name (n ∷ names) name = if n.name == name then names else n ∷ without_name names name

-- the name that a task gets for a voucher: the one it has, else the next
abbrev pub name_for : Tasked → Option ℕ → ℕ
name_for x None = x.next
name_for x (Some name) = name

-- the task with a name for the voucher: one user reference more on the name that has it, else a new name
abbrev pub with_name : Tasked → Handles → Option ℕ → Tasked
with_name x v None = record x {
  names = x.names ++ record { name = x.next; voucher = v; refs = 1 } ∷ [];
  next = x.next
      + 1;
}
with_name x v (Some name) = record x { names = one_more x.names name }

-- the voucher of a message is this one
abbrev pub option_same : Option Handles → Handles → Bool
option_same None v = false
option_same (Some w) v = same_handles w v

-- a name or a message of the task has the voucher
abbrev pub task_knows : Handles → Tasked → Bool
task_knows v x = list_any (λ (n : Named). same_handles n.voucher v) x.names || list_any
    (λ (q : Message). option_same q.voucher v) x.queue

-- a name or a message of some task has the voucher
abbrev pub is_known : Machine → Handles → Bool
is_known m v = list_any (task_knows v) m.tasks

-- a handle at a key as a list
abbrev pub item : Key → Option ℕ → List Place
item k None = []
item k (Some h) = record { key = k; handle = h } ∷ []

-- the handles of a voucher, in rising key
abbrev pub places : Handles → List Place
places v = flat_map (λ k. item k (of_key k v)) every_key

-- the same where there may be none
abbrev pub option_places : Option Handles → List Place
option_places None = []
option_places (Some v) = places v

-- the handles of a voucher that no name and no message has any more
abbrev pub orphaned : Machine → Option Handles → List Place
orphaned m None = []
orphaned m (Some v) = if is_known m v then [] else places v

-- the handles of a voucher that a name or a message has already
abbrev pub doubled : Machine → Handles → List Place
doubled m v = if is_known m v then places v else []
