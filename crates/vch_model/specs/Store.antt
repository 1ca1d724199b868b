-- The sequential store.
use Rattle.std.specs.Prelude.{ℕ, ◌+◌, ◌-◌, Bool, true, false, ◌==◌, nat_lt, ◌&&◌, ◌||◌, if◌then◌else◌, List, [], ◌∷◌, ◌++◌, length, map, min, not, Option, Some, None}
use Rattle.std.specs.List.{list_any, list_all}
use Rattle.vch_base.specs.declared.key.Key.{Key}
use Rattle.vch_base.specs.Keys.{number_of, every_key, key_numbered}
use Rattle.vch_base.specs.Keyed.{of_key}
use Rattle.vch_base.specs.declared.limits.TheConstants.{USUAL_QUEUE}
use Rattle.vch_base.specs.Tasks.{at_task, set_task}
use Rattle.vch_base.specs.declared.value.Value.{Value}
use Rattle.vch_model.specs.declared.lists.Scenario.{Scenario}
use Rattle.vch_model.specs.Voucher.{Voucher, equal_options, equal_vouchers}
use Rattle.vch_base.specs.Values.{equal_values, is_default}

-- a name of a task
pub record Named : Type 0 where
  pub name : ℕ
  pub voucher : Voucher
  pub refs : ℕ

-- a queued message
pub record Message : Type 0 where
  pub sender : ℕ
  pub id : ℕ
  pub voucher : Option Voucher

-- what a task has
pub record Member : Type 0 where
  pub names : List Named
  pub next : ℕ
  pub queue : List Message

-- a live value, and the number of its Made entry
pub record Alive : Type 0 where
  pub key : ℕ
  pub value : Value
  pub made : ℕ

pub record Store : Type 0 where
  pub tasks : List Member
  pub live : List Alive

abbrev pub nobody : Member
nobody = record { names = []; next = 1; queue = [] }

-- no names, no messages, and only the default is live
abbrev pub start : Scenario → Store
start sc = record { tasks = map (λ _. nobody) sc.flags; live = [] }

abbrev pub member : Store → ℕ → Member
member s t = at_task s.tasks t nobody

abbrev pub set_member : Store → ℕ → Member → Store
set_member s t m = record s { tasks = set_task s.tasks t m }

-- how many messages the queue of a task may have, and whether it has them. The limits are this project's own
abbrev pub limit_of : Scenario → ℕ → ℕ
limit_of sc t = at_task sc.queues t USUAL_QUEUE

abbrev pub is_full : Scenario → Store → ℕ → Bool
is_full sc s t = not (nat_lt (length (member s t).queue) (limit_of sc t))

-- the voucher of a name
abbrev pub voucher_of : List Named → ℕ → Option Voucher
voucher_of [] name = None
voucher_of (n ∷ names) name = if n.name == name then Some n.voucher else voucher_of names name

-- the name that a voucher has
abbrev pub name_of : List Named → Voucher → Option ℕ
name_of [] v = None
name_of (n ∷ names) v = if equal_vouchers n.voucher v then Some n.name else name_of names v

-- one more user reference at a name
abbrev pub one_more : List Named → ℕ → List Named
one_more [] name = []
one_more (n ∷ names) name = if n.name == name then record n { refs = n.refs + 1 } ∷ names else n ∷ one_more names name

-- one user reference less at a name, which is gone with the last
abbrev pub one_less : List Named → ℕ → List Named
one_less [] name = []
one_less (n ∷ names) name =
    if n.name == name then (if nat_lt 1 n.refs then record n { refs = n.refs - 1 } ∷ names else names)
    else n ∷ one_less names name

-- the name that a voucher gets where it is given to a task
abbrev pub name_for : Member → Option ℕ → ℕ
name_for m None = m.next
name_for m (Some name) = name

abbrev pub with_name : Member → Voucher → Option ℕ → Member
with_name m v None = record m { names = m.names ++ record { name = m.next; voucher = v; refs = 1 } ∷ []; next = m.next + 1 }
with_name m v (Some name) = record m { names = one_more m.names name }

abbrev pub gives_name : Store → ℕ → Voucher → ℕ
gives_name s t v = name_for (member s t) (name_of (member s t).names v)

abbrev pub given : Store → ℕ → Voucher → Store
given s t v = set_member s t (with_name (member s t) v (name_of (member s t).names v))

-- the lower of a name and of one that may not be there
abbrev pub lower : ℕ → Option ℕ → ℕ
lower name None = name
lower name (Some other) = min name other

-- the lowest name, where there is one
abbrev pub lowest : List Named → Option ℕ
lowest [] = None
lowest (n ∷ names) = Some (lower n.name (lowest names))

-- without a name, whatever its user references
abbrev pub without_name : List Named → ℕ → List Named
without_name [] name = []
without_name (n ∷ names) name = if n.name == name then names else n ∷ without_name names name

abbrev pub is_empty : {A : Type 0} → List A → Bool
is_empty [] = true
is_empty (x ∷ xs) = false

-- a task without a name and without a message
abbrev pub has_nothing : Member → Bool
has_nothing m = is_empty m.names && is_empty m.queue

-- the voucher has the value at the key
abbrev pub has_value : Key → Value → Voucher → Bool
has_value k x v = equal_options (of_key k v) (Some x)

abbrev pub message_has : Key → Value → Option Voucher → Bool
message_has k x None = false
message_has k x (Some v) = has_value k x v

-- a name or a queued message has a voucher with the value at the key
abbrev pub is_held_at : Store → Key → Value → Bool
is_held_at s k x = list_any (λ m. list_any (λ n. has_value k x n.voucher) m.names || list_any (λ q. message_has k x q.voucher) m.queue) s.tasks

abbrev pub is_held_by : Store → Option Key → Value → Bool
is_held_by s None x = false
is_held_by s (Some k) x = is_held_at s k x

abbrev pub is_held : Store → ℕ → Value → Bool
is_held s k x = is_held_by s (key_numbered k) x

abbrev pub is_alive : ℕ → Value → Alive → Bool
is_alive k x l = (l.key == k) && equal_values l.value x

abbrev pub is_live : Store → ℕ → Value → Bool
is_live s k x = is_default x || list_any (is_alive k x) s.live

-- the value at each key is live
abbrev pub option_live : Store → ℕ → Option Value → Bool
option_live s k None = true
option_live s k (Some x) = is_live s k x

abbrev pub all_live : Store → Voucher → Bool
all_live s v = list_all (λ k. option_live s (number_of k) (of_key k v)) every_key
