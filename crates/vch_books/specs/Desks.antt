-- What a task has, with each voucher by its numbers. The definitions are those of the store, on numbers.
use Rattle.std.specs.Prelude.{◌≡◌, ◌⊎◌, ◌<◌, ◌≤◌, ℕ, suc, ◌+◌, ◌-◌, Bool, true, false, ◌==◌, nat_lt, ◌&&◌, if◌then◌else◌, List, [], ◌∷◌, ◌++◌, take, drop, min, slice_set, slice_index_or, Option, Some, None}
use Rattle.vch_books.specs.declared.numbers.Numbers.{Numbers}
use Rattle.vch_books.specs.declared.rows.Named.{Named}
use Rattle.vch_books.specs.declared.rows.Message.{Message}

-- its names in the order in which they were given, the next name, its messages, and how many calls of it were taken
pub record Desk : Type 0 where
  pub names : List Named
  pub next : ℕ
  pub queue : List Message
  pub begun : ℕ

abbrev pub empty_desk : Desk
empty_desk = record { names = []; next = 1; queue = []; begun = 0 }

abbrev pub same_option : Option ℕ → Option ℕ → Bool
same_option None None = true
same_option (Some a) (Some b) = a == b
same_option a b = false

abbrev pub same_numbers : Numbers → Numbers → Bool
same_numbers v w =
    same_option v.importance w.importance
    && (same_option v.bank w.bank && (same_option v.user w.user && same_option v.test w.test))

-- the voucher of a name
abbrev pub numbers_at : List Named → ℕ → Option Numbers
numbers_at [] name = None
numbers_at (n ∷ names) name = if n.name == name then Some n.voucher else numbers_at names name

-- the name that a voucher has
abbrev pub name_with : List Named → Numbers → Option ℕ
name_with [] v = None
name_with (n ∷ names) v = if same_numbers n.voucher v then Some n.name else name_with names v

abbrev pub one_more : List Named → ℕ → List Named
one_more [] name = []
one_more (n ∷ names) name = if n.name == name then record n { refs = n.refs + 1 } ∷ names else n ∷ one_more names name

abbrev pub one_less : List Named → ℕ → List Named
one_less [] name = []
one_less (n ∷ names) name =
    if n.name == name then (if nat_lt 1 n.refs then record n { refs = n.refs - 1 } ∷ names else names)
    else n ∷ one_less names name

-- the voucher whose name goes with its last reference
abbrev pub gone_with : List Named → ℕ → Option Numbers
gone_with [] name = None
gone_with (n ∷ names) name =
    if n.name == name then (if nat_lt 1 n.refs then None else Some n.voucher)
    else gone_with names name

abbrev pub without_name : List Named → ℕ → List Named
without_name [] name = []
without_name (n ∷ names) name = if n.name == name then names else n ∷ without_name names name

abbrev pub lower : ℕ → Option ℕ → ℕ
lower name None = name
lower name (Some other) = min name other

abbrev pub lowest : List Named → Option ℕ
lowest [] = None
lowest (n ∷ names) = Some (lower n.name (lowest names))

-- the name that a voucher gets
abbrev pub name_for : Desk → Option ℕ → ℕ
name_for d None = d.next
name_for d (Some name) = name

abbrev pub with_name : Desk → Numbers → Option ℕ → Desk
with_name d v None = record d { names = d.names ++ record { name = d.next; voucher = v; refs = 1 } ∷ []; next = d.next + 1 }
with_name d v (Some name) = record d { names = one_more d.names name }

abbrev pub given : Desk → Numbers → Desk
given d v = with_name d v (name_with d.names v)

-- the voucher of the first message, where it has one
abbrev pub first_voucher : List Message → Option Numbers
first_voucher [] = None
first_voucher (q ∷ queue) = q.voucher

-- a name at a place has a reference less, or is gone
abbrev pub IsLess : List Named → ℕ → List Named → Option Numbers → Type 0
IsLess old i new gone = (n : Named) × (n ≡ slice_index_or old i n)
    × (((1 < n.refs) × (new ≡ slice_set old i (record n { refs = n.refs - 1 })) × (gone ≡ None))
    ⊎ ((n.refs ≤ 1) × (new ≡ take i old ++ drop (suc i) old) × (gone ≡ Some n.voucher)))
