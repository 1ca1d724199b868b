-- Vouchers by the numbers of the Made entries of their values, and the store that lists of them stand for. A history is given
-- with its oldest entry first.
use Rattle.std.specs.Prelude.{◌≡◌, ◌⊎◌, ℕ, ◌-◌, ◌==◌, if◌then◌else◌, List, [], ◌∷◌, map, slice_get, Option, Some, None}
use Rattle.vch_base.specs.declared.key.Key.{Key}
use Rattle.vch_base.specs.declared.key.Key.TheVariants as keys
use Rattle.vch_base.specs.Keys.{number_of}
use Rattle.vch_base.specs.declared.value.Value.{Value}
use Rattle.vch_base.specs.declared.value.Value.TheVariants as values
use Rattle.vch_model.specs.declared.entry.Entry.{Entry}
use Rattle.vch_model.specs.declared.entry.Entry.TheVariants as entries
use Rattle.vch_model.specs.Store as store
use Rattle.vch_model.specs.Store.{Store, Alive}
use Rattle.vch_model.specs.Voucher.{Voucher}
use Rattle.vch_books.specs.declared.numbers.Numbers.{Numbers}
use Rattle.vch_books.specs.declared.rows.Named.{Named}
use Rattle.vch_books.specs.declared.rows.Message.{Message}
use Rattle.vch_books.specs.Desks.{Desk}

-- the voucher without a value
abbrev pub no_numbers : Numbers
no_numbers = record { importance = None; bank = None; user = None; test = None }

-- the number at a key
abbrev pub at_key : Key → Numbers → Option ℕ
at_key keys.Importance v = v.importance
at_key keys.Bank v = v.bank
at_key keys.User v = v.user
at_key keys.Test v = v.test

-- with another number at a key
abbrev pub with_at : Key → Option ℕ → Numbers → Numbers
with_at keys.Importance n v = record v { importance = n }
with_at keys.Bank n v = record v { bank = n }
with_at keys.User n v = record v { user = n }
with_at keys.Test n v = record v { test = n }

-- the entry with a number, counted from 1
abbrev pub entry_at : List Entry → ℕ → Option Entry
entry_at history e = slice_get history (e - 1)

-- what a Made entry made, and at which key
abbrev pub value_made : Option Entry → Value
value_made (Some (entries.Made k x)) = x
value_made entry = values.Default

abbrev pub key_made : Option Entry → ℕ
key_made (Some (entries.Made k x)) = k
key_made entry = 0

-- the value of a number
unfoldable pub numbered_value : List Entry → ℕ → Value
numbered_value history e = if e == 0 then values.Default else value_made (entry_at history e)

abbrev pub numbered_option : List Entry → Option ℕ → Option Value
numbered_option history None = None
numbered_option history (Some e) = Some (numbered_value history e)

-- the voucher of numbers
abbrev pub numbered_voucher : List Entry → Numbers → Voucher
numbered_voucher history v = record {
  importance = numbered_option history v.importance;
  bank = numbered_option history v.bank;
  user = numbered_option history v.user;
  test = numbered_option history v.test;
}

abbrev pub option_voucher : List Entry → Option Numbers → Option Voucher
option_voucher history None = None
option_voucher history (Some v) = Some (numbered_voucher history v)

-- the number is that of a live value
abbrev pub IsAmong : List Alive → ℕ → Type 0
IsAmong [] e = ⊥
IsAmong (l ∷ live) e = (l.made ≡ e) ⊎ IsAmong live e

-- a number stands at a key of a voucher: 0, or that of a live value of the key
abbrev pub StandsAt : List Entry → List Alive → Key → Option ℕ → Type 0
StandsAt history live k None = Unit {0}
StandsAt history live k (Some e) = (e ≡ 0) ⊎ (IsAmong live e × (key_made (entry_at history e) ≡ number_of k))

-- each number of the voucher stands at its key
unfoldable pub Stands : List Entry → List Alive → Numbers → Type 0
Stands history live v = (k : Key) → StandsAt history live k (at_key k v)

abbrev pub OptionStands : List Entry → List Alive → Option Numbers → Type 0
OptionStands history live None = Unit {0}
OptionStands history live (Some v) = Stands history live v

-- What lists of them stand for.

abbrev pub named_of : List Entry → Named → store.Named
named_of history n = record { name = n.name; voucher = numbered_voucher history n.voucher; refs = n.refs }

abbrev pub names_of : List Entry → List Named → List store.Named
names_of history names = map (named_of history) names

abbrev pub message_of : List Entry → Message → store.Message
message_of history q = record { sender = q.sender; id = q.id; voucher = option_voucher history q.voucher }

abbrev pub option_message : List Entry → Option Message → Option store.Message
option_message history None = None
option_message history (Some q) = Some (message_of history q)

abbrev pub queue_of : List Entry → List Message → List store.Message
queue_of history queue = map (message_of history) queue

abbrev pub member_of : List Entry → Desk → store.Member
member_of history d = record { names = names_of history d.names; next = d.next; queue = queue_of history d.queue }

abbrev pub alive_of : List Entry → ℕ → Alive
alive_of history e = record { key = key_made (entry_at history e); value = numbered_value history e; made = e }

abbrev pub live_of : List Entry → List ℕ → List Alive
live_of history live = map (alive_of history) live

abbrev pub store_of_lists : List Entry → List Desk → List ℕ → Store
store_of_lists history tasks live = record { tasks = map (member_of history) tasks; live = live_of history live }
