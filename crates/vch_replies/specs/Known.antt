-- The vouchers that names and messages have.
use Rattle.std.specs.Prelude.{List, map}
use Rattle.vch_base.specs.declared.key.Key.{Key}
use Rattle.vch_base.specs.Keyed.{Keyed, of_key}
use Rattle.vch_entry.specs.Entries.{IsApart}
use Rattle.vch_vouchers.specs.Desks as desks
use Rattle.vch_vouchers.specs.Desks.{Desk, Voucher}
use Rattle.vch_values.specs.Parts.{KeyParts}
use Rattle.vch_parts.specs.Plain.{Part}

-- the names and the queue of a task
abbrev pub desk_in : Part → Desk
desk_in x = record { names = x.names; next = x.next; queue = x.queue; limit = x.limit }

-- the vouchers of the names and messages of all tasks, as often as they are there
abbrev pub all_vouchers : List Part → List Voucher
all_vouchers parts = desks.all_vouchers (map desk_in parts)

-- no two entries of a key have one handle: so vouchers with one handle at each key are one
abbrev pub AreApart : Keyed KeyParts → Type 0
AreApart x = (k : Key) → IsApart (of_key k x).entries.slots
