-- The desks as they are kept, by the slots of the table, and what the table's vouchers make of them.
use Rattle.std.specs.Prelude.{ℕ, ◌≡◌, ◌≤◌, ◌<◌, ◌+◌, ◌==◌, if◌then◌else◌, List, [], ◌∷◌, ◌++◌, map, length, Option, Some, None, IfSome, option_to_list, option_map}
use Rattle.std.specs.List.{flat_map}
use Rattle.vch_base.specs.Slots.{slot_at, Writes}
use Rattle.vch_base.specs.Tasks.{at_task}
use Rattle.vch_table.specs.declared.table.Cell.{Cell}
use Rattle.vch_table.specs.Vouchers.{references_at, less, given_back}
use Rattle.vch_ports.specs.declared.space.Named as ports
use Rattle.vch_ports.specs.declared.mail.Message as mail
use Rattle.vch_ports.specs.Names.{by_slot, counted}
use Rattle.vch_vouchers.specs.declared.answers.Message.{Message}
use Rattle.vch_vouchers.specs.declared.desks.SlotDesk.{SlotDesk}
use Rattle.vch_vouchers.specs.declared.limits.TheConstants.{MOST, MOST_DESKS}
use Rattle.vch_vouchers.specs.Desks.{Voucher, Named, Desk}

-- the desk of a task
abbrev pub no_desk : SlotDesk
no_desk = record { space = record { names = []; next = 1; spare = 0 }; mail = record { messages = []; limit = 0 } }

abbrev pub slot_desk : List SlotDesk → ℕ → SlotDesk
slot_desk desks task = at_task desks task no_desk

abbrev pub with_mail : SlotDesk → List mail.Message → SlotDesk
with_mail d messages = record d { mail = record d.mail { messages = messages } }

-- What names, messages and desks of slots are.

-- a voucher of the table; a slot that is not live has the empty one
abbrev pub voucher_in : Option Cell → Voucher
voucher_in None = []
voucher_in (Some cell) = cell.indices

unfoldable pub voucher_at : List (Option Cell) → ℕ → Voucher
voucher_at table slot = voucher_in (slot_at table slot)

abbrev pub name_at : List (Option Cell) → ports.Named → Named
name_at table n = record { name = n.name; voucher = voucher_at table n.slot; refs = n.references }

abbrev pub message_at : List (Option Cell) → mail.Message → Message
message_at table q = record { sender = q.sender; id = q.id; voucher = option_map (voucher_at table) q.slot }

abbrev pub desk_at : List (Option Cell) → SlotDesk → Desk
desk_at table d = record { names = map (name_at table) d.space.names; next = d.space.next; queue = map (message_at table) d.mail.messages; limit = d.mail.limit }

unfoldable pub desks_at : List (Option Cell) → List SlotDesk → List Desk
desks_at table desks = map (desk_at table) desks

-- References.

abbrev pub name_slots : List ports.Named → List ℕ
name_slots names = map (λ (n : ports.Named). n.slot) names

abbrev pub message_slots : List mail.Message → List ℕ
message_slots messages = flat_map (λ (q : mail.Message). option_to_list q.slot) messages

-- the slots of all names and messages, as often as they are there
abbrev pub slots_at : SlotDesk → List ℕ
slots_at d = name_slots d.space.names ++ message_slots d.mail.messages

abbrev pub times : ℕ → List ℕ → ℕ
times slot [] = 0
times slot (s ∷ slots) = (if s == slot then 1 else 0) + times slot slots

-- how many names and messages have a slot
unfoldable pub referred : ℕ → List SlotDesk → ℕ
referred slot desks = times slot (flat_map slots_at desks)

-- the references of each slot are the names and messages that have it, and those in the hand of a call that is under way
pub record Balanced (table : List (Option Cell)) (desks : List SlotDesk) (hand : List ℕ) : Type 0 where
  pub counts : (slot : ℕ) → references_at table slot ≡ referred slot desks + times slot hand

-- what is true of the table and the desks between two calls
pub record IsHeld (table : List (Option Cell)) (desks : List SlotDesk) : Type 0 where
  pub balanced : Balanced table desks []
  pub few : length desks ≤ MOST_DESKS

-- What parts of a call do.

-- a slot has one reference less, where there is a slot, and its voucher is handed out with the last
abbrev pub Releases : Option ℕ → List (Option Cell) → Option Voucher → List (Option Cell) → Type 0
Releases None old answer new = (answer ≡ None) × (new ≡ old)
Releases (Some slot) old answer new = IfSome (slot_at old slot) (λ c. (answer ≡ given_back c) × Writes old new slot (less c))

-- the name of a voucher, where there is one, has room for one more user reference
abbrev pub HasRoom : List (Option Cell) → Voucher → List ports.Named → Type 0
HasRoom table v names = (slot : ℕ) (c : Cell) → slot_at table slot ≡ Some c → c.indices ≡ v → counted (by_slot names slot) < MOST
