-- What is true of the desks of slots at all times.
use Rattle.std.specs.Prelude.{ℕ, ◌≤◌, ◌<◌, ◌==◌, List, Option, Some, None, if◌then◌else◌}
use Rattle.std.specs.List.{AllByRecursion}
use Rattle.vch_ports.specs.declared.space.Named as ports
use Rattle.vch_ports.specs.Names.{Spaced}
use Rattle.vch_ports.specs.Mailbox.{Boxed}
use Rattle.vch_vouchers.specs.declared.desks.SlotDesk.{SlotDesk}

-- a name is from 1, and its user references can be one more
abbrev pub IsSlotName : ports.Named → Type 0
IsSlotName n = (1 ≤ n.name) × (n.references < 4294967295)

pub record IsSlotDesk (d : SlotDesk) : Type 0 where
  pub spaced : Spaced d.space.names d.space.next
  pub names : AllByRecursion IsSlotName d.space.names
  pub next : 1 ≤ d.space.next
  pub boxed : Boxed d.mail

abbrev pub AllSlotDesks : List SlotDesk → Type 0
AllSlotDesks desks = AllByRecursion IsSlotDesk desks

-- the slot of a name that goes with its last user reference
abbrev pub slot_gone : Option ports.Named → Option ℕ
slot_gone None = None
slot_gone (Some x) = if x.references == 1 then Some x.slot else None
