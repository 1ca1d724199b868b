-- What calls do to the names and the queue of a task of the parts: what is done to its desk, with what a frame lets go of.
use Rattle.std.specs.Prelude.{ℕ, if◌then◌else◌, List, [], map, Option, Some, None}
use Rattle.std.specs.List.{flat_map}
use Rattle.vch_base.specs.declared.key.Key.{Key}
use Rattle.vch_base.specs.Keyed.{Keyed}
use Rattle.vch_base.specs.Keys.{every_key}
use Rattle.vch_entry.specs.Entries.{IsApart}
use Rattle.vch_vouchers.specs.Desks as desks
use Rattle.vch_vouchers.specs.Desks.{Desk, is_known}
use Rattle.vch_frame.specs.declared.frame.KeyIndex.{KeyIndex}
use Rattle.vch_frame.specs.Indices.{index_of}
use Rattle.vch_frame.specs.Releases.{let_at}
use Rattle.vch_values.specs.Parts.{KeyParts}
use Rattle.vch_parts.specs.Plain.{Indices, Part}
use Rattle.vch_parts.specs.Shape.{slots_of}

-- Desks.

-- the desk of a task, and those of all tasks
abbrev pub desk_of : Part → Desk
desk_of x = record { names = x.names; next = x.next; queue = x.queue; limit = x.limit }

abbrev pub desks_of : List Part → List Desk
desks_of tasks = map desk_of tasks

-- a task with another desk
abbrev pub with_desk : Part → Desk → Part
with_desk x d = record x { names = d.names; next = d.next; queue = d.queue; limit = d.limit }

-- a voucher is given to a task
abbrev pub given : Part → Indices → Part
given x v = with_desk x (desks.given (desk_of x) v)

-- the name that a task gets for it
abbrev pub name_of_given : Part → Indices → ℕ
name_of_given x v = desks.name_for (desk_of x) (desks.name_with x.names v)

-- Indices to let go of.

-- the indices of a voucher in rising key, as a frame lets go of them
abbrev pub items : Indices → List KeyIndex
items v = flat_map (λ k. let_at k (index_of k v)) every_key

-- those of a voucher, if there is one
abbrev pub option_items : Option Indices → List KeyIndex
option_items None = []
option_items (Some v) = items v

-- those of a voucher that no name and no message has any more
abbrev pub orphaned : List Part → Option Indices → List KeyIndex
orphaned tasks v = option_items (desks.orphaned (desks_of tasks) v)

-- those of a voucher that a name or a message has already
abbrev pub doubled : List Part → Indices → List KeyIndex
doubled tasks v = if is_known (desks_of tasks) v then items v else []

-- no two entries of a key have one handle
abbrev pub AllApart : Keyed KeyParts → Type 0
AllApart x = (k : Key) → IsApart (slots_of x k)
