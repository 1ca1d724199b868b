-- The parts of a core as plain data. There are no slots and no reference counts: a name and a message have their voucher, with
-- the indices of entries where the machine has handles.
use Rattle.std.specs.Prelude.{ℕ, ◌||◌, not, if◌then◌else◌, Bool, List, [], Option, Some, None, is_some}
use Rattle.vch_base.specs.Keyed.{Keyed}
use Rattle.vch_base.specs.Tasks.{at_task, set_task}
use Rattle.vch_vouchers.specs.Desks.{Voucher, Named}
use Rattle.vch_vouchers.specs.declared.answers.Message.{Message}
use Rattle.vch_model.specs.declared.entry.Entry.{Entry}
use Rattle.vch_machine.specs.State.{is_empty}
use Rattle.vch_frame.specs.declared.tally.Tally.{Tally}
use Rattle.vch_frame.specs.Claims.{is_nothing}
use Rattle.vch_values.specs.Parts.{KeyParts}
use Rattle.vch_parts.specs.declared.frame.Frame.{Frame}

-- a voucher: the index of an entry, or none, at each key
abbrev pub Indices : Type 0
Indices = Voucher

-- a task: its names, the next name, its queue and how many messages that may have, its calls begun, and its frame
pub record Part : Type 0 where
  pub names : List Named
  pub next : ℕ
  pub queue : List Message
  pub limit : ℕ
  pub begun : ℕ
  pub frame : Option Frame

-- the keys, the tasks, the history (the oldest entry first) with the room for more, how many phases have ended, and the tally
pub record Plain : Type 0 where
  pub keyed : Keyed KeyParts
  pub tasks : List Part
  pub history : List Entry
  pub spare : ℕ
  pub phase : ℕ
  pub tally : Tally

-- a task that has done nothing, with no room for messages
abbrev pub idle_part : Part
idle_part = record { names = []; next = 1; queue = []; limit = 0; begun = 0; frame = None }

-- a task by its number
abbrev pub part_of : Plain → ℕ → Part
part_of c t = at_task c.tasks t idle_part

-- with another frame
abbrev pub with_frame : Part → Option Frame → Part
with_frame x f = record x { frame = f }

abbrev pub with_frame_at : Plain → ℕ → Option Frame → Plain
with_frame_at c t f = record c { tasks = set_task c.tasks t (with_frame (part_of c t) f) }

-- whether a frame has something left to do
abbrev pub stays : Frame → Bool
stays f = not f.answered || (is_some f.receipt || (not (is_nothing f.claim) || not (is_empty f.lets)))

-- a frame that has nothing left to do is gone
abbrev pub closed : Frame → Option Frame
closed f = if stays f then Some f else None
