-- What several events do: to a frame, to the history, to the tally, and how a call is answered.
use Rattle.std.specs.Prelude.{ℕ, true, ◌||◌, not, if◌then◌else◌, [], ◌∷◌, ◌++◌, Option, Some, None, is_some, ℤ}
use Rattle.vch_model.specs.Replies.{refused}
use Rattle.vch_model.specs.Words.{word_of}
use Rattle.vch_model.specs.declared.call.Call.{Call}
use Rattle.vch_model.specs.declared.entry.Entry.{Entry}
use Rattle.vch_model.specs.declared.entry.Reply.{Reply}
use Rattle.vch_machine.specs.Naming.{option_places}
use Rattle.vch_machine.specs.State.{Frame, Machine, tasked, with_tasked, is_empty, Tally}
use Rattle.vch_model.specs.declared.entry.Entry.TheVariants as entries

-- a frame whose call is answered, and that has nothing left to do, is gone
abbrev pub closed : Frame → Option Frame
closed f = if not f.answered || (is_some f.receipt || (is_some f.claim || not (is_empty f.lets))) then Some f else
    None

-- with another frame of a task, or none
abbrev pub with_frame : Machine → ℕ → Option Frame → Machine
with_frame m t f = with_tasked m t (record (tasked m t) { frame = f })

-- with an entry appended to the history
abbrev pub noted : Machine → Entry → Machine
noted m e = record m { past = e ∷ m.past }

-- with another tally
abbrev pub tallied : (Tally → Tally) → Machine → Machine
tallied g m = record m { tally = g m.tally }

-- a call is answered: its entry has the number of the call in its task
abbrev pub replied : Machine → ℕ → Call → Reply → Machine
replied m t call reply = noted m (entries.Call t (tasked m t).begun (word_of call) reply)

-- a call with a frame is refused: what it formed is let go
abbrev pub refuse : Machine → ℕ → Frame → Call → ℤ → Machine
refuse m t f call code =
    replied (with_frame m t (closed (record f {
      forming = None;
      answered = true;
      keys = [];
      lets = f.lets ++ option_places f.forming;
    }))) t call (refused code)
