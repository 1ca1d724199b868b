-- What a manager's answer leaves of the parts.
use Rattle.std.specs.Prelude.{◌≡◌, ℕ, ◌-◌, ◌≤◌, ◌∷◌, ◌++◌, [], Some, Ok, Bool}
use Rattle.vch_base.specs.declared.key.Key.{Key}
use Rattle.vch_base.specs.Keys.{number_of}
use Rattle.vch_base.specs.Keyed.{of_key, with_key}
use Rattle.vch_base.specs.declared.manager.Got.TheVariants as got
use Rattle.vch_base.specs.declared.value.Value.{Value}
use Rattle.vch_base.specs.Managers.{Handed}
use Rattle.vch_value.specs.Flight.{Receipt}
use Rattle.vch_model.specs.declared.entry.Entry.TheVariants as entries
use Rattle.vch_model.specs.declared.call.Call.{Call}
use Rattle.vch_frame.specs.Indices.{index_of}
use Rattle.vch_frame.specs.Releases.{let_at}
use Rattle.vch_values.specs.Parts.{KeyParts, number_at}
use Rattle.vch_parts.specs.declared.parts.Parts.{Parts}
use Rattle.vch_parts.specs.Moves.{moved_on}
use Rattle.vch_parts.specs.declared.frame.Frame.{Frame}
use Rattle.vch_parts.specs.Plain.{Plain, Indices, with_frame_at}

-- a frame has a receipt of a key
abbrev pub receiving : Frame → Key → Receipt → Frame
receiving f k r = record f { receipt = Some (record { key = k; receipt = r }) }

-- a value that was live is handed out again: the frame has its receipt, and the parts of the key are others
abbrev pub gave : Plain → ℕ → Frame → Key → Receipt → KeyParts → Plain
gave c t f k r x = record (with_frame_at c t (Some (receiving f k r))) { keyed = with_key k x c.keyed }

-- a fresh value is handed out: the history has its Made entry too
abbrev pub gave_fresh : Plain → ℕ → Frame → Key → Receipt → KeyParts → Value → Plain
gave_fresh c t f k r x v = record (gave c t f k r x) {
  history = c.history ++ entries.Made (number_of k) v ∷ [];
  spare = c.spare - 1;
}

-- at the receipt's key, the manager handed out a value, and the entries have the handles that they had
pub record HandsOut (r : Receipt) (fresh : Bool) (v : Value) (old new : KeyParts) : Type 0 where
  pub slots : new.entries.slots ≡ old.entries.slots
  pub handed : Handed old.kept.slots old.kept.free v (Ok (got.Value r.handle fresh r.persist)) new.kept.slots new.kept.free
  pub rest : new.kept ≡ record old.kept { slots = new.kept.slots; free = new.kept.free }

-- no value was handed out: the voucher that the frame forms is another, what it had at the key is to be let go of, and the call
-- is at its next key or record
abbrev pub gave_none : Plain → ℕ → Frame → ℕ → Call → Key → Indices → Indices → Plain
gave_none c t f version call k u u2 = with_frame_at c t (Some (moved_on version call (record f { forming = Some u2; lets = f.lets ++ let_at k (index_of k u) })))

-- at a key there is more room, and nothing else changed
pub record RoomierKey (old new : KeyParts) : Type 0 where
  pub slots : new.entries.slots ≡ old.entries.slots
  pub places : old.entries.spare ≤ new.entries.spare
  pub kept : new.kept ≡ old.kept
  pub numbers : (h : ℕ) → number_at new.numbers h ≡ number_at old.numbers h

-- the parts have more room for values and for their entries, and nothing else changed
pub record IsRoomier (old new : Parts) : Type 0 where
  pub others : new ≡ record old { values = new.values; history = new.history }
  pub entries : new.history.entries ≡ old.history.entries
  pub spare : old.history.spare ≤ new.history.spare
  pub keyed : (k : Key) → RoomierKey (of_key k old.values) (of_key k new.values)
