-- What a manager is asked, what it answers, and the room that is made before.
use Rattle.std.specs.Prelude.{◌≡◌, ℕ, ◌+◌, ◌<◌, ◌≤◌, ◌++◌, ◌∷◌, [], slice_set, List, length, Option, Some, None, Result, ℤ}
use Rattle.std.specs.List.{flat_map}
use Rattle.vch_base.specs.declared.key.Key.{Key}
use Rattle.vch_base.specs.declared.manager.GetFault.{GetFault}
use Rattle.vch_base.specs.declared.value.Value.{Value}
use Rattle.vch_base.specs.declared.value.Value.TheVariants as values
use Rattle.vch_base.specs.Keyed.{of_key, with_key}
use Rattle.vch_base.specs.Keys.{number_of}
use Rattle.vch_model.specs.declared.entry.Entry.TheVariants as entries
use Rattle.vch_base.specs.Managers as managers
use Rattle.vch_base.specs.Managers.{answer}
use Rattle.vch_value.specs.declared.flight.Made.{Made}
use Rattle.vch_value.specs.Flight.{Receipt}
use Rattle.vch_value.specs.Picture as picture
use Rattle.vch_value.specs.Picture.{got_picture}
use Rattle.vch_value.specs.Calls.{Makes, got_of, previous_handle}
use Rattle.vch_model.specs.declared.call.Call.{Call}
use Rattle.vch_machine.specs.State.{Machine}
use Rattle.vch_machine.specs.Next.{nth_call}
use Rattle.vch_bounds.specs.Rooms.{room_of}
use Rattle.vch_values.specs.Parts.{HasBytes}
use Rattle.vch_vouchers.specs.Desks.{desk}
use Rattle.vch_parts.specs.declared.frame.Frame.{Frame}
use Rattle.vch_parts.specs.declared.frames.Working.{Working}
use Rattle.vch_parts.specs.declared.parts.Parts.{Parts}
use Rattle.vch_parts.specs.Framed.{frame_of, begun_of}
use Rattle.vch_parts.specs.Pictures.{picture_of, receipts_of}
use Rattle.vch_parts.specs.Plain.{Indices}
use Rattle.vch_parts.specs.Reached.{plain_of, Stands}
use Rattle.vch_making.specs.declared.question.Question.{Question}
use Rattle.vch_table.specs.Indices.{Bounded, SetsIndex}
use Rattle.vch_making.specs.Given.{gave_none}
use Rattle.vch_making.specs.Asked.{question_by, content_by}

-- the receipts of a key that frames have
abbrev pub receipts_in : Key → List Working → List Receipt
receipts_in k frames = flat_map (λ (w : Working). receipts_of k w.frame) frames

-- Questions.

-- what a frame asks
abbrev pub framed_question : Parts → ℕ → ℕ → List Key → Option Indices → Option Question
framed_question p t place ks None = None
framed_question p t place ks (Some u) = question_by p.scenario.version (desk p.vouchers t).names place ks u (nth_call p.scenario t (begun_of p.frames t))

abbrev pub question_with : Parts → ℕ → Option Frame → Option Question
question_with p t None = None
question_with p t (Some f) = framed_question p t f.at f.keys f.forming

-- what a task's call asks
abbrev pub question_of : Parts → ℕ → Option Question
question_of p t = question_with p t (frame_of p.frames t)

-- the place of a frame in the bytes of its call
abbrev pub place_of : Option Frame → ℕ
place_of None = 0
place_of (Some f) = f.at

-- the content that goes with what a task's call asks
abbrev pub content_of : Parts → ℕ → List ℕ
content_of p t = content_by (place_of (frame_of p.frames t)) (nth_call p.scenario t (begun_of p.frames t))

-- what the manager of its key answers
abbrev pub reply_to : Parts → ℕ → Question → Result (Option Value) ℤ
reply_to p t q = answer (of_key q.key p.values).kept.rules t q.command (managers.previous_of (of_key q.key p.values).kept.slots (previous_handle (of_key q.key p.values).entries.slots q.previous)) (content_of p t)

-- Room.

-- there is room for a fresh value of a key: for its Made entry and the Released one that it owes, and for the number of its Made
-- entry at each handle that it may get
pub record HasRoom (k : Key) (p : Parts) : Type 0 where
  pub entries : (m : Machine) → Stands p m → room_of p.scenario m.past + 2 ≤ length m.past + p.history.spare
  pub numbers : length (of_key k p.values).kept.slots < length (of_key k p.values).numbers

-- a value that a manager of bytes would hand out for the first time
abbrev pub IsPrepared : Parts → ℕ → Key → Value → Type 0
IsPrepared p t k x = HasBytes k → x ≡ values.User (content_of p t)

-- The answer.

-- the manager of the key was asked, and this is what it answered
pub record Answers (t : ℕ) (q : Question) (result : Result Made GetFault) (old new : Parts) : Type 0 where
  pub others : new ≡ record old { values = new.values }
  pub keyed : new.values ≡ with_key q.key (of_key q.key new.values) old.values
  pub slots : (of_key q.key new.values).entries.slots ≡ (of_key q.key old.values).entries.slots
  pub places : (of_key q.key old.values).entries.spare ≤ (of_key q.key new.values).entries.spare
  pub numbers : (of_key q.key new.values).numbers ≡ (of_key q.key old.values).numbers
  pub call : Makes (of_key q.key old.values).kept (reply_to old t q) result (of_key q.key new.values).kept
  pub stands : (m : Machine) → Stands old m → picture.Depicts (got_picture (got_of result) (picture_of q.key (plain_of old) m)) (of_key q.key new.values).entries (of_key q.key new.values).kept

-- the history has one Made entry more, and the number of it stands at the handle
pub record NotesMade (k : Key) (h : ℕ) (x : Value) (old new : Parts) : Type 0 where
  pub others : new ≡ record old { history = new.history; values = new.values }
  pub entries : new.history.entries ≡ old.history.entries ++ entries.Made (number_of k) x ∷ []
  pub spare : new.history.spare + 1 ≡ old.history.spare
  pub keyed : new.values ≡ with_key k (of_key k new.values) old.values
  pub slots : (of_key k new.values).entries ≡ (of_key k old.values).entries
  pub kept : (of_key k new.values).kept ≡ (of_key k old.values).kept
  pub numbers : (of_key k new.values).numbers ≡ slice_set (of_key k old.values).numbers h (length old.history.entries + 1)

-- the voucher that a task forms has lost the key, and its call has moved on
pub record IsLoss (t : ℕ) (k : Key) (old new : Parts) : Type 0 where
  pub scenario : new.scenario ≡ old.scenario
  pub plain : (f : Frame) (u : Indices) (call : Call) → frame_of old.frames t ≡ Some f → f.forming ≡ Some u → nth_call old.scenario t (begun_of old.frames t) ≡ Some call
      → (u2 : Indices) × Bounded u2 × SetsIndex u u2 (number_of k) None × (plain_of new ≡ gave_none (plain_of old) t f old.scenario.version call k u u2)
