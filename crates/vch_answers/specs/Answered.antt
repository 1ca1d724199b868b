-- A call that is answered as it begins.
use Rattle.std.specs.Prelude.{◌≡◌, ◌≢◌, ℕ, ◌+◌, nat_lt, true, Some, None}
use Rattle.vch_base.specs.declared.codes.TheConstants.{KERN_RESOURCE_SHORTAGE}
use Rattle.vch_model.specs.Lines.{lines_until}
use Rattle.vch_machine.specs.Next.{nth_call}
use Rattle.vch_parts.specs.Framed.{frame_of, begun_of}
use Rattle.vch_model.specs.Words.{word_of}
use Rattle.vch_model.specs.declared.call.Call.{Call}
use Rattle.vch_model.specs.declared.call.Word.{Word}
use Rattle.vch_model.specs.declared.entry.Reply.{Reply}
use Rattle.vch_model.specs.declared.entry.Reply.TheVariants as replies
use Rattle.vch_parts.specs.declared.parts.Parts.{Parts}
use Rattle.vch_parts.specs.Reached.{plain_of}
use Rattle.vch_moves.specs.Steps.{answered_first}

-- a reply other than the refusal of a call that is out of memory
abbrev pub IsOtherReply : Reply → Type 0
IsOtherReply (replies.Refused code) = code.number ≢ KERN_RESOURCE_SHORTAGE
IsOtherReply reply = Unit

-- the parts are as after a call with this word that is answered at once, with this reply
pub record Answers (t : ℕ) (word : Word) (reply : Reply) (old new : Parts) : Type 0 where
  pub scenario : new.scenario ≡ old.scenario
  pub plain : (call : Call) → word_of call ≡ word → plain_of new ≡ answered_first (plain_of old) t call reply

-- a task that has no call under way begins this one, of the phases so far
pub record Begins (p : Parts) (t : ℕ) (call : Call) : Type 0 where
  pub free : frame_of p.frames t ≡ None
  pub call_is : nth_call p.scenario t (begun_of p.frames t + 1) ≡ Some call
  pub waits : nat_lt (begun_of p.frames t) (lines_until p.scenario (p.phase + 1) t) ≡ true
