-- A call that is under way and is refused.
use Rattle.std.specs.Prelude.{◌≡◌, ◌≢◌, ℕ, ℤ, Some}
use Rattle.vch_base.specs.declared.codes.TheConstants.{KERN_RESOURCE_SHORTAGE}
use Rattle.vch_base.specs.declared.fault.Code.{Code}
use Rattle.vch_model.specs.declared.call.Call.{Call}
use Rattle.vch_machine.specs.Next.{nth_call}
use Rattle.vch_parts.specs.declared.frame.Frame.{Frame}
use Rattle.vch_parts.specs.declared.parts.Parts.{Parts}
use Rattle.vch_parts.specs.Framed.{frame_of, begun_of}
use Rattle.vch_parts.specs.Reached.{plain_of}
use Rattle.vch_moves.specs.Steps.{refused_call}

-- a code other than that of being out of memory
abbrev pub IsOther : Code → Type 0
IsOther code = code.number ≢ KERN_RESOURCE_SHORTAGE

-- the task's call is answered with the code, and what it formed is to be let go of
pub record IsRefused (t : ℕ) (code : ℤ) (old new : Parts) : Type 0 where
  pub scenario : new.scenario ≡ old.scenario
  pub plain : (f : Frame) (call : Call) → frame_of old.frames t ≡ Some f → nth_call old.scenario t (begun_of old.frames t) ≡ Some call
      → plain_of new ≡ refused_call (plain_of old) t f call code
