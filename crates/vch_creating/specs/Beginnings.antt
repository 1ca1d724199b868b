-- How a create begins, and what it is at where it ends.
use Rattle.std.specs.Prelude.{◌≡◌, ℕ, Bool, ◌==◌, nat_lt, ◌||◌, if◌then◌else◌, List, length, Option, Some, None}
use Rattle.vch_base.specs.declared.codes.TheConstants.{MIG_ARRAY_TOO_LARGE}
use Rattle.vch_base.specs.declared.limits.TheConstants.{ARRAY_BYTES}
use Rattle.vch_model.specs.Replies.{refused}
use Rattle.vch_model.specs.declared.call.Call.{Call}
use Rattle.vch_model.specs.declared.call.Call.TheVariants as calls
use Rattle.vch_model.specs.declared.entry.Reply.{Reply}
use Rattle.vch_model.specs.declared.entry.Reply.TheVariants as replies
use Rattle.vch_parts.specs.declared.frame.Frame.{Frame}
use Rattle.vch_parts.specs.declared.parts.Parts.{Parts}
use Rattle.vch_parts.specs.Plain.{Indices}
use Rattle.vch_answers.specs.Answered.{Begins}

-- a create of so many bytes is answered without a frame: of none, and of more than the kernel release takes
abbrev pub is_answered : ℕ → Bool
is_answered n = (n == 0) || nat_lt ARRAY_BYTES n

-- and this is its answer: no voucher for no bytes, else a refusal
abbrev pub create_answer : ℕ → Reply
create_answer n = if nat_lt ARRAY_BYTES n then refused MIG_ARRAY_TOO_LARGE else replies.Created 0

-- a task begins a create of so many bytes
pub record BeginsCreate (n : ℕ) (p : Parts) (t : ℕ) : Type 0 where
  pub bytes : List ℕ
  pub long : length bytes ≡ n
  pub begins : Begins p t (calls.Create bytes)

-- the call is a create
abbrev pub IsCreating : Option Call → Type 0
IsCreating (Some (calls.Create bytes)) = Unit {0}
IsCreating call = ⊥

-- the voucher that a frame forms, where there is a frame
abbrev pub forming_in : Option Frame → Option Indices
forming_in None = None
forming_in (Some f) = f.forming
