-- Calls that change what is due on the value that a named voucher has at a key.
use Rattle.std.specs.Prelude.{◌≡◌, ℕ, ◌+◌, [], ◌∷◌, ◌++◌, Option, Some, None, Result, Ok, Err, ℤ}
use Rattle.vch_base.specs.declared.codes.TheConstants.{KERN_INVALID_ARGUMENT, KERN_INVALID_CAPABILITY}
use Rattle.vch_base.specs.declared.key.Key.{Key}
use Rattle.vch_base.specs.Keyed.{Keyed, of_key}
use Rattle.vch_model.specs.declared.call.Word.{Word}
use Rattle.vch_model.specs.declared.entry.Entry.TheVariants as entries
use Rattle.vch_model.specs.declared.entry.Reply.{Reply}
use Rattle.vch_frame.specs.Indices.{index_of}
use Rattle.vch_values.specs.Parts.{KeyParts}
use Rattle.vch_vouchers.specs.Desks.{Voucher, desk, voucher_of}
use Rattle.vch_parts.specs.declared.parts.Parts.{Parts}
use Rattle.vch_parts.specs.Framed.{begun_of, with_begun_of}
use Rattle.vch_replies.specs.Left.{recounted}
use Rattle.vch_replies.specs.Told.{handle_in}

-- the handle of the value that a voucher has at a key, or the code where it has none there, or where there is no voucher
abbrev pub handle_or : Option ℕ → Result ℕ ℤ
handle_or None = Err KERN_INVALID_ARGUMENT
handle_or (Some h) = Ok h

abbrev pub handle_of : Keyed KeyParts → Key → Option Voucher → Result ℕ ℤ
handle_of x k None = Err KERN_INVALID_CAPABILITY
handle_of x k (Some v) = handle_or (handle_in (of_key k x) (index_of k v))

-- of the voucher that a task names
abbrev pub named_handle : Parts → ℕ → ℕ → Key → Result ℕ ℤ
named_handle p t name k = handle_of p.values k (voucher_of (desk p.vouchers t).names name)

-- an accepted change of an external count sets it, and a refused one leaves all as it was
abbrev pub recounted_by : Keyed KeyParts → ℕ → Result ℕ ℤ → Keyed KeyParts
recounted_by x h (Ok due) = recounted x h due
recounted_by x h (Err code) = x

-- a task's next call counts as begun, and its answer is noted
pub record Notes (t : ℕ) (word : Word) (reply : Reply) (old new : Parts) : Type 0 where
  pub others : new ≡ record old { frames = new.frames; history = new.history }
  pub frames : new.frames ≡ with_begun_of old.frames t
  pub entries : new.history.entries ≡ old.history.entries ++ entries.Call t (begun_of old.frames t + 1) word reply ∷ []
  pub spare : new.history.spare + 1 ≡ old.history.spare
