-- What calls that carry vouchers look at.
use Rattle.std.specs.Prelude.{ℕ, ◌==◌, ◌<◌, ◌^◌, not, if◌then◌else◌, Option, Some, None, is_some, IfSome, IsSome}
use Rattle.vch_base.specs.declared.codes.TheConstants.{MACH_SEND_INVALID_DEST, MACH_SEND_TIMED_OUT, MACH_SEND_INVALID_VOUCHER}
use Rattle.vch_base.specs.declared.fault.Code.{Code}
use Rattle.vch_base.specs.declared.key.Key.{Key}
use Rattle.vch_base.specs.Keyed.{Keyed, of_key}
use Rattle.vch_entry.specs.Entries.{entry_at, refs_of}
use Rattle.vch_model.specs.Lines.{is_task}
use Rattle.vch_model.specs.declared.lists.Scenario.{Scenario}
use Rattle.vch_frame.specs.Indices.{index_of}
use Rattle.vch_values.specs.Parts.{KeyParts}
use Rattle.vch_parts.specs.declared.frame.Frame.{Frame}
use Rattle.vch_parts.specs.Plain.{Indices, Plain}
use Rattle.vch_replies.specs.Replied.{is_full}
use Rattle.vch_replies.specs.Told.{named_by}

-- the voucher that a frame forms, where there is a frame
abbrev pub forming_in : Option Frame → Option Indices
forming_in None = None
forming_in (Some f) = f.forming

-- the entry that a voucher has at a key is there, and can have one reference more
abbrev pub MayShareAt : Keyed KeyParts → Indices → Key → Type 0
MayShareAt x v k = IfSome (index_of k v) (λ i. IsSome (entry_at (of_key k x).entries.slots i) × (refs_of (entry_at (of_key k x).entries.slots i) < 2 ^ 63))

-- so at each key
abbrev pub MayShare : Keyed KeyParts → Indices → Type 0
MayShare x v = (k : Key) → MayShareAt x v k

-- the code with which a send is refused as it begins, or none: it is to no task, without a voucher to a full queue, or of a
-- name that is not there
abbrev pub send_refusal : Scenario → Plain → ℕ → ℕ → ℕ → Option Code
send_refusal sc c t to name =
    if not (is_task sc to) then Some (record { number = MACH_SEND_INVALID_DEST })
    else if name == 0 then (if is_full c to then Some (record { number = MACH_SEND_TIMED_OUT }) else None)
    else if is_some (named_by c t name) then None
    else Some (record { number = MACH_SEND_INVALID_VOUCHER })
