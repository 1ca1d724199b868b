-- The replies to calls that are answered as they begin, told by the parts.
use Rattle.std.specs.Prelude.{ℕ, ◌==◌, nat_lt, ◌||◌, not, Bool, true, if◌then◌else◌, List, [], ◌∷◌, length, Option, Some, None, is_some, Result, Ok, Err, ℤ}
use Rattle.vch_base.specs.declared.codes.TheConstants.{KERN_INVALID_ARGUMENT, KERN_INVALID_CAPABILITY, MACH_SEND_INVALID_DEST, MACH_SEND_TIMED_OUT, MACH_SEND_INVALID_VOUCHER, MACH_RCV_TIMED_OUT}
use Rattle.vch_base.specs.declared.key.Key.TheVariants as keys
use Rattle.vch_base.specs.Keyed.{Keyed}
use Rattle.vch_base.specs.Managers.{value_of}
use Rattle.vch_bank.specs.Bank.{payer_in}
use Rattle.vch_bank.specs.declared.payer.Payer.{Payer}
use Rattle.vch_bank.specs.declared.payer.Payer.TheVariants as payers
use Rattle.vch_importance.specs.Assertions.{more, fewer, counted_by}
use Rattle.vch_model.specs.declared.entry.Reply.{Reply}
use Rattle.vch_model.specs.declared.entry.Reply.TheVariants as replies
use Rattle.vch_model.specs.declared.lists.Scenario.{Scenario}
use Rattle.vch_model.specs.Lines.{is_task}
use Rattle.vch_model.specs.Replies.{refused}
use Rattle.vch_values.specs.Parts.{KeyParts}
use Rattle.vch_vouchers.specs.Desks.{Voucher}
use Rattle.vch_vouchers.specs.declared.answers.Message.{Message}
use Rattle.vch_parts.specs.Plain.{Plain, part_of}
use Rattle.vch_replies.specs.Told.{named_by, live_of}

-- Counts and charges, by the live value that the call is about.

-- done, or refused with the code
abbrev pub done_or : Result ℕ ℤ → Reply
done_or (Ok due) = replies.Done
done_or (Err code) = refused code

abbrev pub changed : Bool → ℕ → ℕ → Result ℕ ℤ
changed adding due n = if adding then more due n else fewer due n

-- an external count changes where the manager of importance lets it
abbrev pub extern_told : Keyed KeyParts → ℕ → Bool → ℕ → Option Voucher → Reply
extern_told x t adding n None = refused KERN_INVALID_CAPABILITY
extern_told x t adding n (Some v) = done_or (counted_by (changed adding) (live_of x keys.Importance v) t n)

-- a charge falls on a ledger or on an account, or is refused
abbrev pub paid_by : Payer → Reply
paid_by payers.Ledger = replies.Done
paid_by payers.Due = replies.Done
paid_by payers.Nobody = refused KERN_INVALID_ARGUMENT

abbrev pub charge_told : Keyed KeyParts → ℕ → Option Voucher → Reply
charge_told x t None = refused KERN_INVALID_CAPABILITY
charge_told x t (Some v) = paid_by (payer_in (value_of (live_of x keys.Bank v)) t)

-- Messages.

-- the queue of a task has as many messages as it may
abbrev pub is_full : Plain → ℕ → Bool
is_full c to = not (nat_lt (length (part_of c to).queue) (part_of c to).limit)

-- a send is to a task, of a voucher that is there or of none, and into a queue that has a place
abbrev pub send_told : Scenario → Plain → ℕ → ℕ → ℕ → Reply
send_told sc c t to name =
    if not (is_task sc to) then refused MACH_SEND_INVALID_DEST
    else if (name == 0) || is_some (named_by c t name) then (if is_full c to then refused MACH_SEND_TIMED_OUT else replies.Done)
    else refused MACH_SEND_INVALID_VOUCHER

-- there is no message, or the first has no voucher
abbrev pub is_bare : List Message → Bool
is_bare [] = true
is_bare (q ∷ queue) = not (is_some q.voucher)

-- a receive that takes no voucher
abbrev pub recv_told : List Message → Reply
recv_told [] = refused MACH_RCV_TIMED_OUT
recv_told (q ∷ queue) = replies.Received q.sender q.id 0
