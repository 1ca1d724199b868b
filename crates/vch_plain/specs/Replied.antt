-- The replies that are needed where a call begins.
use Rattle.std.specs.Prelude.{ℕ, ◌+◌, Bool, true, false, ◌==◌, nat_lt, nat_le, ◌||◌, if◌then◌else◌, length, Option, Some, None, List, [], ◌∷◌}
use Rattle.vch_base.specs.declared.codes.TheConstants.{KERN_FAILURE, MACH_RCV_TIMED_OUT}
use Rattle.vch_base.specs.declared.limits.TheConstants.{ARRAY_BYTES, LAST_WORD}
use Rattle.vch_base.specs.declared.value.Value.{Value}
use Rattle.vch_model.specs.declared.call.Call.{Call}
use Rattle.vch_model.specs.declared.call.Call.TheVariants as calls
use Rattle.vch_model.specs.declared.entry.Reply.{Reply}
use Rattle.vch_model.specs.declared.entry.Reply.TheVariants as replies
use Rattle.vch_model.specs.Replies.{refused}
use Rattle.vch_model.specs.Totals.{last_is, tasks_of}
use Rattle.vch_machine.specs.Beginning.{first_voucher}
use Rattle.vch_machine.specs.State.{Handles, Machine, Message, tasked}

abbrev pub is_none : Option Handles → Bool
is_none None = true
is_none (Some v) = false

-- a create of no bytes or of too many, a receive of no voucher, and every other call is answered as it begins, or else its reply is
-- not looked at
abbrev pub is_replied : Machine → ℕ → Call → Bool
is_replied m t (calls.Create bytes) = (length bytes == 0) || nat_lt ARRAY_BYTES (length bytes)
is_replied m t calls.Recv = is_none (first_voucher (tasked m t).queue)
is_replied m t (calls.GiveUp name) = true
is_replied m t (calls.Extract name key) = true
is_replied m t (calls.Recipes name) = true
is_replied m t (calls.Send to moving name id) = true
is_replied m t (calls.Extern name adding n) = true
is_replied m t (calls.Charge name n) = true
is_replied m t calls.Ledger = true
is_replied m t calls.Assertions = true
is_replied m t calls.Live = true
is_replied m t calls.Exit = true

-- a list of two or more that ends with the task
abbrev pub ends_with : ℕ → Option Value → Bool
ends_with t None = false
ends_with t (Some x) = last_is t (tasks_of x)

-- a change of an external count that stands at an amount
abbrev pub counted : ℕ → Bool → ℕ → Reply
counted amount adding n =
    if adding then (if nat_le (amount + n) LAST_WORD then replies.Done else refused KERN_FAILURE)
    else (if nat_le n amount then replies.Done else refused KERN_FAILURE)

-- a receive that takes no voucher
abbrev pub received : List Message → Reply
received [] = refused MACH_RCV_TIMED_OUT
received (message ∷ queue) = replies.Received message.sender message.id 0

-- the list has the task alone
abbrev pub is_own : ℕ → List ℕ → Bool
is_own t [] = false
is_own t (x ∷ []) = x == t
is_own t (x ∷ y ∷ list) = false
