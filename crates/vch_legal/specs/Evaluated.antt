-- What a frame forms is what was evaluated so far.
use Rattle.std.specs.Prelude.{◌≡◌, ℕ, List, Option, Some, None}
use Rattle.vch_machine.specs.State.{Handles, Place, Frame, Machine, valued, value_at}
use Rattle.vch_model.specs.After.{store_of}
use Rattle.vch_base.specs.declared.value.Value.{Value}
use Rattle.vch_base.specs.declared.key.Key.{Key}
use Rattle.vch_base.specs.Managers.{preprocessed}
use Rattle.vch_model.specs.declared.call.Call.{Call}
use Rattle.vch_model.specs.declared.call.Call.TheVariants as calls
use Rattle.vch_model.specs.declared.lists.Scenario.{Scenario}
use Rattle.vch_model.specs.Voucher.{Voucher}
use Rattle.vch_model.specs.Store.{Member, voucher_of, member}
use Rattle.vch_model.specs.Transfer.{received_value}
use Rattle.vch_legal.specs.Tie.{IsEvaluated, WasTransferred, first_in, AsksAt, sent_keys, received_keys}

-- of a create, the records up to its place, with the keys redeemed that are done; of a send, the named voucher with the keys
-- asked that are done, and of a recv that of the first message. No other call forms a voucher
abbrev pub WasEvaluated : Scenario → Member → ℕ → Call → ℕ → List Key → Voucher → Type 0
WasEvaluated sc x t (calls.Create bytes) place keys map = IsEvaluated sc.version (voucher_of x.names) t bytes place keys map
WasEvaluated sc x t (calls.Send to moving name id) place keys map =
    (v : Voucher) × (voucher_of x.names name ≡ Some v) × WasTransferred (preprocessed t) sent_keys v keys map
WasEvaluated sc x t calls.Recv place keys map =
    (v : Voucher) × (first_in x.queue ≡ Some v) × WasTransferred (received_value sc t) received_keys v keys map
WasEvaluated sc x t call place keys map = ⊥

-- the receipt is for the key that is asked at the place, and its handle has the value that the manager answers there
abbrev pub IsAsked : Scenario → Machine → ℕ → Frame → Handles → Call → Option Place → Type 0
IsAsked sc n t f v call None = Unit {0}
IsAsked sc n t f v call (Some q) =
    (y : Value) × (value_at n.live q.key (Some q.handle) ≡ Some y)
    × AsksAt sc (member (store_of sc n.past) t) t call f.at_byte f.keys (valued n.live v) q.key y

-- what a frame forms and asks, by the names and the messages that its task has in the store
abbrev pub IsSoFar : Scenario → Machine → ℕ → Frame → Handles → Call → Option Place → Type 0
IsSoFar sc n t f v call receipt =
    WasEvaluated sc (member (store_of sc n.past) t) t call f.at_byte f.keys (valued n.live v)
    × IsAsked sc n t f v call receipt
