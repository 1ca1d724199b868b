-- How a call begins.
use Rattle.std.specs.Prelude.{ℕ, ◌==◌, nat_lt, ◌||◌, if◌then◌else◌, [], Option, Some, None}
use Rattle.vch_base.specs.declared.key.Key.TheVariants as keys
use Rattle.vch_base.specs.declared.limits.TheConstants.{ARRAY_BYTES}
use Rattle.vch_model.specs.declared.call.Call.{Call}
use Rattle.vch_model.specs.declared.call.Call.TheVariants as calls
use Rattle.vch_model.specs.declared.lists.Scenario.{Scenario}
use Rattle.vch_machine.specs.Beginning.{begun_one, fresh_frame, key_if, store_reply}
use Rattle.vch_machine.specs.Frames.{replied, with_frame}
use Rattle.vch_machine.specs.State.{Handles, Machine, no_handles, tasked, with_tasked}

-- the task has begun one call more
abbrev pub begun : Machine → ℕ → Machine
begun m t = with_tasked m t (begun_one (tasked m t))

-- a create of so many bytes
abbrev pub begun_create : Scenario → Machine → ℕ → Call → ℕ → Machine
begun_create sc m t call size =
    if (size == 0) || nat_lt ARRAY_BYTES size then replied (begun m t) t call (store_reply sc m t call)
    else with_frame (begun m t) t (Some (fresh_frame no_handles []))

-- a send of a voucher by its name
abbrev pub sent_named : Scenario → Machine → ℕ → Call → Option Handles → Machine
sent_named sc m t call None = replied (begun m t) t call (store_reply sc m t call)
sent_named sc m t call (Some w) = with_frame (begun m t) t (Some (fresh_frame w (key_if keys.Bank w.bank)))

-- a call that only asks, counts or charges: none that creates, drops, sends, receives or exits
abbrev pub IsOther : Call → Type 0
IsOther (calls.Create bytes) = ⊥
IsOther (calls.GiveUp name) = ⊥
IsOther (calls.Extract name key) = Unit {0}
IsOther (calls.Recipes name) = Unit {0}
IsOther (calls.Send to moving name id) = ⊥
IsOther calls.Recv = ⊥
IsOther (calls.Extern name adding n) = Unit {0}
IsOther (calls.Charge name n) = Unit {0}
IsOther calls.Ledger = Unit {0}
IsOther calls.Assertions = Unit {0}
IsOther calls.Live = Unit {0}
IsOther calls.Exit = ⊥
