-- Which event of a task is next, by what the parts have of it.
use Rattle.std.specs.Prelude.{ℕ, ◌+◌, ◌≤◌, ◌==◌, nat_lt, if◌then◌else◌, List, [], length, drop, Option, Some, None}
use Rattle.vch_base.specs.declared.key.Key.{Key}
use Rattle.vch_base.specs.declared.key.TheConstants.{ALL_KEYS}
use Rattle.vch_base.specs.declared.kind.Kind.{Kind}
use Rattle.vch_base.specs.declared.kind.Kind.TheVariants as kinds
use Rattle.vch_recipe.specs.Recipes.{First, One, first_of}
use Rattle.vch_model.specs.Legal.{asks}
use Rattle.vch_model.specs.Lines.{lines_until}
use Rattle.vch_model.specs.Voucher.{Voucher, nothing}
use Rattle.vch_model.specs.declared.call.Call.{Call}
use Rattle.vch_model.specs.declared.call.Call.TheVariants as calls
use Rattle.vch_model.specs.declared.lists.Scenario.{Scenario}
use Rattle.vch_machine.specs.Making.{tail_keys, keys_left}
use Rattle.vch_machine.specs.Next.{nth_call}
use Rattle.vch_machine.specs.State.{is_empty}
use Rattle.vch_frame.specs.declared.frame.KeyReceipt.{KeyReceipt}
use Rattle.vch_frame.specs.Claims.{claim_kind}
use Rattle.vch_vouchers.specs.Desks.{Named, voucher_of}
use Rattle.vch_parts.specs.declared.frame.Frame.{Frame}
use Rattle.vch_parts.specs.Plain.{Indices}

-- Events of a value.

-- a receipt comes first, then a claim, and what is to be let go of last
abbrev pub receipt_kind : Frame → Option KeyReceipt → Option Kind
receipt_kind f None = claim_kind f.lets f.claim
receipt_kind f (Some r) = Some kinds.Refer

abbrev pub value_kind : Option Frame → Option Kind
value_kind None = None
value_kind (Some f) = receipt_kind f f.receipt

-- a create is not behind its array
abbrev pub IsInside : ℕ → Call → Type 0
IsInside at (calls.Create bytes) = at ≤ length bytes
IsInside at call = Unit {0}

-- the keys behind the one that a record with this key asks: none, but of a record that redeems all keys
abbrev pub keys_behind : ℕ → ℕ → List Key → List Key
keys_behind version key ks = if key == ALL_KEYS then tail_keys (keys_left version ks) else []

-- Of a call that is not answered.

-- some voucher where the name is there, to ask only whether it is there
abbrev pub known : Option Indices → Option Voucher
known None = None
known (Some v) = Some nothing

abbrev pub known_name : List Named → ℕ → Option Voucher
known_name names n = known (voucher_of names n)

-- of a create at its next record
abbrev pub record_kind : ℕ → List Named → First → Kind
record_kind version names (One r rest) = if asks version (known_name names) r then kinds.Make else kinds.Work
record_kind version names First.End = kinds.Place
record_kind version names (First.HeaderCut left) = kinds.Work
record_kind version names (First.ContentCut wanted left) = kinds.Work

-- a create is at a record, an exit gives up one thing an event, and any other asks its keys
abbrev pub call_kind : ℕ → List Named → ℕ → List Key → Option Call → Option Kind
call_kind version names place ks None = None
call_kind version names place ks (Some (calls.Create bytes)) = Some (record_kind version names (first_of (drop place bytes)))
call_kind version names place ks (Some calls.Exit) = Some kinds.Work
call_kind version names place ks (Some call) = if is_empty ks then Some kinds.Place else Some kinds.Make

abbrev pub open_kind : ℕ → List Named → Option Call → Frame → Option Kind
open_kind version names call f = if f.answered then None else call_kind version names f.at f.keys call

-- the kind that there is, or else the other
abbrev pub first_kind : Option Kind → Option Kind → Option Kind
first_kind (Some kind) other = Some kind
first_kind None other = other

-- of a task, by its names, its calls begun and its frame
abbrev pub task_kind : Scenario → List Named → ℕ → ℕ → ℕ → Option Frame → Option Kind
task_kind sc names t phase begun None = if nat_lt begun (lines_until sc (phase + 1) t) then Some kinds.Begin else None
task_kind sc names t phase begun (Some f) = first_kind (value_kind (Some f)) (open_kind sc.version names (nth_call sc t begun) f)
