-- What a history adds up for one value. A history is given with its newest entry first.
use Rattle.std.specs.Prelude.{◌≡◌, ℕ, ◌+◌, ◌-◌, Bool, true, false, if◌then◌else◌, List, ◌∷◌}
use Rattle.vch_base.specs.declared.value.Value.{Value}
use Rattle.vch_base.specs.declared.value.Value.TheVariants as values
use Rattle.vch_model.specs.declared.call.Call.{Call}
use Rattle.vch_model.specs.declared.call.Call.TheVariants as calls
use Rattle.vch_model.specs.declared.entry.Entry.{Entry}
use Rattle.vch_model.specs.declared.lists.Scenario.{Scenario}
use Rattle.vch_model.specs.Totals.{external, due, ledger}

-- the external count of a list, or what is due on an account; other values have neither
abbrev pub amount_of : Scenario → List Entry → Value → ℕ
amount_of sc past (values.Chain list) = external sc past (values.Chain list)
amount_of sc past (values.Account holder merchant) = due sc past (values.Account holder merchant)
amount_of sc past (values.User bytes) = 0
amount_of sc past values.Default = 0
amount_of sc past (values.Task t) = 0

-- an external count with so many more, or fewer
abbrev pub counted_on : Bool → ℕ → ℕ → ℕ
counted_on adding n amount = if adding then amount + n else amount - n

-- the calls that change a count, a due or a ledger where they are accepted
abbrev pub is_counting : Call → Bool
is_counting (calls.Extern name adding n) = true
is_counting (calls.Charge name n) = true
is_counting (calls.Create bytes) = false
is_counting (calls.GiveUp name) = false
is_counting (calls.Extract name key) = false
is_counting (calls.Recipes name) = false
is_counting (calls.Send to moving name id) = false
is_counting calls.Recv = false
is_counting calls.Ledger = false
is_counting calls.Assertions = false
is_counting calls.Live = false
is_counting calls.Exit = false

-- an entry that changes no amount and no ledger
pub record IsUncounted (sc : Scenario) (past : List Entry) (entry : Entry) : Type 0 where
  pub amounts : (x : Value) → amount_of sc (entry ∷ past) x ≡ amount_of sc past x
  pub ledgers : (t : ℕ) → ledger sc (entry ∷ past) t ≡ ledger sc past t
