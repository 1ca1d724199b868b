-- Sums over all tasks of a scenario, the accepted charges of a history, and what is due on live accounts. A history is
-- given with its newest entry first.
use Rattle.std.specs.Prelude.{ℕ, zero, suc, ◌+◌, if◌then◌else◌, List, [], ◌∷◌, Option, Some, None}
use Rattle.std.specs.List.{sum_by}
use Rattle.vch_base.specs.declared.value.Value.{Value}
use Rattle.vch_base.specs.declared.value.Value.TheVariants as values
use Rattle.vch_model.specs.declared.call.Call.{Call}
use Rattle.vch_model.specs.declared.call.Call.TheVariants as calls
use Rattle.vch_model.specs.declared.call.Line.{Line}
use Rattle.vch_model.specs.declared.entry.Entry.{Entry}
use Rattle.vch_model.specs.declared.entry.Entry.TheVariants as entries
use Rattle.vch_model.specs.declared.lists.Scenario.{Scenario}
use Rattle.vch_model.specs.Store.{Alive}
use Rattle.vch_model.specs.After.{store_of}
use Rattle.vch_model.specs.Lines.{line_at}
use Rattle.vch_model.specs.Totals.{is_done, due}

-- a sum over the tasks from 1 up to a number
abbrev pub each_task : (ℕ → ℕ) → ℕ → ℕ
each_task f zero = 0
each_task f (suc n) = each_task f n + f (suc n)

-- the number of a line that charges
abbrev pub charge_in : Option (ℕ × Line) → ℕ
charge_in None = 0
charge_in (Some l) = of_call l.1.call
  where
    of_call : Call → ℕ
    of_call (calls.Charge name n) = n
    of_call call = 0

-- the sum of all charges that were accepted
abbrev pub accepted : Scenario → List Entry → ℕ
accepted sc [] = 0
accepted sc (entries.Call t n w reply ∷ past) = if is_done reply then accepted sc past + charge_in
    (line_at sc t n) else accepted sc past
accepted sc (entry ∷ past) = accepted sc past

-- what is due on a value that is an account
abbrev pub account_due : Scenario → List Entry → Value → ℕ
account_due sc past (values.Account holder merchant) = due sc past (values.Account holder merchant)
account_due sc past x = 0

-- what is due on all live accounts
abbrev pub dues : Scenario → List Entry → ℕ
dues sc past = sum_by (λ (l : Alive). account_due sc past l.value) (store_of sc past).live
