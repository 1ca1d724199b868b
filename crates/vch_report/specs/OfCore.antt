-- What the report of a core tells.
use Rattle.std.specs.Prelude.{◌≡◌, ◌≤◌, List, length, reverse}
use Rattle.vch_base.specs.declared.value.Value.{Value}
use Rattle.vch_base.specs.declared.value.Value.TheVariants as values
use Rattle.vch_model.specs.declared.entry.Entry.{Entry}
use Rattle.vch_model.specs.declared.lists.Scenario.{Scenario}
use Rattle.vch_model.specs.After.{store_of}
use Rattle.vch_model.specs.Text.{totals_of, vouchers_in, values_in}
use Rattle.vch_report.specs.declared.report.Report.{Report}

-- a report tells of this history of the scenario, the oldest entry first, all that its text says
pub record Tells (sc : Scenario) (history : List Entry) (report : Report) : Type 0 where
  pub version : report.version ≡ sc.version
  pub entries : report.history.entries ≡ history
  pub totals : report.totals ≡ totals_of sc (reverse history)
  pub vouchers : report.vouchers ≡ vouchers_in (store_of sc (reverse history))
  pub values : report.values ≡ values_in (store_of sc (reverse history))

-- What a copy of an entry needs.

-- a list of tasks has one
abbrev pub HasTask : Value → Type 0
HasTask (values.Chain list) = 1 ≤ length list
HasTask x = Unit {0}
