-- What a history tells in a report, and what makes it one that has a text.
use Rattle.std.specs.Prelude.{◌^◌, ◌<◌, List, reverse}
use Rattle.std.specs.List.{AllByRecursion}
use Rattle.hex.specs.Hex.{IsBytes}
use Rattle.vch_base.specs.declared.value.Value.{Value}
use Rattle.vch_base.specs.declared.value.Value.TheVariants as values
use Rattle.vch_model.specs.declared.entry.Entry.{Entry}
use Rattle.vch_model.specs.declared.entry.Entry.TheVariants as entries
use Rattle.vch_model.specs.declared.lists.Scenario.{Scenario}
use Rattle.vch_model.specs.After.{store_of}
use Rattle.vch_model.specs.Text.{totals_of, vouchers_in, values_in}
use Rattle.vch_model.specs.WellFormed.{IsEntry, IsTotal}

-- what user data has are bytes
abbrev pub IsByteValue : Value → Type 0
IsByteValue (values.User bytes) = IsBytes bytes
IsByteValue x = Unit {0}

-- so of a value that is made
abbrev pub IsByteEntry : Entry → Type 0
IsByteEntry (entries.Made key x) = IsByteValue x
IsByteEntry entry = Unit {0}

-- all that the report of a history tells has a text: each entry, the total of each task, and how many vouchers and values
-- live. The oldest entry is first
pub record IsReportable (sc : Scenario) (history : List Entry) : Type 0 where
  pub entries : AllByRecursion (IsEntry sc.version) history
  pub totals : AllByRecursion IsTotal (totals_of sc (reverse history))
  pub vouchers : vouchers_in (store_of sc (reverse history)) < 2 ^ 64
  pub values : values_in (store_of sc (reverse history)) < 2 ^ 64
