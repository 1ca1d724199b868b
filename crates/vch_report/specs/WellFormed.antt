-- The reports that have a text. It is this project's own.
use Rattle.std.specs.Prelude.{◌≡◌, ◌⊎◌, ℕ, ◌^◌, ◌<◌, ◌≤◌, length}
use Rattle.std.specs.List.{AllByRecursion}
use Rattle.vch_base.specs.declared.value.Value.{Value}
use Rattle.vch_model.specs.declared.entry.Entry.{Entry}
use Rattle.vch_model.specs.declared.entry.Entry.TheVariants as entries
use Rattle.vch_model.specs.WellFormed.{IsEntry, IsTotal}
use Rattle.vch_report.specs.declared.report.Report.{Report}

-- the versions of the texts
abbrev pub IsVersion : ℕ → Type 0
IsVersion version = (version ≡ 1) ⊎ (version ≡ 2)

-- of a value that is made
abbrev pub Making : (Value → Type 0) → Entry → Type 0
Making p (entries.Made key x) = p x
Making p entry = Unit {0}

-- a report that has a text: each entry is one of its version. There is no bound of 64 tasks, and its history need not be
-- legal
pub record IsWellFormed (report : Report) : Type 0 where
  pub version : IsVersion report.version
  pub entries : AllByRecursion (IsEntry report.version) report.history.entries
  pub totals : AllByRecursion IsTotal report.totals
  pub some_task : 1 ≤ length report.totals
  pub numbered : length report.totals < 2 ^ 32
  pub vouchers : report.vouchers < 2 ^ 64
  pub values : report.values < 2 ^ 64
