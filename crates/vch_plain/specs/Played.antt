-- What is told of a run at its end.
use Rattle.std.specs.Prelude.{◌≡◌, ℕ, List, reverse}
use Rattle.vch_model.specs.declared.entry.Entry.{Entry}
use Rattle.vch_model.specs.declared.lists.Scenario.{Scenario}
use Rattle.vch_model.specs.declared.total.Total.{Total}
use Rattle.vch_model.specs.After.{store_of}
use Rattle.vch_model.specs.Text.{totals_of, vouchers_in, values_in}
use Rattle.vch_model.specs.Totals.{ledger, held, out}
use Rattle.vch_plain.specs.declared.played.Played.{Played}

-- the total of a task after a history
abbrev pub total_at : Scenario → List Entry → ℕ → Total
total_at sc past t = record { ledger = ledger sc past t; held = held sc past t; out = out sc past t }

-- the totals, and how many vouchers and values live, are those of the history, the oldest entry first
pub record IsTold (sc : Scenario) (p : Played) : Type 0 where
  pub told_totals : p.totals ≡ totals_of sc (reverse p.history.entries)
  pub told_vouchers : p.vouchers ≡ vouchers_in (store_of sc (reverse p.history.entries))
  pub told_values : p.values ≡ values_in (store_of sc (reverse p.history.entries))
