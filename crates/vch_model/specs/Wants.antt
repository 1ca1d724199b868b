-- Where memory may not run out: a legal history, and a call that may not be answered out of memory behind it.
use Rattle.std.specs.Prelude.{◌≡◌, ℕ, false, List, reverse}
use Rattle.vch_model.specs.declared.call.Call.{Call}
use Rattle.vch_model.specs.declared.entry.Entry.{Entry}
use Rattle.vch_model.specs.declared.lists.Scenario.{Scenario}
use Rattle.vch_model.specs.After.{store_of}
use Rattle.vch_model.specs.Legal.{Legal, may_want}

pub record Want : Type 0 where
  pub scenario : Scenario
  pub history : List Entry
  pub task : ℕ
  pub call : Call

pub record IsUnwanted (w : Want) : Type 0 where
  pub legal : Legal w.history w.scenario
  pub unwanted : may_want w.scenario (reverse w.history) (store_of w.scenario (reverse w.history)) w.task w.call ≡ false
