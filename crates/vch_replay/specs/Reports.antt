-- What the report of a run to the end tells: all that is in it is of one history, which is whole.
use Rattle.std.specs.Prelude.{ℕ, reverse}
use Rattle.vch_model.specs.declared.lists.Scenario.{Scenario}
use Rattle.vch_model.specs.Legal.{Whole}
use Rattle.vch_machine.specs.PlainRuns.{TellNoWant, IsPlainRun}
use Rattle.vch_machine.specs.EndedRuns.{IsInTurn, IsBySeed}
use Rattle.vch_report.specs.declared.report.Report.{Report}
use Rattle.vch_report.specs.OfCore.{Tells}

-- of the run in turn; where no reply says that memory was out, that is the plain run
pub record IsInTurnReport (sc : Scenario) (report : Report) : Type 0 where
  pub tells : Tells sc report.history.entries report
  pub whole : Whole report.history.entries sc
  pub in_turn : IsInTurn sc report.history.entries
  pub plain : TellNoWant (reverse report.history.entries) → IsPlainRun sc report.history.entries

-- of the run by the schedule of a seed
pub record IsBySeedReport (seed : ℕ) (sc : Scenario) (report : Report) : Type 0 where
  pub tells : Tells sc report.history.entries report
  pub whole : Whole report.history.entries sc
  pub by_seed : IsBySeed seed sc report.history.entries
