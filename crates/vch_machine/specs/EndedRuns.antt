-- Histories of runs to the end, by a schedule. Memory that was wanted is their one free choice.
use Rattle.std.specs.Prelude.{◌≡◌, ℕ, Bool, true, List, reverse, Some}
use Rattle.vch_model.specs.declared.entry.Entry.{Entry}
use Rattle.vch_model.specs.declared.lists.Scenario.{Scenario}
use Rattle.vch_machine.specs.State.{Machine, start}
use Rattle.vch_machine.specs.Schedules.{Move, run_from_start, has_ended, in_turn, by_seed}

-- the history of some moves that lead to the end
pub record EndsWith (sc : Scenario) (moves : List Move) (history : List Entry) : Type 0 where
  pub m : Machine
  pub run : run_from_start sc moves ≡ Some m
  pub ended : has_ended sc m ≡ true
  pub history_is : history ≡ reverse m.past

-- of the run in turn
pub record IsInTurn (sc : Scenario) (history : List Entry) : Type 0 where
  pub bound : ℕ
  pub wants : ℕ → Bool
  pub run : EndsWith sc (in_turn bound wants sc (Some (start sc))) history

-- of the run by the schedule of a seed
pub record IsBySeed (seed : ℕ) (sc : Scenario) (history : List Entry) : Type 0 where
  pub bound : ℕ
  pub wants : ℕ → Bool
  pub run : EndsWith sc (by_seed bound seed wants sc (Some (start sc))) history
