-- What a run on plain lists keeps beside the state.
use Rattle.vch_model.specs.declared.lists.Scenario.{Scenario}
use Rattle.vch_model.specs.Scenarios.{IsLimited}
use Rattle.vch_machine.specs.State.{Machine}
use Rattle.vch_legal.specs.Tie.{Ties}
use Rattle.vch_sums.specs.Summed.{Summed, IsSummed}

-- the state is one of a run of a scenario within the limits, and the sums are those of its history
pub record Keeps (sc : Scenario) (m : Machine) (sums : Summed) : Type 0 where
  pub limited : IsLimited sc
  pub ties : Ties sc m
  pub summed : IsSummed sc m.past sums
