-- Where a call begins.
use Rattle.std.specs.Prelude.{◌≡◌, ℕ, true}
use Rattle.vch_model.specs.declared.lists.Scenario.{Scenario}
use Rattle.vch_model.specs.Lines.{is_task}
use Rattle.vch_machine.specs.State.{Machine}
use Rattle.vch_legal.specs.Tie.{Ties}
use Rattle.vch_parts.specs.Plain.{Plain}
use Rattle.vch_parts.specs.Stands.{StandsFor}

-- a task calls in a state that stands, and the parts of the core stand for that state
pub record Begins (sc : Scenario) (c : Plain) (m : Machine) (t : ℕ) : Type 0 where
  pub stands : StandsFor sc c m
  pub ties : Ties sc m
  pub task : is_task sc t ≡ true
