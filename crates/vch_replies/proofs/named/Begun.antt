-- A task of a state that a run reaches may call.
use Rattle.std.proofs.Common.{◌≡◌, ℕ, true}
use Rattle.vch_model.specs.declared.lists.Scenario.{Scenario}
use Rattle.vch_model.specs.Lines.{is_task}
use Rattle.vch_machine.specs.State.{Machine}
use Rattle.vch_legal.proofs.CallerLemmas.{reached_stands}
use Rattle.vch_parts.specs.Plain.{Plain}
use Rattle.vch_parts.specs.Reached.{IsState}
use Rattle.vch_replies.specs.Begins.{Begins}

pub begins : (sc : Scenario) (c : Plain) (m : Machine) (t : ℕ) → IsState sc c m → is_task sc t ≡ true → Begins sc c m t
unfolding IsState
begins sc c m t (moves, run, stands) task = record { stands = stands; ties = reached_stands sc moves m run; task = task }
