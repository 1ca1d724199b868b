-- Scenarios that end in exits, and what is so after their histories. A history is given with its newest entry first.
use Rattle.std.specs.Prelude.{◌≡◌, ℕ, true, ◌==◌, List, [], ◌∷◌, length}
use Rattle.std.specs.List.{list_any, list_all}
use Rattle.vch_model.specs.declared.call.Line.{Line}
use Rattle.vch_model.specs.declared.entry.Entry.{Entry}
use Rattle.vch_model.specs.declared.lists.Scenario.{Scenario}
use Rattle.vch_model.specs.Lines.{is_task}
use Rattle.vch_model.specs.Store.{member, has_nothing}
use Rattle.vch_model.specs.After.{store_of}
use Rattle.vch_model.specs.Totals as totals
use Rattle.vch_model.specs.Legal.{is_exit}
use Rattle.vch_legal.specs.Conserved.{each_task, accepted}

-- the lines of the last phase
abbrev pub last_phase : List (List Line) → List Line
last_phase [] = []
last_phase (lines ∷ []) = lines
last_phase (lines ∷ next ∷ phases) = last_phase (next ∷ phases)

-- the last phase has exits alone, and at least one of each task
pub record EndsInExits (sc : Scenario) : Type 0 where
  pub exits : list_all (λ (l : Line). is_exit l.call) (last_phase sc.phases) ≡ true
  pub each : (t : ℕ) → is_task sc t ≡ true → list_any (λ (l : Line). l.task == t) (last_phase sc.phases) ≡ true

-- no task has a name or a message, no value but Default is live, no assertion is held or given, and all accepted charges
-- are in ledgers
pub record AllGivenBack (sc : Scenario) (past : List Entry) : Type 0 where
  pub nothing : (t : ℕ) → is_task sc t ≡ true → has_nothing (member (store_of sc past) t) ≡ true
  pub live : (store_of sc past).live ≡ []
  pub held : (t : ℕ) → totals.held sc past t ≡ 0
  pub out : (t : ℕ) → totals.out sc past t ≡ 0
  pub ledgers : accepted sc past ≡ each_task (totals.ledger sc past) (length sc.flags)
