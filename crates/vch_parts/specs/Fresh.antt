-- What the parts are made of at the start.
use Rattle.std.specs.Prelude.{◌≡◌, ℕ, ◌≤◌, List, [], map}
use Rattle.vch_base.specs.declared.key.Key.{Key}
use Rattle.vch_base.specs.Keyed.{of_key}
use Rattle.vch_model.specs.declared.lists.Scenario.{Scenario}
use Rattle.vch_bounds.specs.Rooms.{room_of}
use Rattle.vch_values.specs.Parts.{IsNew}
use Rattle.vch_parts.specs.Plain.{Plain, Part, idle_part}

-- tasks that have done nothing, with these limits of their queues
abbrev pub fresh_parts : List ℕ → List Part
fresh_parts limits = map (λ l. record idle_part { limit = l }) limits

-- every key and every task is new, nothing happened yet, and there is room in the history for all but values
pub record IsFresh (sc : Scenario) (c : Plain) : Type 0 where
  pub keyed : (k : Key) → IsNew k sc.flags (of_key k c.keyed)
  pub tasks : c.tasks ≡ fresh_parts sc.queues
  pub history : c.history ≡ []
  pub room : room_of sc [] ≤ c.spare
  pub phase : c.phase ≡ 0
  pub tally : c.tally ≡ record { claims = 0; refers = 0; asks = 0 }
