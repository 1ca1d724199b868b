-- Tasks of a state, and the first message of one.
use Rattle.std.specs.Prelude.{◌≡◌, ◌≤◌, ℕ, Bool, List, [], ◌∷◌, length, Option, Some, None}
use Rattle.vch_model.specs.declared.call.Call.{Call}
use Rattle.vch_model.specs.declared.call.Call.TheVariants as calls
use Rattle.vch_model.specs.declared.lists.Scenario.{Scenario}
use Rattle.vch_machine.specs.Naming.{name_for, name_of, with_name}
use Rattle.vch_machine.specs.State.{Handles, Machine, Message, Tasked, tasked, with_tasked}
use Rattle.vch_plain.specs.declared.machine.Received.{Received}

-- the state has a task with this number
abbrev pub IsTaskOf : Machine → ℕ → Type 0
IsTaskOf m t = (1 ≤ t) × (t ≤ length m.tasks)

-- the task with another queue
abbrev pub left_with : Machine → ℕ → List Message → Tasked
left_with m t queue = record (tasked m t) { queue = queue }

-- the first message is taken, where there is one
abbrev pub TakesMessage : Machine → ℕ → Option Message → Machine → Type 0
TakesMessage old t None new = ((tasked old t).queue ≡ []) × (new ≡ old)
TakesMessage old t (Some q) new =
    (rest : List Message) × ((tasked old t).queue ≡ q ∷ rest) × (new ≡ with_tasked old t (left_with old t rest))

-- the first message is taken, where there is one, and the task gets a name for a voucher
abbrev pub Receives : Machine → ℕ → Handles → Option Received → Machine → Type 0
Receives old t v None new = ((tasked old t).queue ≡ []) × (new ≡ old)
Receives old t v (Some r) new =
    (rest : List Message) × ((tasked old t).queue ≡ r.message ∷ rest)
    × (r.name ≡ name_for (left_with old t rest) (name_of (tasked old t).names v))
    × (new ≡ with_tasked old t (with_name (left_with old t rest) v (name_of (tasked old t).names v)))

-- the queue of the task has a limit
abbrev pub HasLimit : Scenario → ℕ → Type 0
HasLimit sc t = (1 ≤ t) × (t ≤ length sc.queues)

-- each task of the scenario is there, and its queue has a limit
pub record HaveLimits (sc : Scenario) (m : Machine) : Type 0 where
  pub tasks : length m.tasks ≡ length sc.flags
  pub queues : length sc.queues ≡ length sc.flags

-- a send is to a task
abbrev pub SendsToTask : Machine → Call → Type 0
SendsToTask m call = (to : ℕ) (moving : Bool) (name id : ℕ) → call ≡ calls.Send to moving name id → IsTaskOf m to
