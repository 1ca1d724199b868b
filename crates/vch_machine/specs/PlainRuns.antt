-- The history of the run in turn in which memory never runs out, and how other runs in turn compare with it.
use Rattle.std.specs.Prelude.{◌≡◌, ℕ, Bool, true, false, List, [], ◌∷◌, reverse, Some}
use Rattle.vch_base.specs.declared.codes.TheConstants.{KERN_RESOURCE_SHORTAGE}
use Rattle.vch_model.specs.declared.entry.Entry.{Entry}
use Rattle.vch_model.specs.declared.entry.Entry.TheVariants as entries
use Rattle.vch_model.specs.declared.entry.Reply.{Reply}
use Rattle.vch_model.specs.declared.entry.Reply.TheVariants as replies
use Rattle.vch_model.specs.declared.lists.Scenario.{Scenario}
use Rattle.vch_machine.specs.State.{Machine, start}
use Rattle.vch_machine.specs.Schedules.{run_from_start, has_ended, in_turn}

-- memory never runs out
abbrev pub never : ℕ → Bool
never n = false

-- the history of the run in turn in which memory never runs out, to its end
pub record IsPlainRun (sc : Scenario) (history : List Entry) : Type 0 where
  pub bound : ℕ
  pub m : Machine
  pub run : run_from_start sc (in_turn bound never sc (Some (start sc))) ≡ Some m
  pub ended : has_ended sc m ≡ true
  pub history_is : history ≡ reverse m.past

-- the reply is out of memory
abbrev pub IsWant : Reply → Type 0
IsWant (replies.Refused code) = code.number ≡ KERN_RESOURCE_SHORTAGE
IsWant (replies.Created name) = ⊥
IsWant replies.Done = ⊥
IsWant (replies.Content bytes) = ⊥
IsWant (replies.Recipe whole bytes) = ⊥
IsWant (replies.Received sender id name) = ⊥
IsWant (replies.Ledger amount) = ⊥
IsWant (replies.Assertions held out) = ⊥
IsWant (replies.Live vouchers values) = ⊥

-- the entry has the reply out of memory
abbrev pub TellsWant : Entry → Type 0
TellsWant (entries.Call task number word reply) = IsWant reply
TellsWant (entries.Made key value) = ⊥
TellsWant (entries.Released made) = ⊥
TellsWant (entries.Gone task name) = ⊥
TellsWant (entries.Lost task) = ⊥
TellsWant entries.Phase = ⊥

-- no entry has it
abbrev pub TellNoWant : List Entry → Type 0
TellNoWant [] = Unit {0}
TellNoWant (e ∷ past) = (TellsWant e → ⊥) × TellNoWant past
