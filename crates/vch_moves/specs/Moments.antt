-- What a task is at when an event of a call comes.
use Rattle.std.specs.Prelude.{◌≡◌, ℕ, ◌+◌, ◌-◌, ◌<◌, ◌≤◌, length, Some, None}
use Rattle.vch_model.specs.declared.call.Call.{Call}
use Rattle.vch_model.specs.declared.entry.Entry.TheVariants as entries
use Rattle.vch_model.specs.declared.entry.Reply.{Reply}
use Rattle.vch_model.specs.declared.lists.Scenario.{Scenario}
use Rattle.vch_model.specs.Words.{word_of}
use Rattle.vch_machine.specs.State as machine
use Rattle.vch_machine.specs.State.{Handles, Machine, tasked}
use Rattle.vch_legal.specs.ValueAmounts.{IsUncounted}
use Rattle.vch_parts.specs.declared.frame.Frame.{Frame}
use Rattle.vch_parts.specs.Plain.{Indices, Plain, part_of}
use Rattle.vch_parts.specs.Shape.{IsFrame, IsMap}
use Rattle.vch_parts.specs.Stands.{StandsFor}
use Rattle.vch_moves.specs.Steps.{IsIdle}

-- the parts stand for the state, and a task has no call under way
pub record IsFree (sc : Scenario) (c : Plain) (m : Machine) (t : ℕ) : Type 0 where
  pub stands : StandsFor sc c m
  pub positive : 0 < t
  pub inside : t - 1 < length c.tasks
  pub own : (part_of c t).frame ≡ None
  pub task : (tasked m t).frame ≡ None

-- the parts stand for the state, and a task has a call under way with nothing in hand
pub record IsAtWork (sc : Scenario) (c : Plain) (m : Machine) (t : ℕ) (f : Frame) (g : machine.Frame) : Type 0 where
  pub stands : StandsFor sc c m
  pub positive : 0 < t
  pub inside : t - 1 < length c.tasks
  pub own : (part_of c t).frame ≡ Some f
  pub task : (tasked m t).frame ≡ Some g
  pub frame : IsFrame c.keyed f g
  pub idle : IsIdle (Some f)

-- it forms this voucher
pub record Forms (c : Plain) (g : machine.Frame) (u : Indices) (w : Handles) : Type 0 where
  pub forms : g.forming ≡ Some w
  pub map : IsMap c.keyed u w

-- a call that is answered as it begins: no amount is counted, and the history has room for the answer
pub record IsAnswered (sc : Scenario) (c : Plain) (m : Machine) (t : ℕ) (call : Call) (reply : Reply) : Type 0 where
  pub uncounted : IsUncounted sc m.past (entries.Call t ((part_of c t).begun + 1) (word_of call) reply)
  pub room : 1 ≤ c.spare
