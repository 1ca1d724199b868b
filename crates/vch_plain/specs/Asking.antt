-- What a call asks of a manager.
use Rattle.std.specs.Prelude.{◌≤◌, ℕ, List, length, Option, Some, None}
use Rattle.vch_base.specs.declared.key.Key.{Key}
use Rattle.vch_model.specs.declared.lists.Scenario.{Scenario}
use Rattle.vch_machine.specs.Making as making
use Rattle.vch_machine.specs.State.{Living, value_at}
use Rattle.vch_plain.specs.Answers.{HasAnswer, HaveTask, replied}
use Rattle.vch_plain.specs.declared.asking.Asked.{Asked}

-- each live list of tasks has one
abbrev pub AllHaveTask : List Living → Type 0
AllHaveTask live = (k : Key) (h : Option ℕ) → HaveTask (value_at live k h)

-- what is asked may be nothing
abbrev pub asked_of : Option Asked → Option making.Asked
asked_of None = None
asked_of (Some a) = Some (record { key = a.key; reply = replied a.answer })

abbrev pub AnswersHave : Option Asked → Type 0
AnswersHave None = Unit {0}
AnswersHave (Some a) = HasAnswer a.answer

-- the scenario has the flags of the task
abbrev pub HasFlags : Scenario → ℕ → Type 0
HasFlags sc t = (1 ≤ t) × (t ≤ length sc.flags)
