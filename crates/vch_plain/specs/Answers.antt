-- What a manager answers, and lists of tasks.
use Rattle.std.specs.Prelude.{◌≤◌, length, Option, Some, None, Result, Ok, Err, ℤ}
use Rattle.vch_base.specs.declared.value.Value.{Value}
use Rattle.vch_base.specs.declared.value.Value.TheVariants as values
use Rattle.vch_plain.specs.declared.answers.Answer.{Answer}
use Rattle.vch_plain.specs.declared.answers.Answer.TheVariants as answers

-- a list of tasks has one
abbrev pub HasTask : Value → Type 0
HasTask (values.User bytes) = Unit {0}
HasTask (values.Chain list) = 1 ≤ length list
HasTask values.Default = Unit {0}
HasTask (values.Task t) = Unit {0}
HasTask (values.Account holder merchant) = Unit {0}

-- so where there may be none
abbrev pub HaveTask : Option Value → Type 0
HaveTask None = Unit {0}
HaveTask (Some x) = HasTask x

-- the value of an answer has one
abbrev pub HasAnswer : Answer → Type 0
HasAnswer (answers.Value x) = HasTask x
HasAnswer answers.Nothing = Unit {0}
HasAnswer (answers.Refused code) = Unit {0}

-- a value, none, or a code
abbrev pub replied : Answer → Result (Option Value) ℤ
replied (answers.Value x) = Ok (Some x)
replied answers.Nothing = Ok None
replied (answers.Refused code) = Err code.number
