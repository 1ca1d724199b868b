-- How far the lines have come while they are made.
use Rattle.std.specs.Prelude.{◌≡◌, ◌≤◌, ℕ, ◌-◌, List, length, ◌++◌}
use Rattle.vch_base.specs.Tasks.{at_task}
use Rattle.vch_model.specs.declared.call.Line.{Line}
use Rattle.vch_generate.specs.Generated.{groups, groups_from, lines_of, tasks}

-- no task has more names than groups were made
pub record AreFew (made : ℕ) (names : List ℕ) : Type 0 where
  pub all : length names ≡ tasks
  pub few : (t : ℕ) → at_task names t 0 ≤ made

-- with the groups that are left, these are all lines
pub record IsOnTheWay (n made seed : ℕ) (names : List ℕ) (lines : List Line) : Type 0 where
  pub rest : lines ++ groups_from (groups - made) made seed names ≡ lines_of n
  pub few : AreFew made names
