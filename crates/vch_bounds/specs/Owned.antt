-- What tasks have in the sequential store: names with their user references, and messages.
use Rattle.std.specs.Prelude.{ℕ, ◌+◌, length}
use Rattle.std.specs.List.{sum_by}
use Rattle.vch_model.specs.Store.{Named, Member, Store}
use Rattle.vch_bounds.specs.Sums.{sum_tasks}

-- the names and the messages of all tasks
abbrev pub things_in : Store → ℕ
things_in s = sum_tasks (λ t (x : Member). length x.names + length x.queue) 1 s.tasks

-- the user references and the messages of all tasks
abbrev pub references_in : Store → ℕ
references_in s = sum_tasks (λ t (x : Member). sum_by (λ (n : Named). n.refs) x.names + length x.queue) 1 s.tasks
