use Rattle.std.proofs.Common.{◌≤◌, ◌+◌}
use Rattle.vch_base.specs.Tasks.{at_task}
use Rattle.vch_model.specs.Legal.{EachTask}
use Rattle.vch_model.specs.Lines.{lines_until}
use Rattle.vch_books.specs.Desks.{empty_desk}
use Rattle.vch_books.proofs.turns.all_begun.Given as goal

abbrev pub invariant-loop-done : goal.invariant-loop-done
invariant-loop-done l = EachTask l.done (λ t. lines_until l.scenario (l.phases + 1) t ≤ (at_task l.tasks t empty_desk).begun)
