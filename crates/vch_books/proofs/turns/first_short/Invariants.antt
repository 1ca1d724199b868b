use Rattle.std.proofs.Common.{◌≤◌, length}
use Rattle.vch_base.specs.Tasks.{at_task}
use Rattle.vch_model.specs.Legal.{EachTask}
use Rattle.vch_script.specs.Places.{spots_of}
use Rattle.vch_books.specs.Desks.{empty_desk}
use Rattle.vch_books.proofs.turns.first_short.Given as goal

abbrev pub invariant-loop-done : goal.invariant-loop-done
invariant-loop-done l = EachTask l.done (λ t. length (spots_of l.places t) ≤ (at_task l.tasks t empty_desk).begun)
