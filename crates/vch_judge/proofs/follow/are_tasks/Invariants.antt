use Rattle.std.proofs.Common.{◌≡◌, drop}
use Rattle.vch_model.specs.Legal.{all_tasks}
use Rattle.vch_judge.proofs.follow.are_tasks.Given as goal

abbrev pub invariant-loop-i : goal.invariant-loop-i
invariant-loop-i l = all_tasks l.books.scenario (drop l.i l.list) ≡ all_tasks l.books.scenario l.list
