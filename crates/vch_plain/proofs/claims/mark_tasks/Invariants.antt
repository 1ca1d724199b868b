use Rattle.std.proofs.Common.{◌≡◌}
use Rattle.vch_machine.specs.Making as making
use Rattle.vch_plain.specs.Marks as marks
use Rattle.vch_plain.proofs.MarkedTasks.{first_marked}
use Rattle.vch_plain.proofs.claims.mark_tasks.Given as goal

abbrev pub invariant-loop-i : goal.invariant-loop-i
invariant-loop-i l = l.tasks.items ≡ first_marked (making.on_task (marks.marked l.mark l.place)) l.i l.initial.tasks.items
