use Rattle.std.proofs.Common.{◌≡◌, drop}
use Rattle.std.specs.List.{list_any}
use Rattle.vch_machine.specs.State as machine
use Rattle.vch_plain.proofs.held.expects.Given as goal

abbrev pub invariant-loop-task : goal.invariant-loop-task
invariant-loop-task l = list_any (λ (t : machine.Tasked). machine.frame_expects t.frame l.place) (drop l.task-index l.tasks) ≡ list_any (λ (t : machine.Tasked). machine.frame_expects t.frame l.place) l.tasks
