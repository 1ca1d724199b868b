use Rattle.std.proofs.Common.{◌≡◌, drop}
use Rattle.std.specs.List.{flat_map}
use Rattle.vch_machine.specs.State as machine
use Rattle.vch_plain.proofs.held.claims.Given as goal

abbrev pub invariant-loop-task : goal.invariant-loop-task
invariant-loop-task l =
    machine.is_empty (flat_map (λ (t : machine.Tasked). machine.frame_claims t.frame l.place) (drop l.task-index l.tasks))
    ≡ machine.is_empty (flat_map (λ (t : machine.Tasked). machine.frame_claims t.frame l.place) l.tasks)
