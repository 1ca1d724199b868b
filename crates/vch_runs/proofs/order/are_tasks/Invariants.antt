use Rattle.std.proofs.Common.{◌≡◌, true}
use Rattle.vch_model.specs.Lines.{is_task}
use Rattle.vch_runs.proofs.Rests.{AllRest}
use Rattle.vch_runs.proofs.order.are_tasks.Given as goal

abbrev pub invariant-loop-i : goal.invariant-loop-i
invariant-loop-i l = AllRest (λ t. is_task l.core.scenario t ≡ true) l.order l.i
