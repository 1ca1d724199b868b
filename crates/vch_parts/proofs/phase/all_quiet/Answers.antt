use Rattle.std.proofs.Common.{◌+◌, arith, ap, length}
use Rattle.vch_model.specs.declared.lists.Scenario.{Scenario}
use Rattle.vch_parts.proofs.phases.PhaseEnds.{roomy, number_of_task}
use Rattle.vch_parts.proofs.framing.OfParts.{task_inside}
use Rattle.vch_parts.proofs.phase.all_quiet.Goals as goal

pub overflow_cast-ended : goal.overflow_cast-ended
overflow_cast-ended c = let few = (roomy c.args.parts.now c.requires).tasks in let own = ap (λ (sc : Scenario). length sc.flags) c.scenario.ensures in omega (arith, few, own)

pub overflow_add-ended : goal.overflow_add-ended
overflow_add-ended c = let few = (roomy c.args.parts.now c.requires).tasks in let own = ap (λ (sc : Scenario). length sc.flags) c.scenario.ensures in omega (arith, few, own)

pub is_quiet-requires : goal.is_quiet-requires
is_quiet-requires c =
    let own = ap (λ (sc : Scenario). length sc.flags) c.scenario.ensures in
    task_inside c.args.parts.now (c.loop-ended.ended + 1) c.requires (number_of_task c.args.parts.now.scenario (c.loop-ended.ended + 1) (omega arith) (omega (arith, own)))
