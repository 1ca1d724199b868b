use Rattle.std.proofs.Common.{arith}
use Rattle.vch_parts.proofs.phases.PhaseEnds.{roomy, phase_follows}
use Rattle.vch_parts.proofs.phase.end_phase.Goals as goal

pub push-requires : goal.push-requires
push-requires c = (roomy c.args.parts.now c.requires.reached).room c.requires.over.left

pub overflow_add-parts : goal.overflow_add-parts
overflow_add-parts c = let few = (roomy c.args.parts.now c.requires.reached).phases in let left = c.requires.over.left in omega (arith, few, left)

pub returns : goal.returns
returns c = phase_follows c.args.parts.now c.push.new.self c.requires.over c.push.ensures.entries c.push.ensures.spare
