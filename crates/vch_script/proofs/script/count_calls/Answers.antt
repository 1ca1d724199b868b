use Rattle.std.proofs.Common.{arith}
use Rattle.vch_script.proofs.finding.Loops.{count_step, count_fits}
use Rattle.vch_script.proofs.script.count_calls.Goals as goal

pub overflow_add-count : goal.overflow_add-count
overflow_add-count c =
    let few = count_fits c.args.phases.now c.loop-i.i c.at.result.now c.loop-i.count c.len-count.result c.at.ensures c.loop-i.invariant c.len-count.ensures c.requires in omega (arith, few)

pub loop-i-preserved : goal.loop-i-preserved
loop-i-preserved c = count_step c.args.phases.now c.loop-i.i c.at.result.now c.loop-i.count c.len-count.result c.at.ensures c.loop-i.invariant c.len-count.ensures
