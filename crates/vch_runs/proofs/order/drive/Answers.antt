use Rattle.vch_runs.proofs.Driving.{driving_more, driving_last}
use Rattle.vch_runs.proofs.order.drive.Goals as goal

pub loop-i-preserved : goal.loop-i-preserved
loop-i-preserved c = driving_more c.args.order.now c.args.core.now c.loop-i.core c.step.new.core c.loop-i.i c.step.result c.loop-i-test.true c.step.ensures c.loop-i.invariant

pub returns : goal.returns
returns c = driving_last c.args.order.now c.args.core.now c.loop-i.core c.loop-i.i c.loop-i-test.false c.loop-i.invariant
