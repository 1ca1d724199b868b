use Rattle.std.proofs.Common.{arith}
use Rattle.vch_making.proofs.questions.Flights.{flying_step}
use Rattle.vch_making.proofs.flying.flying.Goals as goal

pub loop-i-preserved : goal.loop-i-preserved
loop-i-preserved c = flying_step c.args.key c.args.frames.now c.loop-i.i c.loop-i.count c.at.result.now c.receipts-count.result c.at.ensures c.receipts-count.ensures (omega (arith, c.loop-i-test.true, c.requires.there)) c.loop-i.invariant.0 c.loop-i.invariant.1
