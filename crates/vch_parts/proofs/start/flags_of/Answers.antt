use Rattle.std.proofs.Common.{refl}
use Rattle.vch_script.proofs.CallerLemmas.{take_next}
use Rattle.vch_parts.proofs.start.flags_of.Goals as goal

pub loop-i-preserved : goal.loop-i-preserved
loop-i-preserved c = take_next c.args.list.now c.loop-i.made.items c.push.new.self.items c.loop-i.i c.at.result.now c.at.result.now c.loop-i.invariant c.at.ensures refl c.in_ok-push.ensures.items
