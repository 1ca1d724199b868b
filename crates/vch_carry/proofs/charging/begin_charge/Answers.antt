use Rattle.std.proofs.Common.{arith}
use Rattle.vch_carry.proofs.amounts.Small.{charge_fits}
use Rattle.vch_carry.proofs.charging.begin_charge.Goals as goal

pub charge-requires-clause-room : goal.charge-requires-clause-room
charge-requires-clause-room c = charge_fits c.args.parts.now c.args.n c.requires.reached (let f = c.ranges.n.fits in omega (arith, f))
