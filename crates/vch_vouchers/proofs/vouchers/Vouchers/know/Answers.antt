use Rattle.vch_vouchers.proofs.Desked.{are_desks}
use Rattle.vch_vouchers.proofs.vouchers.Vouchers.know.Goals as goal

pub returns : goal.returns
returns c = are_desks c.self.inside.table c.know.ensures c.self.inside.desks c.args.self.now c.self.invariant c.know-2.ensures c.self.view_is
