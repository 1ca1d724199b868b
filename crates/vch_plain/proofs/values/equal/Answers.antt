use Rattle.vch_plain.proofs.SameValues.{tells_equal}
use Rattle.vch_plain.proofs.values.equal.Goals as goal

pub returns : goal.returns
returns c = tells_equal c.same.result c.args.one.now c.args.other.now c.same.ensures
