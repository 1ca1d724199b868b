use Rattle.std.proofs.Common.{◌≡◌, refl}
use Rattle.vch_judge.proofs.Keys.{by_key}
use Rattle.vch_judge.proofs.formed.Formed.of.Goals as goal

pub returns : goal.returns
returns c = by_key _ c.slot_of.ensures c.slot_of-2.ensures c.slot_of-3.ensures c.slot_of-4.ensures
