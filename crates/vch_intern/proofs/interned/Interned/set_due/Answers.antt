use Rattle.std.proofs.Common.{refl}
use Rattle.vch_intern.proofs.Indexes.{indexed_same}
use Rattle.vch_intern.proofs.interned.Interned.set_due.Goals as goal

pub invariant_of-self : goal.invariant_of-self
invariant_of-self c = indexed_same c.self.inside.index c.self.inside.places.slots c.args.handle c.item_mut-live.result.now _ c.self.invariant c.item_mut-live.ensures.value refl
