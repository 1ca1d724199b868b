use Rattle.std.proofs.Common.{IsSome}
use Rattle.vch_base.specs.Managers.{live_at}
use Rattle.vch_base.proofs.Handing.{settled_gone}
use Rattle.vch_base.proofs.list_manager.ListManagerAttrManager.release.Goals as goal

pub invariant_of-self-2 : goal.invariant_of-self-2
invariant_of-self-2 c =
    let some : IsSome (live_at c.self.inside.places.slots c.args.handle) = rw (← c.self.view_is) at c.requires.there in
    rw c.remove.ensures.slots (settled_gone c.self.inside.places.slots c.args.handle some c.self.invariant)
