use Rattle.std.proofs.Common.{IsSome}
use Rattle.vch_base.specs.Managers.{live_at}
use Rattle.vch_base.proofs.Handing.{settled_again}
use Rattle.vch_base.proofs.list_manager.ListManager.again.Goals as goal

pub invariant_of-self : goal.invariant_of-self
invariant_of-self c =
    let some : IsSome (live_at c.self.inside.places.slots c.args.handle) = rw (← c.self.view_is) at c.requires.there in
    settled_again c.self.inside.places.slots c.again.new.self.slots c.self.inside.places.free c.again.new.self.free c.args.handle c.again.result c.know.ensures some c.again.ensures c.self.invariant
