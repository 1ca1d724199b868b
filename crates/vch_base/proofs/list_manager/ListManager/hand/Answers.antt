use Rattle.vch_base.proofs.Handing.{settled_handed}
use Rattle.vch_base.proofs.list_manager.ListManager.hand.Goals as goal

pub invariant_of-self : goal.invariant_of-self
invariant_of-self c = settled_handed c.self.inside.places.slots c.hand.new.self.slots c.self.inside.places.free c.hand.new.self.free c.args.value c.hand.result c.know.ensures c.hand.ensures c.self.invariant c.requires.settled
