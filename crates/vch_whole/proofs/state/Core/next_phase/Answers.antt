use Rattle.vch_whole.proofs.Following.{reached_end}
use Rattle.vch_whole.proofs.state.Core.next_phase.Goals as goal

pub invariant_of-self : goal.invariant_of-self
invariant_of-self c = reached_end c.next_phase.result c.self.inside.parts c.next_phase.new.self c.self.invariant c.next_phase.ensures.ends c.next_phase.ensures.stays
