use Rattle.vch_made.proofs.RuleLaws.{stays}
use Rattle.vch_made.proofs.laws.a_released_slot_stays_released.Goals as goal

pub returns : goal.returns
returns c = stays
