use Rattle.vch_legal.proofs.facts.Keeps.{event_keeps}
use Rattle.vch_legal.proofs.event_fits.Goals as goal

pub returns : goal.returns
returns c = event_keeps
