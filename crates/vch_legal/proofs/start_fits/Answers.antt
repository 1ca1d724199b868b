use Rattle.vch_legal.proofs.facts.Keeps.{start_keeps}
use Rattle.vch_legal.proofs.start_fits.Goals as goal

pub returns : goal.returns
returns c = start_keeps
