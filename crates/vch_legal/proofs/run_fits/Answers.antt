use Rattle.vch_legal.proofs.facts.Keeps.{reached_fits}
use Rattle.vch_legal.proofs.run_fits.Goals as goal

pub returns : goal.returns
returns c = reached_fits
