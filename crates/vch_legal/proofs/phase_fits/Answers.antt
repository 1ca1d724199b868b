use Rattle.vch_legal.proofs.facts.Keeps.{phase_keeps}
use Rattle.vch_legal.proofs.phase_fits.Goals as goal

pub returns : goal.returns
returns c = phase_keeps
