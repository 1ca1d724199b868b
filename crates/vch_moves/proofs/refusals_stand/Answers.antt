use Rattle.vch_moves.proofs.refusals_stand.Goals as goal
use Rattle.vch_moves.proofs.stating.Begins.{refusals_stand}

pub returns : goal.returns
returns c = refusals_stand
