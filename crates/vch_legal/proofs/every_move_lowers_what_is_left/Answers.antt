use Rattle.vch_legal.proofs.bounds.Bounds.{reached_lowers}
use Rattle.vch_legal.proofs.every_move_lowers_what_is_left.Goals as goal

pub returns : goal.returns
returns c = reached_lowers
