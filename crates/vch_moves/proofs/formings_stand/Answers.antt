use Rattle.vch_moves.proofs.formings_stand.Goals as goal
use Rattle.vch_moves.proofs.stating.Forming.{vouchers_form}

pub returns : goal.returns
returns c = vouchers_form
