use Rattle.vch_moves.proofs.placings_stand.Goals as goal
use Rattle.vch_moves.proofs.stating.Places.{creates_place, moving_sends_place, sends_place, recvs_place}

pub returns-clause-create : goal.returns-clause-create
returns-clause-create c = creates_place

pub returns-clause-moving : goal.returns-clause-moving
returns-clause-moving c = moving_sends_place

pub returns-clause-staying : goal.returns-clause-staying
returns-clause-staying c = sends_place

pub returns-clause-recv : goal.returns-clause-recv
returns-clause-recv c = recvs_place
