use Rattle.vch_moves.proofs.beginnings_stand.Goals as goal
use Rattle.vch_moves.proofs.stating.Begins.{creates_begin, exits_begin, copies_begin, answers_begin, takings_begin, queueings_begin}

pub returns-clause-create : goal.returns-clause-create
returns-clause-create c = creates_begin

pub returns-clause-exit : goal.returns-clause-exit
returns-clause-exit c = exits_begin

pub returns-clause-copy : goal.returns-clause-copy
returns-clause-copy c = copies_begin

pub returns-clause-answer : goal.returns-clause-answer
returns-clause-answer c = answers_begin

pub returns-clause-taking : goal.returns-clause-taking
returns-clause-taking c = takings_begin

pub returns-clause-queueing : goal.returns-clause-queueing
returns-clause-queueing c = queueings_begin
