use Rattle.vch_replies.proofs.calls.Sent.{create_none, create_many}
use Rattle.vch_replies.proofs.no_records_are_told.Goals as goal

pub returns-clause-none : goal.returns-clause-none
returns-clause-none c = create_none

pub returns-clause-many : goal.returns-clause-many
returns-clause-many c = create_many
