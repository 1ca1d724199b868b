use Rattle.vch_replies.proofs.calls.Asserted.{assertions_reply}
use Rattle.vch_replies.proofs.balances_are_told.Goals as goal

pub returns-clause-assertions : goal.returns-clause-assertions
returns-clause-assertions c = assertions_reply
