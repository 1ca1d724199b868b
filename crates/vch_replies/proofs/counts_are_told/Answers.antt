use Rattle.vch_replies.proofs.calls.Counted.{extern_reply}
use Rattle.vch_replies.proofs.calls.Charged.{charge_reply}
use Rattle.vch_replies.proofs.counts_are_told.Goals as goal

pub returns-clause-count : goal.returns-clause-count
returns-clause-count c = extern_reply

pub returns-clause-charge : goal.returns-clause-charge
returns-clause-charge c = charge_reply
