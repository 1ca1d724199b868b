use Rattle.vch_replies.proofs.calls.Alive.{live_reply}
use Rattle.vch_replies.proofs.live_is_told.Goals as goal

pub returns : goal.returns
returns c = live_reply
