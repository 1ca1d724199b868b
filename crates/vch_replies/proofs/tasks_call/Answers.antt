use Rattle.vch_replies.proofs.named.Begun.{begins}
use Rattle.vch_replies.proofs.tasks_call.Goals as goal

pub returns : goal.returns
returns c = begins
