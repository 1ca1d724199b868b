use Rattle.vch_replies.proofs.named.Named.{named_here}
use Rattle.vch_replies.proofs.names_are_told.Goals as goal

pub returns : goal.returns
returns c = named_here
