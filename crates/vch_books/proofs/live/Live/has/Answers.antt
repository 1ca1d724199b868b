use Rattle.std.proofs.Common.{◌∙◌}
use Rattle.vch_books.proofs.Indexing.{has_is}
use Rattle.vch_books.proofs.live.Live.has.Goals as goal

pub returns : goal.returns
returns c = rw (← c.self.view_is) (c.contains.ensures ∙ has_is c.self.inside.numbers.keys c.args.number)
