use Rattle.vch_intern.proofs.Indexes.{placed_of}
use Rattle.vch_intern.proofs.interned.Interned.know.Goals as goal

pub returns : goal.returns
returns c = rw (← c.self.view_is) (placed_of c.self.inside.index c.self.inside.places c.self.invariant c.know.ensures)
