use Rattle.std.proofs.Common.{List, ℕ, ap, ◌∙◌}
use Rattle.vch_intern.specs.Tags.{found}
use Rattle.vch_intern.proofs.Indexes.{find_is}
use Rattle.vch_intern.proofs.interned.Interned.find.Goals as goal

pub returns : goal.returns
returns c = rw (← c.self.view_is) (find_is c.self.inside.index c.self.inside.places.slots c.args.value.now c.copied.result c.self.invariant c.requires (c.copied.ensures ∙ c.get.ensures.value ∙ ap (λ (t : List ℕ). found c.self.inside.index t) c.of.ensures))
