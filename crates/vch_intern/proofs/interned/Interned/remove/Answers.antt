use Rattle.std.proofs.Common.{List, ℕ, None, cond, ap, ◌∙◌}
use Rattle.vch_intern.specs.Tags.{found, tags_eq}
use Rattle.vch_intern.proofs.Indexes.{indexed_gone}
use Rattle.vch_intern.proofs.interned.Interned.remove.Goals as goal

pub invariant_of-self : goal.invariant_of-self
invariant_of-self c =
    let e = c.remove-live.ensures in
    indexed_gone c.self.inside.index c.swap_remove.new.self c.self.inside.places.slots c.remove-live.new.self.slots c.args.handle c.remove-live.result c.self.invariant e.value e.writes
    (λ q. c.swap_remove.ensures.updates.0 q ∙ ap (λ (k : List ℕ). cond (tags_eq k q) None (found c.self.inside.index q)) c.of-tag.ensures)
