use Rattle.std.proofs.Common.{ℕ, List, Some, cond, ap, ◌∙◌}
use Rattle.std.specs.Map.{lookup}
use Rattle.vch_base.specs.Managers.{IsAbsent}
use Rattle.vch_intern.specs.Tags.{found, tag, tags_eq}
use Rattle.vch_intern.proofs.Indexes.{indexed_new}
use Rattle.vch_intern.proofs.interned.Interned.add.Goals as goal

pub invariant_of-self-2 : goal.invariant_of-self-2
invariant_of-self-2 c =
    let h = c.in_ok-handle.handle in
    let e = c.in_ok-handle.ensures in
    let absent : IsAbsent c.self.inside.places.slots c.args.value = rw (← c.self.view_is) at c.requires.absent in
    let u = rw c.unwrap.ensures at c.insert-2.ensures.updates in
    indexed_new c.self.inside.index c.insert-2.new.self c.self.inside.places.slots c.insert.new.self.slots h c.args.made c.args.value c.self.invariant c.requires.tagged absent e.was e.writes
    (λ q. u.0 q
    ∙ ap (λ (k : List ℕ). cond (tags_eq k q) (Some h) (found c.reserve.new.self q)) c.of-tag.ensures
    ∙ ap (λ (es : List (List ℕ × ℕ)). cond (tags_eq (tag c.args.value) q) (Some h) (lookup (tags_eq q) es)) c.in_ok-reserve.ensures.entries)
