use Rattle.std.proofs.Common.{◌≡◌, ◌∙◌, sym, ap, slice_get, Some}
use Rattle.std.specs.Option.{option_copied}
use Rattle.vch_ports.proofs.Lists.{lowest_first}
use Rattle.vch_ports.proofs.space.Space.first_name.Goals as goal

pub returns-in-Some : goal.returns-in-Some
returns-in-Some c =
    let is : slice_get c.self.inside.names.items 0 ≡ Some c.in-Some.named.now = ap (λ xs. slice_get xs 0) (sym c.deref.ensures.value) ∙ sym c.first.ensures.value ∙ ap option_copied c.in-Some.is in
    rw (← c.self.view_is) (lowest_first c.self.inside.names.items c.in-Some.named.now c.self.invariant.ordered is)
