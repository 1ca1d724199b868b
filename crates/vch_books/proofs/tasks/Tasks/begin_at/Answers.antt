use Rattle.std.proofs.Common.{◌≡◌, ◌<◌, ◌≤◌, ◌-◌, ◌∙◌, List, length, arith, sym, ap, refl, subst}
use Rattle.std.specs.Prelude.{slice_set, not}
use Rattle.vch_books.specs.Desks.{Desk, name_with}
use Rattle.vch_books.specs.Holding.{AreHeld, all_numbers}
use Rattle.vch_books.proofs.Holdings.{held_same}
use Rattle.vch_books.proofs.tasks.Tasks.begin_at.Goals as goal

pub invariant_of-self : goal.invariant_of-self
invariant_of-self c =
    let s = c.self.inside in
    subst (λ (d : Desk). AreHeld s.holders.value (all_numbers (slice_set s.members.items (c.args.task - 1) d))) (sym c.begin.ensures)
    (held_same s.holders.value s.members.items (c.args.task - 1) c.index_mut.result.now _ c.index_mut.ensures.value refl c.self.invariant)
