use Rattle.std.proofs.Common.{List, ◌∙◌, ap, sym, subst}
use Rattle.std.specs.Prelude.{nat_eq}
use Rattle.vch_books.specs.Counts.{different_by}
use Rattle.vch_books.specs.Desks.{Desk}
use Rattle.vch_books.specs.Holding.{all_numbers, held_numbers, AreHeld}
use Rattle.vch_books.specs.declared.holders.Holders.{Holders}
use Rattle.vch_books.proofs.HeldNumbers.{held_many}
use Rattle.vch_books.proofs.tasks.Tasks.values.Goals as goal

pub returns : goal.returns
returns c = c.values.ensures ∙ (held_many c.deref.result.now (all_numbers c.self.inside.members.items) (subst (λ (h : Holders). AreHeld h (all_numbers c.self.inside.members.items)) (sym c.deref.ensures) c.self.invariant) ∙ ap (λ (ts : List Desk). different_by nat_eq (held_numbers ts)) c.self.view_is)
