use Rattle.std.proofs.Common.{◌≡◌, ℕ, List, ◌∙◌, ap, arith, sym, subst}
use Rattle.std.specs.Prelude.{◌==◌, nat_eq}
use Rattle.std.proofs.lemmas.Grind.{common_steps}
use Rattle.vch_books.specs.Desks.{Desk}
use Rattle.vch_books.specs.Holding.{is_one, all_numbers, held_numbers, AreHeld}
use Rattle.vch_books.proofs.CountLists.{any_alike}
use Rattle.vch_books.proofs.HeldNumbers.{held_number}
use Rattle.vch_books.specs.declared.holders.Holders.{Holders}
use Rattle.vch_books.proofs.tasks.Tasks.hold.Goals as goal

turned : (a b : ℕ) → (a == b) ≡ (b == a)
turned a b = grind (arith, common_steps)

pub returns : goal.returns
returns c =
    let s = c.self.inside in
    let n = c.args.number in
    c.hold.ensures
    ∙ (held_number c.deref.result.now (all_numbers s.members.items) n (subst (λ (h : Holders). AreHeld h (all_numbers c.self.inside.members.items)) (sym c.deref.ensures) c.self.invariant)
    ∙ (any_alike (nat_eq n) (λ (d : ℕ). d == n) (held_numbers s.members.items) (λ d. turned n d)
    ∙ ap (λ (ts : List Desk). is_one (held_numbers ts) n) c.self.view_is))
