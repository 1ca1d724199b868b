use Rattle.std.proofs.Common.{sym, subst, ap, ◌∙◌}
use Rattle.vch_books.specs.Audits.{Audit}
use Rattle.vch_books.specs.Kept.{Lists, Keeps}
use Rattle.vch_books.proofs.Unheld.{match_left}
use Rattle.vch_books.specs.Living.{Living}
use Rattle.vch_books.specs.Holding.{first_unheld}
use Rattle.vch_books.proofs.books.Books.first_left.Goals as goal

pub returns : goal.returns
returns c =
    let s = c.self.inside in
    let a = c.args.self.now in
    let l : Lists = record { tasks = s.tasks; live = s.live.value.numbers; phases = s.phases; places = s.places; sums = s.sums.value } in
    let k : Keeps a l = subst (λ (x : Audit). Keeps x l) c.self.view_is c.self.invariant in
    match_left a l c.first_unheld.result k (ap (λ (x : Living). first_unheld s.tasks x.numbers) (sym c.deref.ensures) ∙ sym c.first_unheld.ensures)
