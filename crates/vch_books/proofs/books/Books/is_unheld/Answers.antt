use Rattle.std.proofs.Common.{◌≡◌, ap, sym, ◌∙◌, subst, true, false}
use Rattle.vch_books.specs.Audits.{Audit, store_at}
use Rattle.vch_books.specs.Kept.{Lists, Keeps}
use Rattle.std.specs.Prelude.{◌↔◌}
use Rattle.vch_model.specs.Legal.{IsUnheld, find_made}
use Rattle.vch_books.proofs.Unheld.{unheld_yes, unheld_no}
use Rattle.vch_books.specs.Living.{Living}
use Rattle.vch_books.specs.Holding.{is_one}
use Rattle.vch_books.proofs.books.Books.is_unheld.Goals as goal

pub returns-then-has : goal.returns-then-has
returns-then-has c =
    let s = c.self.inside in
    let a = c.args.self.now in
    let l : Lists = record { tasks = s.tasks; live = s.live.value.numbers; phases = s.phases; places = s.places; sums = s.sums.value } in
    let k : Keeps a l = subst (λ (x : Audit). Keeps x l) c.self.view_is c.self.invariant in
    unheld_yes a l c.args.made c.hold.result k (ap (λ (x : Living). is_one x.numbers c.args.made) (sym c.deref.ensures) ∙ (sym c.has.ensures ∙ c.if-has.true)) (sym c.hold.ensures)

pub returns-else-has : goal.returns-else-has
returns-else-has c =
    let s = c.self.inside in
    let a = c.args.self.now in
    let l : Lists = record { tasks = s.tasks; live = s.live.value.numbers; phases = s.phases; places = s.places; sums = s.sums.value } in
    let k : Keeps a l = subst (λ (x : Audit). Keeps x l) c.self.view_is c.self.invariant in
    subst (λ b. (b ≡ true) ↔ IsUnheld (store_at a) (find_made (store_at a).live c.args.made)) (sym c.if-has.false) (unheld_no a l c.args.made k (ap (λ (x : Living). is_one x.numbers c.args.made) (sym c.deref.ensures) ∙ (sym c.has.ensures ∙ c.if-has.false)))
