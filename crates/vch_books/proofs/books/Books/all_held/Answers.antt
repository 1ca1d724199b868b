use Rattle.std.proofs.Common.{◌∙◌, ap, subst, length}
use Rattle.vch_books.specs.Audits.{Audit}
use Rattle.vch_books.specs.Kept.{Lists, Keeps}
use Rattle.std.specs.Prelude.{ℕ, ◌==◌, nat_eq}
use Rattle.vch_books.specs.Counts.{different_by}
use Rattle.vch_books.specs.Holding.{held_numbers}
use Rattle.vch_books.proofs.AllHeld.{as_many}
use Rattle.vch_books.specs.Living.{Living}
use Rattle.vch_books.proofs.books.Books.all_held.Goals as goal

pub returns : goal.returns
returns c =
    let s = c.self.inside in
    let a = c.args.self.now in
    let l : Lists = record { tasks = s.tasks; live = s.live.value.numbers; phases = s.phases; places = s.places; sums = s.sums.value } in
    let k : Keeps a l = subst (λ (x : Audit). Keeps x l) c.self.view_is c.self.invariant in
    ap (λ (n : ℕ). n == c.len.result) c.values.ensures ∙ (ap (λ (n : ℕ). different_by nat_eq (held_numbers l.tasks) == n) (c.len.ensures.len ∙ ap (λ (x : Living). length x.numbers) c.deref.ensures) ∙ as_many a l k)
