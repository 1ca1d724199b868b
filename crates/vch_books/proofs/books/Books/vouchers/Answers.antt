use Rattle.std.proofs.Common.{◌∙◌, subst}
use Rattle.vch_books.specs.Audits.{Audit}
use Rattle.vch_books.specs.Kept.{Lists, Keeps}
use Rattle.vch_books.proofs.Ends.{different_kept}
use Rattle.vch_books.proofs.books.Books.vouchers.Goals as goal

pub returns : goal.returns
returns c =
    let s = c.self.inside in
    let a = c.args.self.now in
    let l : Lists = record { tasks = s.tasks; live = s.live.value.numbers; phases = s.phases; places = s.places; sums = s.sums.value } in
    let k : Keeps a l = subst (λ (x : Audit). Keeps x l) c.self.view_is c.self.invariant in
    c.vouchers.ensures ∙ different_kept a l k
