use Rattle.std.proofs.Common.{subst}
use Rattle.vch_books.specs.Audits.{Audit}
use Rattle.vch_books.specs.Kept.{Lists, Keeps}
use Rattle.vch_books.proofs.Keeping.{lowest_kept}
use Rattle.vch_books.proofs.books.Books.lowest_name.Goals as goal

pub returns : goal.returns
returns c =
    let s = c.self.inside in
    let l : Lists = record { tasks = s.tasks; live = s.live.value.numbers; phases = s.phases; places = s.places; sums = s.sums.value } in
    let k : Keeps c.args.self.now l = subst (λ (a : Audit). Keeps a l) c.self.view_is c.self.invariant in
    rw c.lowest_at.ensures (lowest_kept c.args.self.now l k c.args.task)
