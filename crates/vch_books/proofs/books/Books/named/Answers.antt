use Rattle.std.proofs.Common.{subst}
use Rattle.vch_books.specs.Audits.{Audit}
use Rattle.vch_books.specs.Kept.{Lists, Keeps}
use Rattle.vch_books.proofs.Keeping.{named_kept, named_good}
use Rattle.vch_books.proofs.books.Books.named.Goals as goal

pub returns-clause-voucher : goal.returns-clause-voucher
returns-clause-voucher c =
    let s = c.self.inside in
    let l : Lists = record { tasks = s.tasks; live = s.live.value.numbers; phases = s.phases; places = s.places; sums = s.sums.value } in
    let k : Keeps c.args.self.now l = subst (λ (a : Audit). Keeps a l) c.self.view_is c.self.invariant in
    rw c.voucher_at.ensures (named_kept c.args.self.now l k c.args.task c.args.name)

pub returns-clause-good : goal.returns-clause-good
returns-clause-good c =
    let s = c.self.inside in
    let l : Lists = record { tasks = s.tasks; live = s.live.value.numbers; phases = s.phases; places = s.places; sums = s.sums.value } in
    let k : Keeps c.args.self.now l = subst (λ (a : Audit). Keeps a l) c.self.view_is c.self.invariant in
    rw c.voucher_at.ensures (named_good c.args.self.now l k c.args.task c.args.name)
