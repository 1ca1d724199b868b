use Rattle.std.proofs.Common.{subst}
use Rattle.vch_books.specs.Audits.{Audit}
use Rattle.vch_books.specs.Kept.{Lists, Keeps}
use Rattle.vch_books.proofs.Keeping.{name_kept, name_received}
use Rattle.vch_books.proofs.books.Books.name_for.Goals as goal

pub returns-clause-given : goal.returns-clause-given
returns-clause-given c =
    let s = c.self.inside in
    let l : Lists = record { tasks = s.tasks; live = s.live.value.numbers; phases = s.phases; places = s.places; sums = s.sums.value } in
    let k : Keeps c.args.self.now l = subst (λ (a : Audit). Keeps a l) c.self.view_is c.self.invariant in
    rw c.name_for_at.ensures (name_kept c.args.self.now l k c.args.task c.args.voucher.now c.requires.good)

pub returns-clause-received : goal.returns-clause-received
returns-clause-received c =
    let s = c.self.inside in
    let l : Lists = record { tasks = s.tasks; live = s.live.value.numbers; phases = s.phases; places = s.places; sums = s.sums.value } in
    let k : Keeps c.args.self.now l = subst (λ (a : Audit). Keeps a l) c.self.view_is c.self.invariant in
    λ queue. rw c.name_for_at.ensures (name_received c.args.self.now l k c.args.task c.args.voucher.now c.requires.task c.requires.good queue)
