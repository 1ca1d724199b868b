use Rattle.std.proofs.Common.{sym, subst}
use Rattle.vch_books.specs.Audits.{Audit}
use Rattle.vch_books.specs.Kept.{Lists, Keeps}
use Rattle.std.specs.Prelude.{List}
use Rattle.vch_books.specs.Desks.{Desk}
use Rattle.vch_books.specs.Audits.{store_at, advanced, Leaves}
use Rattle.vch_books.proofs.Effects.{goes_same}
use Rattle.vch_books.proofs.Advancing.{keeps_call, within_of, few_after}
use Rattle.vch_books.proofs.books.Books.pass.Goals as goal

pub begin_at-requires-clause-task : goal.begin_at-requires-clause-task
begin_at-requires-clause-task c =
    let s = c.self.inside in
    let a : Audit = record { scenario = s.scenario.now; history = s.live.value.history; taken = s.taken } in
    let l : Lists = record { tasks = s.tasks; live = s.live.value.numbers; phases = s.phases; places = s.places; sums = s.sums.value } in
    let h = a.history in
    let t = c.args.task in
    let k : Keeps a l = c.self.invariant in
    let v : Leaves a t (store_at a) = subst (λ (x : Audit). Leaves x t (store_at x)) (sym c.self.view_is) c.requires.next in
    let w = within_of a l t (store_at a) k v in
    w

pub begin_at-requires-clause-few : goal.begin_at-requires-clause-few
begin_at-requires-clause-few c =
    let s = c.self.inside in
    let a : Audit = record { scenario = s.scenario.now; history = s.live.value.history; taken = s.taken } in
    let l : Lists = record { tasks = s.tasks; live = s.live.value.numbers; phases = s.phases; places = s.places; sums = s.sums.value } in
    let h = a.history in
    let t = c.args.task in
    let k : Keeps a l = c.self.invariant in
    let v : Leaves a t (store_at a) = subst (λ (x : Audit). Leaves x t (store_at x)) (sym c.self.view_is) c.requires.next in
    let w = within_of a l t (store_at a) k v in
    few_after a l l.tasks t k (goes_same h l.live l.tasks)

pub invariant_of-self : goal.invariant_of-self
invariant_of-self c =
    let s = c.self.inside in
    let a : Audit = record { scenario = s.scenario.now; history = s.live.value.history; taken = s.taken } in
    let l : Lists = record { tasks = s.tasks; live = s.live.value.numbers; phases = s.phases; places = s.places; sums = s.sums.value } in
    let h = a.history in
    let t = c.args.task in
    let k : Keeps a l = c.self.invariant in
    let v : Leaves a t (store_at a) = subst (λ (x : Audit). Leaves x t (store_at x)) (sym c.self.view_is) c.requires.next in
    let w = within_of a l t (store_at a) k v in
    subst (λ (ts : List Desk). Keeps (advanced a) (record l { tasks = ts })) (sym (c.begin_at.ensures)) (keeps_call a l l.tasks t (store_at a) k (goes_same h l.live l.tasks) (k.store) v)
