use Rattle.std.proofs.Common.{◌≡◌, ◌<◌, ◌≤◌, ap, sym, ◌∙◌, subst, length}
use Rattle.vch_books.specs.Audits.{Audit}
use Rattle.vch_books.specs.Kept.{Lists, Keeps}
use Rattle.std.specs.Prelude.{List}
use Rattle.vch_base.specs.Tasks.{at_task, set_task}
use Rattle.vch_model.specs.Store as store
use Rattle.vch_model.specs.Store.{Store}
use Rattle.vch_books.specs.Desks as desks
use Rattle.vch_books.specs.Desks.{Desk, empty_desk}
use Rattle.vch_books.specs.Numbered.{numbered_voucher}
use Rattle.vch_books.specs.Audits.{store_at, advanced, Leaves, IsGood, meant}
use Rattle.vch_books.specs.Going.{Goes}
use Rattle.vch_books.proofs.Effects.{give_goes, give_is}
use Rattle.vch_books.proofs.Advancing.{begun_one, keeps_call, within_of, within_after, few_after, stands_of}
use Rattle.vch_books.proofs.books.Books.give.Goals as goal

pub give_at-requires : goal.give_at-requires
give_at-requires c =
    let s = c.self.inside in
    let a : Audit = record { scenario = s.scenario.now; history = s.live.value.history; taken = s.taken } in
    let l : Lists = record { tasks = s.tasks; live = s.live.value.numbers; phases = s.phases; places = s.places; sums = s.sums.value } in
    let h = a.history in
    let t = c.args.task in
    let k : Keeps a l = c.self.invariant in
    let v : Leaves a t (store.given (store_at a) t (meant a c.args.voucher)) = subst (λ (x : Audit). Leaves x t (store.given (store_at x) t (meant x c.args.voucher))) (sym c.self.view_is) c.requires.next in
    let w = within_of a l t (store.given (store_at a) t (meant a c.args.voucher)) k v in
    let good = stands_of a l c.args.voucher k (subst (λ (x : Audit). IsGood x c.args.voucher) (sym c.self.view_is) c.requires.good) in
    w

pub begin_at-requires-clause-task : goal.begin_at-requires-clause-task
begin_at-requires-clause-task c =
    let s = c.self.inside in
    let a : Audit = record { scenario = s.scenario.now; history = s.live.value.history; taken = s.taken } in
    let l : Lists = record { tasks = s.tasks; live = s.live.value.numbers; phases = s.phases; places = s.places; sums = s.sums.value } in
    let h = a.history in
    let t = c.args.task in
    let k : Keeps a l = c.self.invariant in
    let v : Leaves a t (store.given (store_at a) t (meant a c.args.voucher)) = subst (λ (x : Audit). Leaves x t (store.given (store_at x) t (meant x c.args.voucher))) (sym c.self.view_is) c.requires.next in
    let w = within_of a l t (store.given (store_at a) t (meant a c.args.voucher)) k v in
    let good = stands_of a l c.args.voucher k (subst (λ (x : Audit). IsGood x c.args.voucher) (sym c.self.view_is) c.requires.good) in
    let m1 : List Desk = set_task l.tasks t (desks.given (at_task l.tasks t empty_desk) c.args.voucher) in
    let g1 : Goes h l.live l.tasks m1 = give_goes h l.live l.tasks t c.args.voucher w good in
    let e1 : c.in_ok-self-inside.field-0 ≡ m1 = c.in_ok-self-inside.ensures in
    subst (λ (ts : List Desk). (1 ≤ t) × (t ≤ length ts)) (sym e1) (within_after a l m1 t g1 w)

pub begin_at-requires-clause-few : goal.begin_at-requires-clause-few
begin_at-requires-clause-few c =
    let s = c.self.inside in
    let a : Audit = record { scenario = s.scenario.now; history = s.live.value.history; taken = s.taken } in
    let l : Lists = record { tasks = s.tasks; live = s.live.value.numbers; phases = s.phases; places = s.places; sums = s.sums.value } in
    let h = a.history in
    let t = c.args.task in
    let k : Keeps a l = c.self.invariant in
    let v : Leaves a t (store.given (store_at a) t (meant a c.args.voucher)) = subst (λ (x : Audit). Leaves x t (store.given (store_at x) t (meant x c.args.voucher))) (sym c.self.view_is) c.requires.next in
    let w = within_of a l t (store.given (store_at a) t (meant a c.args.voucher)) k v in
    let good = stands_of a l c.args.voucher k (subst (λ (x : Audit). IsGood x c.args.voucher) (sym c.self.view_is) c.requires.good) in
    let m1 : List Desk = set_task l.tasks t (desks.given (at_task l.tasks t empty_desk) c.args.voucher) in
    let g1 : Goes h l.live l.tasks m1 = give_goes h l.live l.tasks t c.args.voucher w good in
    let e1 : c.in_ok-self-inside.field-0 ≡ m1 = c.in_ok-self-inside.ensures in
    subst (λ (ts : List Desk). (at_task ts t empty_desk).begun < 4294967295) (sym e1) (few_after a l m1 t k g1)

pub invariant_of-self : goal.invariant_of-self
invariant_of-self c =
    let s = c.self.inside in
    let a : Audit = record { scenario = s.scenario.now; history = s.live.value.history; taken = s.taken } in
    let l : Lists = record { tasks = s.tasks; live = s.live.value.numbers; phases = s.phases; places = s.places; sums = s.sums.value } in
    let h = a.history in
    let t = c.args.task in
    let k : Keeps a l = c.self.invariant in
    let v : Leaves a t (store.given (store_at a) t (meant a c.args.voucher)) = subst (λ (x : Audit). Leaves x t (store.given (store_at x) t (meant x c.args.voucher))) (sym c.self.view_is) c.requires.next in
    let w = within_of a l t (store.given (store_at a) t (meant a c.args.voucher)) k v in
    let good = stands_of a l c.args.voucher k (subst (λ (x : Audit). IsGood x c.args.voucher) (sym c.self.view_is) c.requires.good) in
    let m1 : List Desk = set_task l.tasks t (desks.given (at_task l.tasks t empty_desk) c.args.voucher) in
    let g1 : Goes h l.live l.tasks m1 = give_goes h l.live l.tasks t c.args.voucher w good in
    let e1 : c.in_ok-self-inside.field-0 ≡ m1 = c.in_ok-self-inside.ensures in
    subst (λ (ts : List Desk). Keeps (advanced a) (record l { tasks = ts })) (sym (c.begin_at.ensures ∙ ap (λ (ts : List Desk). begun_one ts t) e1)) (keeps_call a l m1 t (store.given (store_at a) t (meant a c.args.voucher)) k g1 (ap (λ (x : Store). store.given x t (numbered_voucher h c.args.voucher)) k.store ∙ give_is h a.taken l.live l.tasks t c.args.voucher k.apart k.made k.stands good) v)
