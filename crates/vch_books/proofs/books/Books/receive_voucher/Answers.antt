use Rattle.std.proofs.Common.{◌≡◌, ◌<◌, ◌≤◌, ap, sym, ◌∙◌, subst, length}
use Rattle.vch_books.specs.Audits.{Audit}
use Rattle.vch_books.specs.Kept.{Lists, Keeps}
use Rattle.std.specs.Prelude.{List}
use Rattle.vch_base.specs.Tasks.{at_task, set_task}
use Rattle.vch_model.specs.Store as store
use Rattle.vch_model.specs.Store.{Store}
use Rattle.vch_model.specs.After as after
use Rattle.vch_books.specs.Desks as desks
use Rattle.vch_books.specs.Desks.{Desk, empty_desk}
use Rattle.vch_books.specs.Numbered.{numbered_voucher}
use Rattle.vch_books.specs.Audits.{store_at, advanced, Leaves, IsGood, meant, rest_of}
use Rattle.vch_books.specs.Going.{Goes}
use Rattle.vch_books.proofs.Effects.{goes_twice, give_goes, give_is, take_goes, take_is}
use Rattle.vch_books.proofs.Advancing.{begun_one, keeps_call, within_of, within_after, few_after, stands_of}
use Rattle.vch_books.proofs.books.Books.receive_voucher.Goals as goal

pub take_first_at-requires : goal.take_first_at-requires
take_first_at-requires c =
    let s = c.self.inside in
    let a : Audit = record { scenario = s.scenario.now; history = s.live.value.history; taken = s.taken } in
    let l : Lists = record { tasks = s.tasks; live = s.live.value.numbers; phases = s.phases; places = s.places; sums = s.sums.value } in
    let h = a.history in
    let t = c.args.task in
    let k : Keeps a l = c.self.invariant in
    let v : Leaves a t (store.given (after.taken_first (store_at a) t (rest_of (store.member (store_at a) t).queue)) t (meant a c.args.voucher)) = subst (λ (x : Audit). Leaves x t (store.given (after.taken_first (store_at x) t (rest_of (store.member (store_at x) t).queue)) t (meant x c.args.voucher))) (sym c.self.view_is) c.requires.next in
    let w = within_of a l t (store.given (after.taken_first (store_at a) t (rest_of (store.member (store_at a) t).queue)) t (meant a c.args.voucher)) k v in
    let good = stands_of a l c.args.voucher k (subst (λ (x : Audit). IsGood x c.args.voucher) (sym c.self.view_is) c.requires.good) in
    w

pub give_at-requires : goal.give_at-requires
give_at-requires c =
    let s = c.self.inside in
    let a : Audit = record { scenario = s.scenario.now; history = s.live.value.history; taken = s.taken } in
    let l : Lists = record { tasks = s.tasks; live = s.live.value.numbers; phases = s.phases; places = s.places; sums = s.sums.value } in
    let h = a.history in
    let t = c.args.task in
    let k : Keeps a l = c.self.invariant in
    let v : Leaves a t (store.given (after.taken_first (store_at a) t (rest_of (store.member (store_at a) t).queue)) t (meant a c.args.voucher)) = subst (λ (x : Audit). Leaves x t (store.given (after.taken_first (store_at x) t (rest_of (store.member (store_at x) t).queue)) t (meant x c.args.voucher))) (sym c.self.view_is) c.requires.next in
    let w = within_of a l t (store.given (after.taken_first (store_at a) t (rest_of (store.member (store_at a) t).queue)) t (meant a c.args.voucher)) k v in
    let good = stands_of a l c.args.voucher k (subst (λ (x : Audit). IsGood x c.args.voucher) (sym c.self.view_is) c.requires.good) in
    let m1 : List Desk = set_task l.tasks t (record (at_task l.tasks t empty_desk) { queue = rest_of (at_task l.tasks t empty_desk).queue }) in
    let g1 : Goes h l.live l.tasks m1 = take_goes h l.live l.tasks t w in
    let e1 : c.take_first_at.new.self ≡ m1 = c.take_first_at.ensures in
    subst (λ (ts : List Desk). (1 ≤ t) × (t ≤ length ts)) (sym e1) (within_after a l m1 t g1 w)

pub begin_at-requires-clause-task : goal.begin_at-requires-clause-task
begin_at-requires-clause-task c =
    let s = c.self.inside in
    let a : Audit = record { scenario = s.scenario.now; history = s.live.value.history; taken = s.taken } in
    let l : Lists = record { tasks = s.tasks; live = s.live.value.numbers; phases = s.phases; places = s.places; sums = s.sums.value } in
    let h = a.history in
    let t = c.args.task in
    let k : Keeps a l = c.self.invariant in
    let v : Leaves a t (store.given (after.taken_first (store_at a) t (rest_of (store.member (store_at a) t).queue)) t (meant a c.args.voucher)) = subst (λ (x : Audit). Leaves x t (store.given (after.taken_first (store_at x) t (rest_of (store.member (store_at x) t).queue)) t (meant x c.args.voucher))) (sym c.self.view_is) c.requires.next in
    let w = within_of a l t (store.given (after.taken_first (store_at a) t (rest_of (store.member (store_at a) t).queue)) t (meant a c.args.voucher)) k v in
    let good = stands_of a l c.args.voucher k (subst (λ (x : Audit). IsGood x c.args.voucher) (sym c.self.view_is) c.requires.good) in
    let m1 : List Desk = set_task l.tasks t (record (at_task l.tasks t empty_desk) { queue = rest_of (at_task l.tasks t empty_desk).queue }) in
    let g1 : Goes h l.live l.tasks m1 = take_goes h l.live l.tasks t w in
    let e1 : c.take_first_at.new.self ≡ m1 = c.take_first_at.ensures in
    let m2 : List Desk = set_task m1 t (desks.given (at_task m1 t empty_desk) c.args.voucher) in
    let g2 : Goes h l.live l.tasks m2 = goes_twice h l.live l.tasks m1 m2 g1 (give_goes h l.live m1 t c.args.voucher (within_after a l m1 t g1 w) good) in
    let e2 : c.in_ok-self-inside.field-0 ≡ m2 = c.in_ok-self-inside.ensures ∙ ap (λ (ts : List Desk). set_task ts t (desks.given (at_task ts t empty_desk) c.args.voucher)) e1 in
    subst (λ (ts : List Desk). (1 ≤ t) × (t ≤ length ts)) (sym e2) (within_after a l m2 t g2 w)

pub begin_at-requires-clause-few : goal.begin_at-requires-clause-few
begin_at-requires-clause-few c =
    let s = c.self.inside in
    let a : Audit = record { scenario = s.scenario.now; history = s.live.value.history; taken = s.taken } in
    let l : Lists = record { tasks = s.tasks; live = s.live.value.numbers; phases = s.phases; places = s.places; sums = s.sums.value } in
    let h = a.history in
    let t = c.args.task in
    let k : Keeps a l = c.self.invariant in
    let v : Leaves a t (store.given (after.taken_first (store_at a) t (rest_of (store.member (store_at a) t).queue)) t (meant a c.args.voucher)) = subst (λ (x : Audit). Leaves x t (store.given (after.taken_first (store_at x) t (rest_of (store.member (store_at x) t).queue)) t (meant x c.args.voucher))) (sym c.self.view_is) c.requires.next in
    let w = within_of a l t (store.given (after.taken_first (store_at a) t (rest_of (store.member (store_at a) t).queue)) t (meant a c.args.voucher)) k v in
    let good = stands_of a l c.args.voucher k (subst (λ (x : Audit). IsGood x c.args.voucher) (sym c.self.view_is) c.requires.good) in
    let m1 : List Desk = set_task l.tasks t (record (at_task l.tasks t empty_desk) { queue = rest_of (at_task l.tasks t empty_desk).queue }) in
    let g1 : Goes h l.live l.tasks m1 = take_goes h l.live l.tasks t w in
    let e1 : c.take_first_at.new.self ≡ m1 = c.take_first_at.ensures in
    let m2 : List Desk = set_task m1 t (desks.given (at_task m1 t empty_desk) c.args.voucher) in
    let g2 : Goes h l.live l.tasks m2 = goes_twice h l.live l.tasks m1 m2 g1 (give_goes h l.live m1 t c.args.voucher (within_after a l m1 t g1 w) good) in
    let e2 : c.in_ok-self-inside.field-0 ≡ m2 = c.in_ok-self-inside.ensures ∙ ap (λ (ts : List Desk). set_task ts t (desks.given (at_task ts t empty_desk) c.args.voucher)) e1 in
    subst (λ (ts : List Desk). (at_task ts t empty_desk).begun < 4294967295) (sym e2) (few_after a l m2 t k g2)

pub invariant_of-self : goal.invariant_of-self
invariant_of-self c =
    let s = c.self.inside in
    let a : Audit = record { scenario = s.scenario.now; history = s.live.value.history; taken = s.taken } in
    let l : Lists = record { tasks = s.tasks; live = s.live.value.numbers; phases = s.phases; places = s.places; sums = s.sums.value } in
    let h = a.history in
    let t = c.args.task in
    let k : Keeps a l = c.self.invariant in
    let v : Leaves a t (store.given (after.taken_first (store_at a) t (rest_of (store.member (store_at a) t).queue)) t (meant a c.args.voucher)) = subst (λ (x : Audit). Leaves x t (store.given (after.taken_first (store_at x) t (rest_of (store.member (store_at x) t).queue)) t (meant x c.args.voucher))) (sym c.self.view_is) c.requires.next in
    let w = within_of a l t (store.given (after.taken_first (store_at a) t (rest_of (store.member (store_at a) t).queue)) t (meant a c.args.voucher)) k v in
    let good = stands_of a l c.args.voucher k (subst (λ (x : Audit). IsGood x c.args.voucher) (sym c.self.view_is) c.requires.good) in
    let m1 : List Desk = set_task l.tasks t (record (at_task l.tasks t empty_desk) { queue = rest_of (at_task l.tasks t empty_desk).queue }) in
    let g1 : Goes h l.live l.tasks m1 = take_goes h l.live l.tasks t w in
    let e1 : c.take_first_at.new.self ≡ m1 = c.take_first_at.ensures in
    let m2 : List Desk = set_task m1 t (desks.given (at_task m1 t empty_desk) c.args.voucher) in
    let g2 : Goes h l.live l.tasks m2 = goes_twice h l.live l.tasks m1 m2 g1 (give_goes h l.live m1 t c.args.voucher (within_after a l m1 t g1 w) good) in
    let e2 : c.in_ok-self-inside.field-0 ≡ m2 = c.in_ok-self-inside.ensures ∙ ap (λ (ts : List Desk). set_task ts t (desks.given (at_task ts t empty_desk) c.args.voucher)) e1 in
    subst (λ (ts : List Desk). Keeps (advanced a) (record l { tasks = ts })) (sym (c.begin_at.ensures ∙ ap (λ (ts : List Desk). begun_one ts t) e2)) (keeps_call a l m2 t (store.given (after.taken_first (store_at a) t (rest_of (store.member (store_at a) t).queue)) t (meant a c.args.voucher)) k g2 (ap (λ (x : Store). store.given (after.taken_first x t (rest_of (store.member x t).queue)) t (numbered_voucher h c.args.voucher)) k.store ∙ (ap (λ (x : Store). store.given x t (numbered_voucher h c.args.voucher)) (take_is h l.live l.tasks t) ∙ give_is h a.taken l.live m1 t c.args.voucher k.apart k.made (g1.stands k.stands) good)) v)
