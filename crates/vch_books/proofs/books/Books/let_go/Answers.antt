use Rattle.std.proofs.Common.{◌≡◌, ◌<◌, ◌≤◌, ap, sym, ◌∙◌, subst, length}
use Rattle.vch_books.specs.Audits.{Audit}
use Rattle.vch_books.specs.Kept.{Lists, Keeps}
use Rattle.std.specs.Prelude.{List}
use Rattle.vch_base.specs.Tasks.{at_task, set_task}
use Rattle.vch_model.specs.Store.{Store}
use Rattle.vch_model.specs.After as after
use Rattle.vch_books.specs.Desks as desks
use Rattle.vch_books.specs.Desks.{Desk, empty_desk}
use Rattle.vch_books.specs.Audits.{store_at, advanced, Leaves}
use Rattle.vch_books.specs.Going.{Goes}
use Rattle.vch_books.proofs.Effects.{let_go_goes, let_go_is}
use Rattle.vch_books.proofs.Advancing.{begun_one, keeps_call, within_of, within_after, few_after}
use Rattle.vch_books.proofs.books.Books.let_go.Goals as goal

pub let_go_at-requires : goal.let_go_at-requires
let_go_at-requires c =
    let s = c.self.inside in
    let a : Audit = record { scenario = s.scenario.now; history = s.live.value.history; taken = s.taken } in
    let l : Lists = record { tasks = s.tasks; live = s.live.value.numbers; phases = s.phases; places = s.places; sums = s.sums.value } in
    let h = a.history in
    let t = c.args.task in
    let k : Keeps a l = c.self.invariant in
    let v : Leaves a t (after.let_go (store_at a) t c.args.name) = subst (λ (x : Audit). Leaves x t (after.let_go (store_at x) t c.args.name)) (sym c.self.view_is) c.requires.next in
    let w = within_of a l t (after.let_go (store_at a) t c.args.name) k v in
    w

pub begin_at-requires-clause-task : goal.begin_at-requires-clause-task
begin_at-requires-clause-task c =
    let s = c.self.inside in
    let a : Audit = record { scenario = s.scenario.now; history = s.live.value.history; taken = s.taken } in
    let l : Lists = record { tasks = s.tasks; live = s.live.value.numbers; phases = s.phases; places = s.places; sums = s.sums.value } in
    let h = a.history in
    let t = c.args.task in
    let k : Keeps a l = c.self.invariant in
    let v : Leaves a t (after.let_go (store_at a) t c.args.name) = subst (λ (x : Audit). Leaves x t (after.let_go (store_at x) t c.args.name)) (sym c.self.view_is) c.requires.next in
    let w = within_of a l t (after.let_go (store_at a) t c.args.name) k v in
    let m1 : List Desk = set_task l.tasks t (record (at_task l.tasks t empty_desk) { names = desks.one_less (at_task l.tasks t empty_desk).names c.args.name }) in
    let g1 : Goes h l.live l.tasks m1 = let_go_goes h l.live l.tasks t c.args.name w in
    let e1 : c.let_go_at.new.self ≡ m1 = c.let_go_at.ensures in
    subst (λ (ts : List Desk). (1 ≤ t) × (t ≤ length ts)) (sym e1) (within_after a l m1 t g1 w)

pub begin_at-requires-clause-few : goal.begin_at-requires-clause-few
begin_at-requires-clause-few c =
    let s = c.self.inside in
    let a : Audit = record { scenario = s.scenario.now; history = s.live.value.history; taken = s.taken } in
    let l : Lists = record { tasks = s.tasks; live = s.live.value.numbers; phases = s.phases; places = s.places; sums = s.sums.value } in
    let h = a.history in
    let t = c.args.task in
    let k : Keeps a l = c.self.invariant in
    let v : Leaves a t (after.let_go (store_at a) t c.args.name) = subst (λ (x : Audit). Leaves x t (after.let_go (store_at x) t c.args.name)) (sym c.self.view_is) c.requires.next in
    let w = within_of a l t (after.let_go (store_at a) t c.args.name) k v in
    let m1 : List Desk = set_task l.tasks t (record (at_task l.tasks t empty_desk) { names = desks.one_less (at_task l.tasks t empty_desk).names c.args.name }) in
    let g1 : Goes h l.live l.tasks m1 = let_go_goes h l.live l.tasks t c.args.name w in
    let e1 : c.let_go_at.new.self ≡ m1 = c.let_go_at.ensures in
    subst (λ (ts : List Desk). (at_task ts t empty_desk).begun < 4294967295) (sym e1) (few_after a l m1 t k g1)

pub invariant_of-self : goal.invariant_of-self
invariant_of-self c =
    let s = c.self.inside in
    let a : Audit = record { scenario = s.scenario.now; history = s.live.value.history; taken = s.taken } in
    let l : Lists = record { tasks = s.tasks; live = s.live.value.numbers; phases = s.phases; places = s.places; sums = s.sums.value } in
    let h = a.history in
    let t = c.args.task in
    let k : Keeps a l = c.self.invariant in
    let v : Leaves a t (after.let_go (store_at a) t c.args.name) = subst (λ (x : Audit). Leaves x t (after.let_go (store_at x) t c.args.name)) (sym c.self.view_is) c.requires.next in
    let w = within_of a l t (after.let_go (store_at a) t c.args.name) k v in
    let m1 : List Desk = set_task l.tasks t (record (at_task l.tasks t empty_desk) { names = desks.one_less (at_task l.tasks t empty_desk).names c.args.name }) in
    let g1 : Goes h l.live l.tasks m1 = let_go_goes h l.live l.tasks t c.args.name w in
    let e1 : c.let_go_at.new.self ≡ m1 = c.let_go_at.ensures in
    subst (λ (ts : List Desk). Keeps (advanced a) (record l { tasks = ts })) (sym (c.begin_at.ensures ∙ ap (λ (ts : List Desk). begun_one ts t) e1)) (keeps_call a l m1 t (after.let_go (store_at a) t c.args.name) k g1 (ap (λ (x : Store). after.let_go x t c.args.name) k.store ∙ let_go_is h l.live l.tasks t c.args.name) v)
