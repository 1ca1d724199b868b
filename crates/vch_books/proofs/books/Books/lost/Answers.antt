use Rattle.std.proofs.Common.{ap, sym, ◌∙◌, subst, refl}
use Rattle.vch_books.specs.Audits.{Audit}
use Rattle.vch_books.specs.Kept.{Lists, Keeps}
use Rattle.std.specs.Prelude.{List}
use Rattle.vch_base.specs.Tasks.{at_task, set_task}
use Rattle.vch_model.specs.declared.entry.Entry.TheVariants as entries
use Rattle.vch_model.specs.Store as store
use Rattle.vch_model.specs.Store.{Store}
use Rattle.vch_model.specs.After as after
use Rattle.vch_books.specs.Desks.{Desk, empty_desk}
use Rattle.vch_books.specs.Audits.{store_at, advanced, IsNext, rest_of}
use Rattle.vch_books.specs.Going.{Goes}
use Rattle.vch_books.proofs.Effects.{take_goes, take_is}
use Rattle.vch_books.proofs.Advancing.{keeps_goes, exit_within, lost_is}
use Rattle.vch_model.specs.declared.call.Call.TheVariants as calls
use Rattle.vch_books.proofs.books.Books.lost.Goals as goal

pub take_first_at-requires : goal.take_first_at-requires
take_first_at-requires c =
    let s = c.self.inside in
    let a : Audit = record { scenario = s.scenario.now; history = s.live.value.history; taken = s.taken } in
    let l : Lists = record { tasks = s.tasks; live = s.live.value.numbers; phases = s.phases; places = s.places; sums = s.sums.value } in
    let h = a.history in
    let t = c.args.task in
    let k : Keeps a l = c.self.invariant in
    let n : IsNext a (entries.Lost t) = subst (λ (x : Audit). IsNext x (entries.Lost t)) (sym c.self.view_is) c.requires.next in
    let w = exit_within a l t calls.Exit k n.follows.0 in
    w

pub invariant_of-self : goal.invariant_of-self
invariant_of-self c =
    let s = c.self.inside in
    let a : Audit = record { scenario = s.scenario.now; history = s.live.value.history; taken = s.taken } in
    let l : Lists = record { tasks = s.tasks; live = s.live.value.numbers; phases = s.phases; places = s.places; sums = s.sums.value } in
    let h = a.history in
    let t = c.args.task in
    let k : Keeps a l = c.self.invariant in
    let n : IsNext a (entries.Lost t) = subst (λ (x : Audit). IsNext x (entries.Lost t)) (sym c.self.view_is) c.requires.next in
    let w = exit_within a l t calls.Exit k n.follows.0 in
    let m : List Desk = set_task l.tasks t (record (at_task l.tasks t empty_desk) { queue = rest_of (at_task l.tasks t empty_desk).queue }) in
    let g : Goes h l.live l.tasks m = take_goes h l.live l.tasks t w in
    subst (λ (ts : List Desk). Keeps (advanced a) (record l { tasks = ts })) (sym c.take_first_at.ensures) (keeps_goes a l m (entries.Lost t) k g n (lost_is (store_at a) t (store.member (store_at a) t).queue n.follows.2 ∙ (ap (λ (x : Store). after.taken_first x t (rest_of (store.member x t).queue)) k.store ∙ take_is h l.live l.tasks t)) (λ u. refl) refl refl)
