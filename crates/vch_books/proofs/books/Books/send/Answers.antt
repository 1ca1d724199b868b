use Rattle.std.proofs.Common.{◌≡◌, ◌<◌, ◌≤◌, ap, sym, ◌∙◌, subst, length, true}
use Rattle.vch_books.specs.Audits.{Audit}
use Rattle.vch_books.specs.Kept.{Lists, Keeps}
use Rattle.std.specs.Prelude.{List, ◌++◌, ◌∷◌, []}
use Rattle.vch_base.specs.Tasks.{at_task, set_task}
use Rattle.vch_model.specs.Store.{Store}
use Rattle.vch_model.specs.After as after
use Rattle.vch_books.specs.Desks.{Desk, empty_desk}
use Rattle.vch_books.specs.Numbered.{message_of}
use Rattle.vch_books.specs.Audits.{store_at, advanced, Leaves, IsGoodOption}
use Rattle.vch_books.specs.Going.{Goes}
use Rattle.vch_books.proofs.Effects.{append_goes, append_is}
use Rattle.vch_books.proofs.Advancing.{begun_one, keeps_call, within_of, within_after, few_after, option_stands_of}
use Rattle.vch_model.specs.Lines.{is_task}
use Rattle.vch_books.proofs.Keeping.{task_within}
use Rattle.vch_books.proofs.books.Books.send.Goals as goal

pub append_at-requires : goal.append_at-requires
append_at-requires c =
    let s = c.self.inside in
    let a : Audit = record { scenario = s.scenario.now; history = s.live.value.history; taken = s.taken } in
    let l : Lists = record { tasks = s.tasks; live = s.live.value.numbers; phases = s.phases; places = s.places; sums = s.sums.value } in
    let h = a.history in
    let t = c.args.task in
    let k : Keeps a l = c.self.invariant in
    let v : Leaves a t (after.appended (store_at a) c.args.to (message_of a.history c.args.message)) = subst (λ (x : Audit). Leaves x t (after.appended (store_at x) c.args.to (message_of x.history c.args.message))) (sym c.self.view_is) c.requires.next in
    let w = within_of a l t (after.appended (store_at a) c.args.to (message_of a.history c.args.message)) k v in
    let good = option_stands_of a l c.args.message.voucher k (subst (λ (x : Audit). IsGoodOption x c.args.message.voucher) (sym c.self.view_is) c.requires.good) in
    let to = task_within a l k c.args.to (subst (λ (x : Audit). is_task x.scenario c.args.to ≡ true) (sym c.self.view_is) c.requires.to) in
    to

pub begin_at-requires-clause-task : goal.begin_at-requires-clause-task
begin_at-requires-clause-task c =
    let s = c.self.inside in
    let a : Audit = record { scenario = s.scenario.now; history = s.live.value.history; taken = s.taken } in
    let l : Lists = record { tasks = s.tasks; live = s.live.value.numbers; phases = s.phases; places = s.places; sums = s.sums.value } in
    let h = a.history in
    let t = c.args.task in
    let k : Keeps a l = c.self.invariant in
    let v : Leaves a t (after.appended (store_at a) c.args.to (message_of a.history c.args.message)) = subst (λ (x : Audit). Leaves x t (after.appended (store_at x) c.args.to (message_of x.history c.args.message))) (sym c.self.view_is) c.requires.next in
    let w = within_of a l t (after.appended (store_at a) c.args.to (message_of a.history c.args.message)) k v in
    let good = option_stands_of a l c.args.message.voucher k (subst (λ (x : Audit). IsGoodOption x c.args.message.voucher) (sym c.self.view_is) c.requires.good) in
    let to = task_within a l k c.args.to (subst (λ (x : Audit). is_task x.scenario c.args.to ≡ true) (sym c.self.view_is) c.requires.to) in
    let m1 : List Desk = set_task l.tasks c.args.to (record (at_task l.tasks c.args.to empty_desk) { queue = (at_task l.tasks c.args.to empty_desk).queue ++ c.args.message ∷ [] }) in
    let g1 : Goes h l.live l.tasks m1 = append_goes h l.live l.tasks c.args.to c.args.message to good in
    let e1 : c.in_ok-self-inside.field-0 ≡ m1 = c.in_ok-self-inside.ensures in
    subst (λ (ts : List Desk). (1 ≤ t) × (t ≤ length ts)) (sym e1) (within_after a l m1 t g1 w)

pub begin_at-requires-clause-few : goal.begin_at-requires-clause-few
begin_at-requires-clause-few c =
    let s = c.self.inside in
    let a : Audit = record { scenario = s.scenario.now; history = s.live.value.history; taken = s.taken } in
    let l : Lists = record { tasks = s.tasks; live = s.live.value.numbers; phases = s.phases; places = s.places; sums = s.sums.value } in
    let h = a.history in
    let t = c.args.task in
    let k : Keeps a l = c.self.invariant in
    let v : Leaves a t (after.appended (store_at a) c.args.to (message_of a.history c.args.message)) = subst (λ (x : Audit). Leaves x t (after.appended (store_at x) c.args.to (message_of x.history c.args.message))) (sym c.self.view_is) c.requires.next in
    let w = within_of a l t (after.appended (store_at a) c.args.to (message_of a.history c.args.message)) k v in
    let good = option_stands_of a l c.args.message.voucher k (subst (λ (x : Audit). IsGoodOption x c.args.message.voucher) (sym c.self.view_is) c.requires.good) in
    let to = task_within a l k c.args.to (subst (λ (x : Audit). is_task x.scenario c.args.to ≡ true) (sym c.self.view_is) c.requires.to) in
    let m1 : List Desk = set_task l.tasks c.args.to (record (at_task l.tasks c.args.to empty_desk) { queue = (at_task l.tasks c.args.to empty_desk).queue ++ c.args.message ∷ [] }) in
    let g1 : Goes h l.live l.tasks m1 = append_goes h l.live l.tasks c.args.to c.args.message to good in
    let e1 : c.in_ok-self-inside.field-0 ≡ m1 = c.in_ok-self-inside.ensures in
    subst (λ (ts : List Desk). (at_task ts t empty_desk).begun < 4294967295) (sym e1) (few_after a l m1 t k g1)

pub invariant_of-self : goal.invariant_of-self
invariant_of-self c =
    let s = c.self.inside in
    let a : Audit = record { scenario = s.scenario.now; history = s.live.value.history; taken = s.taken } in
    let l : Lists = record { tasks = s.tasks; live = s.live.value.numbers; phases = s.phases; places = s.places; sums = s.sums.value } in
    let h = a.history in
    let t = c.args.task in
    let k : Keeps a l = c.self.invariant in
    let v : Leaves a t (after.appended (store_at a) c.args.to (message_of a.history c.args.message)) = subst (λ (x : Audit). Leaves x t (after.appended (store_at x) c.args.to (message_of x.history c.args.message))) (sym c.self.view_is) c.requires.next in
    let w = within_of a l t (after.appended (store_at a) c.args.to (message_of a.history c.args.message)) k v in
    let good = option_stands_of a l c.args.message.voucher k (subst (λ (x : Audit). IsGoodOption x c.args.message.voucher) (sym c.self.view_is) c.requires.good) in
    let to = task_within a l k c.args.to (subst (λ (x : Audit). is_task x.scenario c.args.to ≡ true) (sym c.self.view_is) c.requires.to) in
    let m1 : List Desk = set_task l.tasks c.args.to (record (at_task l.tasks c.args.to empty_desk) { queue = (at_task l.tasks c.args.to empty_desk).queue ++ c.args.message ∷ [] }) in
    let g1 : Goes h l.live l.tasks m1 = append_goes h l.live l.tasks c.args.to c.args.message to good in
    let e1 : c.in_ok-self-inside.field-0 ≡ m1 = c.in_ok-self-inside.ensures in
    subst (λ (ts : List Desk). Keeps (advanced a) (record l { tasks = ts })) (sym (c.begin_at.ensures ∙ ap (λ (ts : List Desk). begun_one ts t) e1)) (keeps_call a l m1 t (after.appended (store_at a) c.args.to (message_of a.history c.args.message)) k g1 (ap (λ (x : Store). after.appended x c.args.to (message_of h c.args.message)) k.store ∙ append_is h l.live l.tasks c.args.to c.args.message) v)
