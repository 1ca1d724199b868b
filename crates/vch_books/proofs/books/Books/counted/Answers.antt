use Rattle.std.proofs.Common.{◌≡◌, sym, subst, Some}
use Rattle.vch_books.specs.Audits.{Audit}
use Rattle.vch_books.specs.Kept.{Lists, Keeps}
use Rattle.std.specs.Prelude.{List}
use Rattle.vch_books.specs.Desks.{Desk}
use Rattle.vch_books.specs.Audits.{store_at, advanced}
use Rattle.vch_base.specs.declared.key.Key.TheVariants as keys
use Rattle.vch_model.specs.declared.call.Call.TheVariants as calls
use Rattle.vch_model.specs.Voucher.{value_in}
use Rattle.vch_model.specs.Totals.{named_voucher}
use Rattle.vch_books.specs.Audits.{Accepts}
use Rattle.vch_books.specs.Numbered.{StandsAt, numbered_value}
use Rattle.vch_books.proofs.Counting.{keeps_counted, accepts_within, few_before}
use Rattle.vch_sums.specs.Summed.{Summed, FollowsCount}
use Rattle.vch_books.proofs.books.Books.counted.Goals as goal

pub begin_at-requires-clause-task : goal.begin_at-requires-clause-task
begin_at-requires-clause-task c =
    let s = c.self.inside in
    let a : Audit = record { scenario = s.scenario.now; history = s.live.value.history; taken = s.taken } in
    let l : Lists = record { tasks = s.tasks; live = s.live.value.numbers; phases = s.phases; places = s.places; sums = s.sums.value } in
    let h = a.history in
    let t = c.args.task in
    let k : Keeps a l = c.self.invariant in
    let acc : Accepts a t (calls.Extern c.args.name c.args.adding c.args.n) = subst (λ (x : Audit). Accepts x t (calls.Extern c.args.name c.args.adding c.args.n)) (sym c.self.view_is) c.requires.next in
    accepts_within a l t (calls.Extern c.args.name c.args.adding c.args.n) k acc

pub begin_at-requires-clause-few : goal.begin_at-requires-clause-few
begin_at-requires-clause-few c =
    let s = c.self.inside in
    let a : Audit = record { scenario = s.scenario.now; history = s.live.value.history; taken = s.taken } in
    let l : Lists = record { tasks = s.tasks; live = s.live.value.numbers; phases = s.phases; places = s.places; sums = s.sums.value } in
    let h = a.history in
    let t = c.args.task in
    let k : Keeps a l = c.self.invariant in
    few_before a l t k

pub invariant_of-self : goal.invariant_of-self
invariant_of-self c =
    let s = c.self.inside in
    let a : Audit = record { scenario = s.scenario.now; history = s.live.value.history; taken = s.taken } in
    let l : Lists = record { tasks = s.tasks; live = s.live.value.numbers; phases = s.phases; places = s.places; sums = s.sums.value } in
    let h = a.history in
    let t = c.args.task in
    let k : Keeps a l = c.self.invariant in
    let acc : Accepts a t (calls.Extern c.args.name c.args.adding c.args.n) = subst (λ (x : Audit). Accepts x t (calls.Extern c.args.name c.args.adding c.args.n)) (sym c.self.view_is) c.requires.next in
    let named = subst (λ (x : Audit). value_in keys.Importance (named_voucher (store_at x) t c.args.name) ≡ Some (numbered_value x.history c.args.number)) (sym c.self.view_is) c.requires.named in
    let good = subst (λ (x : Audit). StandsAt x.history (store_at x).live keys.Importance (Some c.args.number)) (sym c.self.view_is) c.requires.good in
    subst (λ (ts : List Desk). Keeps (advanced a) (record l { tasks = ts; sums = c.counted.new.self })) (sym c.begin_at.ensures) (keeps_counted a l c.counted.new.self t c.args.name c.args.number c.args.adding c.args.n k acc named good (subst (λ (x : Summed). FollowsCount c.args.number c.args.adding c.args.n x c.counted.new.self) c.deref_mut.ensures.value c.in_ok-counted.ensures))
