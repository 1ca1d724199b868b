use Rattle.std.proofs.Common.{sym, subst, ap, ◌∙◌}
use Rattle.vch_books.specs.Audits.{Audit}
use Rattle.vch_books.specs.Kept.{Lists, Keeps, without_number}
use Rattle.std.specs.Prelude.{List}
use Rattle.vch_model.specs.declared.entry.Entry.TheVariants as entries
use Rattle.vch_books.specs.Audits.{past_at, advanced, IsNext}
use Rattle.vch_books.specs.Living.{Living}
use Rattle.vch_books.proofs.LiveChanges.{keeps_released}
use Rattle.vch_sums.specs.Summed.{Summed, Follows}
use Rattle.vch_books.proofs.books.Books.released.Goals as goal

pub invariant_of-self : goal.invariant_of-self
invariant_of-self c =
    let s = c.self.inside in
    let a : Audit = record { scenario = s.scenario.now; history = s.live.value.history; taken = s.taken } in
    let l : Lists = record { tasks = s.tasks; live = s.live.value.numbers; phases = s.phases; places = s.places; sums = s.sums.value } in
    let h = a.history in
    let k : Keeps a l = c.self.invariant in
    let n : IsNext a (entries.Released c.args.made) = subst (λ (x : Audit). IsNext x (entries.Released c.args.made)) (sym c.self.view_is) c.requires.next in
    let f = subst (λ (x : Summed). Follows a.scenario (past_at a) (entries.Released c.args.made) x c.released.new.self) c.deref_mut-2.ensures.value (c.in_ok-released.ensures a.scenario (past_at a)) in
    subst (λ (x : Living). Keeps (record (advanced a) { history = x.history }) (record l { live = x.numbers; sums = c.released.new.self })) (sym (c.remove.ensures ∙ ap (λ (x : Living). record x { numbers = without_number x.numbers c.args.made }) c.deref_mut.ensures.value)) (keeps_released a l c.released.new.self c.args.made k n f)
