use Rattle.std.proofs.Common.{sym, subst}
use Rattle.vch_books.specs.Audits.{Audit}
use Rattle.vch_books.specs.Kept.{Lists, Keeps}
use Rattle.vch_model.specs.declared.entry.Entry.TheVariants as entries
use Rattle.vch_books.specs.Audits.{IsNext}
use Rattle.vch_books.proofs.Advancing.{keeps_phase}
use Rattle.vch_books.proofs.books.Books.phase.Goals as goal

pub invariant_of-self : goal.invariant_of-self
invariant_of-self c =
    let s = c.self.inside in
    let a : Audit = record { scenario = s.scenario.now; history = s.live.value.history; taken = s.taken } in
    let l : Lists = record { tasks = s.tasks; live = s.live.value.numbers; phases = s.phases; places = s.places; sums = s.sums.value } in
    let h = a.history in
    let k : Keeps a l = c.self.invariant in
    let n : IsNext a (entries.Phase) = subst (λ (x : Audit). IsNext x (entries.Phase)) (sym c.self.view_is) c.requires.next in
    keeps_phase a l k n
