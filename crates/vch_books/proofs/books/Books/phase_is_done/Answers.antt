use Rattle.std.proofs.Common.{◌+◌, ◌≤◌, ap, subst, length}
use Rattle.vch_books.specs.Audits.{Audit}
use Rattle.vch_books.specs.Kept.{Lists, Keeps}
use Rattle.std.specs.Prelude.{IsTrue, ◌↔◌, List}
use Rattle.vch_base.specs.Tasks.{at_task}
use Rattle.vch_model.specs.declared.lists.Scenario.{Scenario}
use Rattle.vch_model.specs.Legal.{EachTask}
use Rattle.vch_model.specs.Lines.{lines_until}
use Rattle.vch_books.specs.Desks.{Desk, empty_desk}
use Rattle.vch_books.proofs.Ends.{done_kept}
use Rattle.vch_books.proofs.books.Books.phase_is_done.Goals as goal

pub returns : goal.returns
returns c =
    let s = c.self.inside in
    let a = c.args.self.now in
    let l : Lists = record { tasks = s.tasks; live = s.live.value.numbers; phases = s.phases; places = s.places; sums = s.sums.value } in
    let k : Keeps a l = subst (λ (x : Audit). Keeps x l) c.self.view_is c.self.invariant in
    let own = ap (λ (x : Audit). x.history) c.self.view_is in
    let r = c.all_begun.result in
    let e2 = subst (λ (sc : Scenario). IsTrue r ↔ EachTask (length l.tasks) (λ t. lines_until sc (s.phases + 1) t ≤ (at_task l.tasks t empty_desk).begun)) (ap (λ (x : Audit). x.scenario) c.self.view_is) c.all_begun.ensures in
    done_kept a l r k e2
