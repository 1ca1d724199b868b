use Rattle.std.proofs.Common.{◌≡◌, ◌≤◌, arith, ap, sym, ◌∙◌, subst, Some, None, Option, refl, true}
use Rattle.vch_books.specs.Audits.{Audit}
use Rattle.vch_books.specs.Kept.{Lists, Keeps}
use Rattle.std.proofs.Common.{Bor}
use Rattle.std.specs.Prelude.{IfSome}
use Rattle.std.specs.Option.{option_copied}
use Rattle.vch_base.specs.Tasks.{at_task}
use Rattle.vch_model.specs.declared.call.Call.{Call}
use Rattle.vch_model.specs.Lines.{is_task}
use Rattle.vch_books.specs.Desks.{empty_desk}
use Rattle.vch_books.specs.Turns.{call_in_phase}
use Rattle.vch_books.proofs.Keeping.{few_kept, current_kept, current_task}
use Rattle.vch_books.proofs.books.Books.current.Goals as goal

if_some : (o : Option (Bor Call)) (p : Option Call) (T : Type 0) → option_copied o ≡ p → ((call : Call) → p ≡ Some call → T) → IfSome o (λ _. T)
if_some None p T e f = tt
if_some (Some b) p T e f = f b.now (sym e)

pub call_now-requires-clause-few : goal.call_now-requires-clause-few
call_now-requires-clause-few c =
    let s = c.self.inside in
    let l : Lists = record { tasks = s.tasks; live = s.live.value.numbers; phases = s.phases; places = s.places; sums = s.sums.value } in
    let k : Keeps c.args.self.now l = subst (λ (a : Audit). Keeps a l) c.self.view_is c.self.invariant in
    let few : (at_task s.tasks c.args.task empty_desk).begun ≤ 16384 = few_kept c.args.self.now l k c.args.task in
    let is : c.begun_at-begun.result ≡ (at_task s.tasks c.args.task empty_desk).begun = rw c.begun_at-begun.ensures refl in
    omega (arith, few, is)

pub returns-clause-call : goal.returns-clause-call
returns-clause-call c =
    let s = c.self.inside in
    let l : Lists = record { tasks = s.tasks; live = s.live.value.numbers; phases = s.phases; places = s.places; sums = s.sums.value } in
    let k : Keeps c.args.self.now l = subst (λ (a : Audit). Keeps a l) c.self.view_is c.self.invariant in
    let own = ap (λ (a : Audit). a.scenario) c.self.view_is in
    let is : c.begun_at-begun.result ≡ (at_task s.tasks c.args.task empty_desk).begun = rw c.begun_at-begun.ensures refl in
    c.call_now.ensures ∙ (ap (λ n. call_in_phase s.scenario.now c.args.task n s.phases) is
    ∙ (ap (λ sc. call_in_phase sc c.args.task (at_task s.tasks c.args.task empty_desk).begun s.phases) own ∙ current_kept c.args.self.now l k c.args.task))

pub returns-clause-task : goal.returns-clause-task
returns-clause-task c =
    let s = c.self.inside in
    let l : Lists = record { tasks = s.tasks; live = s.live.value.numbers; phases = s.phases; places = s.places; sums = s.sums.value } in
    let k : Keeps c.args.self.now l = subst (λ (a : Audit). Keeps a l) c.self.view_is c.self.invariant in
    let own = ap (λ (a : Audit). a.scenario) c.self.view_is in
    let is : c.begun_at-begun.result ≡ (at_task s.tasks c.args.task empty_desk).begun = rw c.begun_at-begun.ensures refl in
    if_some c.call_now.result (call_in_phase c.args.self.now.scenario c.args.task (at_task s.tasks c.args.task empty_desk).begun s.phases) (is_task c.args.self.now.scenario c.args.task ≡ true)
    (c.call_now.ensures ∙ (ap (λ n. call_in_phase s.scenario.now c.args.task n s.phases) is
    ∙ ap (λ sc. call_in_phase sc c.args.task (at_task s.tasks c.args.task empty_desk).begun s.phases) own))
    (λ call e. current_task c.args.self.now l k c.args.task call e)
