use Rattle.std.proofs.Common.{ap, ◌∙◌, subst, Some, sym}
use Rattle.vch_books.specs.Audits.{Audit}
use Rattle.vch_books.specs.Kept.{Lists, Keeps}
use Rattle.vch_books.specs.Audits.{past_at}
use Rattle.vch_base.specs.declared.key.Key.TheVariants as keys
use Rattle.vch_base.specs.Values.{is_default}
use Rattle.vch_books.proofs.Counting.{stands_made}
use Rattle.vch_sums.specs.Summed.{Summed, IsSummed}
use Rattle.vch_books.proofs.books.Books.external.Goals as goal

pub returns : goal.returns
returns c =
    let s = c.self.inside in
    let a = c.args.self.now in
    let l : Lists = record { tasks = s.tasks; live = s.live.value.numbers; phases = s.phases; places = s.places; sums = s.sums.value } in
    let k : Keeps a l = subst (λ (x : Audit). Keeps x l) c.self.view_is c.self.invariant in
    λ list e. c.amount.ensures.external a.scenario (past_at a) list (subst (λ (x : Summed). IsSummed a.scenario (past_at a) x) (sym c.deref.ensures) k.summed)
    (stands_made a l keys.Importance c.args.number k c.requires (ap is_default e) ∙ ap (λ x. Some x) e)
