use Rattle.std.proofs.Common.{[], ap, sym, subst, ◌∙◌, refl}
use Rattle.vch_books.specs.Audits.{Audit}
use Rattle.vch_books.specs.Kept.{Lists, Keeps}
use Rattle.vch_books.specs.Living.{Living}
use Rattle.std.proofs.Common.{replicate}
use Rattle.vch_books.specs.Desks.{empty_desk}
use Rattle.vch_books.proofs.Keeping.{keeps_start}
use Rattle.vch_sums.specs.Summed.{Summed, IsSummed}
use Rattle.vch_books.proofs.books.Books.open.Goals as goal

pub invariant_of-result : goal.invariant_of-result
invariant_of-result c =
    let a : Audit = record { scenario = c.args.scenario.now; history = c.args.history.now.entries; taken = 0 } in
    let l : Lists = record { tasks = c.in_ok-tasks.tasks; live = c.in_ok-live.live.value.numbers; phases = 0; places = c.in_ok-places.places; sums = c.in_ok-sums.sums.value } in
    subst (λ (x : Living). Keeps (record a { history = x.history }) (record l { live = x.numbers })) (sym (c.in_ok-live.ensures.ok ∙ c.new-live.ensures))
    (keeps_start a (record l { live = [] }) c.requires.limited c.requires.short refl (c.in_ok-tasks.ensures ∙ ap (λ n. replicate n empty_desk) c.len.ensures) refl refl c.in_ok-places.ensures (subst (λ (x : Summed). IsSummed a.scenario [] x) (sym c.in_ok-sums.ensures.ok) c.in_ok-rows.ensures))
