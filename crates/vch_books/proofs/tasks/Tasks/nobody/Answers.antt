use Rattle.std.proofs.Common.{List, ap, sym, ◌∙◌, subst, []}
use Rattle.vch_books.specs.Desks.{Desk}
use Rattle.vch_books.specs.declared.numbers.Numbers.{Numbers}
use Rattle.vch_books.specs.Holding.{AreHeld, all_numbers}
use Rattle.vch_books.proofs.Holdings.{nobody_holds}
use Rattle.vch_books.specs.declared.holders.Holders.{Holders}
use Rattle.vch_books.proofs.tasks.Tasks.nobody.Goals as goal

pub invariant_of-result : goal.invariant_of-result
invariant_of-result c = subst (λ (vs : List Numbers). AreHeld c.in_ok-holders.holders.value vs) (sym (ap all_numbers c.in_ok-members.ensures ∙ nobody_holds c.args.count)) (subst (λ (h : Holders). AreHeld h []) (sym c.in_ok-holders.ensures.ok) c.new.ensures)
