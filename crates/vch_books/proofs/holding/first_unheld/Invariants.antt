use Rattle.std.proofs.Common.{◌≡◌}
use Rattle.vch_books.specs.Holding as holding
use Rattle.vch_books.proofs.holding.first_unheld.Given as goal

abbrev pub invariant-loop-number : goal.invariant-loop-number
invariant-loop-number l =
    (goal.iterator-loop-number).can_next l.number-iterator
    × (goal.iterator-loop-number).is_finite l.number-iterator
    × (holding.first_unheld l.tasks l.number-iterator ≡ holding.first_unheld l.tasks l.live.numbers)
