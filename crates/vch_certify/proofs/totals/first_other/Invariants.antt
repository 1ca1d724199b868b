use Rattle.vch_model.specs.Text.{totals_of}
use Rattle.vch_books.specs.Audits.{past_at}
use Rattle.vch_certify.proofs.TaskTotals.{AgreeBelow}
use Rattle.vch_certify.proofs.totals.first_other.Given as goal

abbrev pub invariant-loop-i : goal.invariant-loop-i
invariant-loop-i l = AgreeBelow l.totals (totals_of l.books.scenario (past_at l.books)) l.i
