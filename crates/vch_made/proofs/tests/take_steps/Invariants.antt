use Rattle.std.proofs.Common.{◌≡◌, IfSome}
use Rattle.vch_made.specs.Seats.{Seated}
use Rattle.vch_made.proofs.tests.take_steps.Given as goal

abbrev pub invariant-loop-step : goal.invariant-loop-step
invariant-loop-step l = (l.seats.a.row ≡ l.row) × IfSome l.seats.b (λ (b : Seated). b.row ≡ l.row)
