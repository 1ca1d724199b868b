use Rattle.std.proofs.Common.{ℕ, ◌<◌, ◌≤◌}
use Rattle.vch_parts.specs.Phases.{IsQuiet}
use Rattle.vch_parts.proofs.phase.all_quiet.Given as goal

abbrev pub invariant-loop-ended : goal.invariant-loop-ended
invariant-loop-ended l = (t : ℕ) → 0 < t → t ≤ l.ended → IsQuiet l.parts t
