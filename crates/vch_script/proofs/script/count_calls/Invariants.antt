use Rattle.std.proofs.Common.{◌≡◌, ◌+◌, drop}
use Rattle.vch_model.specs.Scenarios.{line_count}
use Rattle.vch_script.proofs.script.count_calls.Given as goal

abbrev pub invariant-loop-i : goal.invariant-loop-i
invariant-loop-i l = l.count + line_count (drop l.i l.phases) ≡ line_count l.phases
