use Rattle.std.proofs.Common.{◌≤◌, length}
use Rattle.vch_report.proofs.words.Chains.{IsLed}
use Rattle.vch_report.proofs.values.chain.Given as goal

abbrev pub invariant-loop-rest : goal.invariant-loop-rest
invariant-loop-rest l = IsLed l.word l.list l.rest × (length l.list ≤ 8)

abbrev pub decreases-loop-rest : goal.decreases-loop-rest
decreases-loop-rest l = length l.rest
