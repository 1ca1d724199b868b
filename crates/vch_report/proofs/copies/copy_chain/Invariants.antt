use Rattle.std.proofs.Common.{◌≡◌, take}
use Rattle.vch_report.proofs.copies.copy_chain.Given as goal

abbrev pub invariant-loop-i : goal.invariant-loop-i
invariant-loop-i l = l.made ≡ take l.i l.list
