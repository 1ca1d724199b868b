use Rattle.std.proofs.Common.{◌≡◌, take}
use Rattle.vch_parts.proofs.start.limits_of.Given as goal

abbrev pub invariant-loop-i : goal.invariant-loop-i
invariant-loop-i l = l.made.items ≡ take l.i l.list
