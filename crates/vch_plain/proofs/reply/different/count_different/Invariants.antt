use Rattle.std.proofs.Common.{◌≡◌, ◌≤◌, ◌+◌, drop, length}
use Rattle.vch_plain.specs.Counted as counted
use Rattle.vch_plain.proofs.reply.different.count_different.Given as goal

abbrev pub invariant-loop-i : goal.invariant-loop-i
invariant-loop-i l = record {
  inside : l.count + l.i ≤ length l.all;
  found : l.count ≡ counted.different_handles (drop l.i l.all);
}

abbrev pub decreases-loop-i : goal.decreases-loop-i
decreases-loop-i l = l.i
