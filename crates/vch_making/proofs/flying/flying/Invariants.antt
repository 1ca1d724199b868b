use Rattle.std.proofs.Common.{◌≡◌, ◌≤◌, length, take}
use Rattle.vch_making.specs.Answers.{receipts_in}
use Rattle.vch_making.proofs.flying.flying.Given as goal

abbrev pub invariant-loop-i : goal.invariant-loop-i
invariant-loop-i l = (l.count ≡ length (receipts_in l.fn.key (take l.i l.fn.frames))) × (l.count ≤ l.i)
