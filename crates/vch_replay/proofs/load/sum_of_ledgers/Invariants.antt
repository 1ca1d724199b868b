use Rattle.std.proofs.Common.{◌≡◌, take}
use Rattle.vch_replay.specs.Loads.{credited}
use Rattle.vch_replay.proofs.load.sum_of_ledgers.Given as goal

abbrev pub invariant-loop-i : goal.invariant-loop-i
invariant-loop-i l = l.sum ≡ credited (take l.i l.totals)
