use Rattle.std.proofs.Common.{◌≡◌, ◌++◌, take}
use Rattle.vch_replay.specs.Loads.{ledger_lines}
use Rattle.vch_replay.proofs.load.push_ledgers.Given as goal

abbrev pub invariant-loop-i : goal.invariant-loop-i
invariant-loop-i l = l.out.items ≡ l.initial.out.items ++ ledger_lines 1 (take l.i l.totals)
