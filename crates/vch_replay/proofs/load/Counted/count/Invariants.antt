use Rattle.std.proofs.Common.{◌≡◌, ◌≤◌, take}
use Rattle.std.specs.List.{count_by}
use Rattle.vch_replay.specs.Loads.{is_counted}
use Rattle.vch_replay.proofs.load.Counted.count.Given as goal

abbrev pub invariant-loop-i : goal.invariant-loop-i
invariant-loop-i l = (l.count ≡ count_by (is_counted l.self) (take l.i l.history.entries)) × (l.count ≤ l.i)
