use Rattle.std.proofs.Common.{◌≡◌, ◌++◌, take}
use Rattle.std.specs.List.{flat_map}
use Rattle.vch_replay.specs.Lines.{recipe_line}
use Rattle.vch_replay.proofs.listing.push_recipes.Given as goal

abbrev pub invariant-loop-i : goal.invariant-loop-i
invariant-loop-i l = l.out.items ≡ l.initial.out.items ++ flat_map recipe_line (take l.i l.records)
