use Rattle.std.proofs.Common.{◌≡◌, List, take}
use Rattle.vch_model.specs.declared.entry.Entry.{Entry}
use Rattle.vch_model.specs.Text.{totals_of}
use Rattle.vch_sums.specs.Summed.{IsSummed}
use Rattle.vch_plain.proofs.told.totals.Given as goal

abbrev pub invariant-loop-i : goal.invariant-loop-i
invariant-loop-i l = (past : List Entry) → IsSummed l.scenario past l.sums → l.made ≡ take l.i (totals_of l.scenario past)
