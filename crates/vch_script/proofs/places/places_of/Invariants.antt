use Rattle.std.proofs.Common.{length, take}
use Rattle.vch_model.specs.Lines.{lines_from}
use Rattle.vch_script.specs.Places.{Placed}
use Rattle.vch_script.proofs.places.places_of.Given as goal

abbrev pub invariant-loop-phase : goal.invariant-loop-phase
invariant-loop-phase l = Placed (length l.scenario.flags) l.scenario.phases (lines_from 1 (take l.phase l.scenario.phases)) l.places
