use Rattle.std.proofs.Common.{◌≡◌, ◌++◌, take}
use Rattle.vch_model.specs.Scenarios.{phase_items}
use Rattle.vch_model.specs.Canonical.{items_text}
use Rattle.vch_scenario.proofs.writer.push_phases.Given as goal

abbrev pub invariant-loop-i : goal.invariant-loop-i
invariant-loop-i l = l.out.items ≡ l.initial.out.items ++ items_text (phase_items (take l.i l.phases))
