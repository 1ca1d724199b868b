use Rattle.vch_script.specs.Places.{AddsLines}
use Rattle.vch_script.proofs.places.add_lines.Given as goal

abbrev pub invariant-loop-line : goal.invariant-loop-line
invariant-loop-line l = AddsLines l.phases l.phase l.line l.initial.places l.places
