use Rattle.std.proofs.Common.{arith, length}
use Rattle.vch_script.proofs.finding.Placing.{placed_phase}
use Rattle.vch_script.proofs.places.places_of.Goals as goal

pub loop-phase-preserved : goal.loop-phase-preserved
loop-phase-preserved c = placed_phase (length c.args.scenario.now.flags) c.args.scenario.now.phases c.loop-phase.phase c.loop-phase.places c.add_lines.new.places (omega arith) c.loop-phase.invariant c.in_ok-add_lines.ensures
