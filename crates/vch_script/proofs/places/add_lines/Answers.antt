use Rattle.std.proofs.Common.{arith}
use Rattle.vch_script.proofs.finding.Placing.{adds_next, adds_all}
use Rattle.vch_script.proofs.places.add_lines.Goals as goal

pub loop-line-preserved : goal.loop-line-preserved
loop-line-preserved c =
    adds_next c.args.phases.now c.args.phase c.loop-line.line c.args.places.now c.loop-line.places c.add.new.self c.at-lines.result.now c.at.result.now c.loop-line.invariant c.requires.tasks c.at-lines.ensures c.at.ensures c.in_ok-add.ensures

pub returns : goal.returns
returns c =
    adds_all c.args.phases.now c.args.phase c.loop-line.line c.len-line-end.result c.args.places.now c.loop-line.places c.at-lines.result.now c.loop-line.invariant c.at-lines.ensures c.len-line-end.ensures (omega arith)
