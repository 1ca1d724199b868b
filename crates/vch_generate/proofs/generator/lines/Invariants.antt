use Rattle.vch_generate.specs.Generating.{IsOnTheWay}
use Rattle.vch_generate.proofs.generator.lines.Given as goal

abbrev pub invariant-loop-number : goal.invariant-loop-number
invariant-loop-number l = IsOnTheWay l.n l.number l.drawing.draws.seed l.drawing.names l.lines
