use Rattle.vch_runs.proofs.Passing.{line_in, count_line, count_fits}
use Rattle.std.proofs.Common.{◌-◌, ◌^◌, arith}
use Rattle.vch_runs.proofs.turn.pass_lines.Goals as goal

pub overflow_add-passed : goal.overflow_add-passed
overflow_add-passed c = let a =
    count_fits c.args.passed.now c.loop-i.passed c.args.lines.now c.loop-i.i c.at.result.now c.requires.tasks c.at.ensures c.loop-i.invariant (2 ^ 32) (c.requires.few (c.at.result.now.task - 1)) in omega (arith, a)

pub bounds-passed-at-in-loop-i : goal.bounds-passed-at-in-loop-i
bounds-passed-at-in-loop-i c = let n = line_in c.args.lines.now c.loop-i.i c.at.result.now c.requires.tasks c.at.ensures in let a = n.0 in let b = n.1 in omega (arith, a, b)

pub loop-i-preserved : goal.loop-i-preserved
loop-i-preserved c = count_line c.args.passed.now c.loop-i.passed c.args.lines.now c.loop-i.i c.at.result.now c.told-passed c.requires.tasks c.at.ensures c.loop-i.invariant
