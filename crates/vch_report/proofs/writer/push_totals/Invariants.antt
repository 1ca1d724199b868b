use Rattle.std.proofs.Common.{◌≡◌, ◌++◌, take}
use Rattle.vch_model.specs.Text.{total_lines}
use Rattle.vch_report.proofs.writer.push_totals.Given as goal

abbrev pub invariant-loop-i : goal.invariant-loop-i
invariant-loop-i l = l.out.items ≡ l.initial.out.items ++ total_lines 1 (take l.i l.totals)
