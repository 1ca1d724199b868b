use Rattle.std.proofs.Common.{◌+◌, ◌≤◌, length}
use Rattle.vch_header.proofs.Lines.{IsDone}
use Rattle.vch_header.proofs.translation.translate_lines.Given as goal

abbrev pub invariant-loop-line : goal.invariant-loop-line
invariant-loop-line l = record {
  counted : l.number + length l.rest ≤ 1 + length l.text;
  done : IsDone l.text l.rest l.out.items l.number;
}

abbrev pub decreases-loop-line : goal.decreases-loop-line
decreases-loop-line l = length l.rest
