use Rattle.std.proofs.Common.{◌≡◌, ◌≤◌, ◌+◌, length}
use Rattle.vch_scenario.specs.Whole as whole
use Rattle.vch_model.specs.TextLines.{split_of}
use Rattle.vch_scenario.proofs.reader.read_lines.Given as goal

abbrev pub invariant-loop-line : goal.invariant-loop-line
invariant-loop-line l = record {
  fitting : whole.IsFitting l.draft;
  counted : l.number + length l.rest ≤ 1 + length l.bytes;
  same : whole.read_text l.number l.draft (split_of l.rest) ≡ whole.read_of l.bytes;
}

abbrev pub decreases-loop-line : goal.decreases-loop-line
decreases-loop-line l = length l.rest
