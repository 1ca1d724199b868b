use Rattle.std.proofs.Common.{◌≡◌, ◌≤◌, ◌+◌, length}
use Rattle.vch_model.specs.TextLines.{split_of}
use Rattle.vch_report.specs.Reading as reading
use Rattle.vch_report.proofs.reader.read_lines.Given as goal

abbrev pub invariant-loop-line : goal.invariant-loop-line
invariant-loop-line l = record {
  few : length l.draft.totals + 1 ≤ l.number;
  counted : l.number + length l.rest ≤ 1 + length l.bytes;
  same : reading.read_text l.number (reading.kept l.draft) (split_of l.rest) ≡ reading.read_of l.bytes;
}

abbrev pub decreases-loop-line : goal.decreases-loop-line
decreases-loop-line l = length l.rest
