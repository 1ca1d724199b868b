use Rattle.std.proofs.Common.{◌≡◌, take}
use Rattle.vch_report.specs.Numerals as numerals
use Rattle.vch_report.proofs.numerals.is_lower.Given as goal

abbrev pub invariant-loop-byte : goal.invariant-loop-byte
invariant-loop-byte l = l.lower ≡ numerals.is_lower (take l.byte-index l.word)
