use Rattle.std.proofs.Common.{◌≡◌, ◌≤◌, drop}
use Rattle.vch_text.specs.Numbers.{number_after}
use Rattle.vch_model.specs.Grammar.{top}
use Rattle.vch_text.proofs.numbers.digits.Given as goal

abbrev pub invariant-loop-byte : goal.invariant-loop-byte
invariant-loop-byte l = (number_after top l.n (drop l.byte-index l.word) ≡ number_after top 0 l.word) × (l.n ≤ 4294967296)
