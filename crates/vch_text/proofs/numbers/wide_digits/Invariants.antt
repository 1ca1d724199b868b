use Rattle.std.proofs.Common.{◌≡◌, ◌<◌, ◌^◌, drop}
use Rattle.vch_text.specs.Numbers.{number_after}
use Rattle.vch_text.proofs.numbers.wide_digits.Given as goal

abbrev pub invariant-loop-byte : goal.invariant-loop-byte
invariant-loop-byte l = record { same : number_after (2 ^ 128) l.n (drop l.byte-index l.word) ≡ number_after (2 ^ 128) 0 l.word; small : l.n < 2 ^ 128 }
