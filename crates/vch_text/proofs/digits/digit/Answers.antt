use Rattle.std.proofs.Common.{arith, refl}
use Rattle.vch_text.specs.declared.digits.TheConstants.{DIGITS}
use Rattle.vch_text.proofs.DigitPairs.{from_table, right_below, is_digit}
use Rattle.vch_text.proofs.digits.digit.Goals as goal

pub returns : goal.returns
unfolding right_below is_digit
returns c = from_table DIGITS c.args.c (omega arith) refl
