use Rattle.vch_text.proofs.Decimals.{numeral_decimal, numeral_is}
use Rattle.vch_text.proofs.laws.numerals.Goals as goal

pub returns : goal.returns
returns c = λ w n lt. (λ h. numeral_decimal w n h lt, λ e. numeral_is w n lt e)
