use Rattle.std.proofs.Common.{◌≡◌, refl, ◌+◌, ◌-◌, ◌*◌, ◌^◌, ◌<◌, ◌∙◌, sym, inl, arith, get_or}
use Rattle.vch_text.proofs.NumberSteps.{number_other, number_end}
use Rattle.vch_text.proofs.Amounts.{exact_none, digit_over, digit_below}
use Rattle.vch_text.proofs.numbers.wide_digits.Goals as goal

pub returns-then-not-is_ascii_digit : goal.returns-then-not-is_ascii_digit
returns-then-not-is_ascii_digit c =
    let w = c.args.word.now in
    inl (number_other (2 ^ 128) c.loop-byte.n c.loop-byte.byte-index w _ c.loop-byte-test.true (sym c.is_ascii_digit.ensures.value ∙ c.if-not-is_ascii_digit.true) c.loop-byte.invariant.same)

pub returns-in_err-checked_mul : goal.returns-in_err-checked_mul
returns-in_err-checked_mul c =
    let w = c.args.word.now in
    let i = c.loop-byte.byte-index in
    let large : c.loop-byte.n * 10 + (get_or w i 0 - 48) < 2 ^ 128 → ⊥ = λ small. c.in_err-checked_mul.ensures (omega arith) in
    exact_none (2 ^ 128) _ c.from_residual.result c.from_residual.ensures
    (digit_over (2 ^ 128) c.loop-byte.n (get_or w i 0 - 48) i w _ c.loop-byte-test.true (sym c.is_ascii_digit.ensures.value ∙ c.if-not-is_ascii_digit.false) refl large c.loop-byte.invariant.same)

pub returns-in_err-n : goal.returns-in_err-n
returns-in_err-n c =
    let w = c.args.word.now in
    let large : c.loop-byte.n * 10 + c.from.result < 2 ^ 128 → ⊥ = λ small. c.in_err-n.ensures (omega (arith, c.in_ok-checked_mul.ensures)) in
    exact_none (2 ^ 128) _ c.from_residual-in_err-n.result c.from_residual-in_err-n.ensures
    (digit_over (2 ^ 128) c.loop-byte.n c.from.result c.loop-byte.byte-index w _ c.loop-byte-test.true (sym c.is_ascii_digit.ensures.value ∙ c.if-not-is_ascii_digit.false) c.from.ensures large c.loop-byte.invariant.same)

pub loop-byte-preserved : goal.loop-byte-preserved
loop-byte-preserved c =
    let w = c.args.word.now in
    let sum : c.in_ok-n.n ≡ c.loop-byte.n * 10 + c.from.result = omega (arith, c.in_ok-n.ensures, c.in_ok-checked_mul.ensures) in
    let small : c.in_ok-n.n < 2 ^ 128 = omega (arith, c.in_ok-n.ensures) in
    record {
      same = digit_below (2 ^ 128) c.loop-byte.n c.from.result c.in_ok-n.n c.loop-byte.byte-index w _ c.loop-byte-test.true (sym c.is_ascii_digit.ensures.value ∙ c.if-not-is_ascii_digit.false) c.from.ensures sum small c.loop-byte.invariant.same;
      small = small;
    }

pub returns : goal.returns
returns c = (sym c.loop-byte.invariant.same ∙ number_end (2 ^ 128) c.loop-byte.n c.loop-byte.byte-index c.args.word.now c.loop-byte-test.false, c.loop-byte.invariant.small)
