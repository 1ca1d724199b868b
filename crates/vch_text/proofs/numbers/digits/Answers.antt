use Rattle.std.proofs.Common.{◌∙◌, sym, ap, arith, drop, min, ◌≡◌, ◌+◌, ◌*◌, ◌-◌, get_or}
use Rattle.vch_text.specs.Numbers.{number_after}
use Rattle.vch_model.specs.Grammar.{top}
use Rattle.vch_text.proofs.NumberSteps.{number_digit, number_other, number_end}
use Rattle.vch_text.proofs.numbers.digits.Goals as goal

pub returns-then-not-is_ascii_digit-clause-told : goal.returns-then-not-is_ascii_digit-clause-told
returns-then-not-is_ascii_digit-clause-told c =
    let w = c.args.word.now in
    let i = c.loop-byte.byte-index in
    number_other top c.loop-byte.n i w _ (omega arith) (sym c.is_ascii_digit.ensures.value ∙ c.if-not-is_ascii_digit.true) c.loop-byte.invariant.0

pub loop-byte-preserved : goal.loop-byte-preserved
loop-byte-preserved c =
    let w = c.args.word.now in
    let i = c.loop-byte.byte-index in
    let n : c.min-n.result ≡ min (c.loop-byte.n * 10 + (get_or w i 0 - 48)) top = c.min-n.ensures ∙ ap (λ x. min (c.loop-byte.n * 10 + x) top) c.from.ensures in
    (ap (λ x. number_after top x (drop (i + 1) w)) n ∙ number_digit top c.loop-byte.n i w _ (omega arith) (sym c.is_ascii_digit.ensures.value ∙ c.if-not-is_ascii_digit.false) c.loop-byte.invariant.0, omega arith)

pub returns-clause-told : goal.returns-clause-told
returns-clause-told c = sym c.loop-byte.invariant.0 ∙ number_end top c.loop-byte.n c.loop-byte.byte-index c.args.word.now (omega arith)
