use Rattle.std.proofs.Common.{◌≡◌, ◌*◌, ◌+◌, ◌<◌, ◌⊎◌, None, slice_index, ap, arith, inl, inr}
use Rattle.hex.specs.Hex.{decode_pairs}
use Rattle.hex.proofs.Pairs.{decode_step, decode_done, decode_err}
use Rattle.vch_text.specs.Digits.{from_decoded}
use Rattle.vch_text.proofs.DigitPairs.{good_pair, bad_pair}
use Rattle.vch_text.proofs.digits.fill.Goals.{then-high-gt15-via-then-high-gt15, then-high-gt15-via-else-high-gt15+then-low-gt15}
use Rattle.vch_text.proofs.digits.fill.Goals as goal

pub returns-then-high-gt15 : goal.returns-then-high-gt15
returns-then-high-gt15 c =
    let bad : (15 < c.digit-high.result) ⊎ (15 < c.digit-low.result) = elim c.then-high-gt15.branch [ then-high-gt15-via-then-high-gt15 w ↦ inl (let p = w.if-high-gt15 in omega arith) | then-high-gt15-via-else-high-gt15+then-low-gt15 w ↦ inr (let p = w.if-low-gt15 in omega arith) ] in
    bad_pair {R = from_decoded (decode_pairs 0 c.args.digits.now) ≡ None} (slice_index c.args.digits.now (2 * c.pairs.i)) (slice_index c.args.digits.now (2 * c.pairs.i + 1)) (2 * c.pairs.i) _ _ _ _ c.digit-high.ensures c.digit-low.ensures bad
    (λ e wrong. ap from_decoded (decode_err c.args.digits.now c.pairs.bytes c.pairs.i e (omega arith) wrong c.pairs.invariant))

pub pairs-preserved : goal.pairs-preserved
pairs-preserved c =
    decode_step _ _ c.pairs.i _ (omega arith) (omega arith)
    (good_pair _ _ (2 * c.pairs.i) _ _ _ _ c.digit-high.ensures c.digit-low.ensures (omega arith) (omega arith)) c.pairs.invariant

pub returns : goal.returns
returns c = ap from_decoded (decode_done _ c.pairs.bytes c.pairs.i (omega arith) (omega arith) c.pairs.invariant)
