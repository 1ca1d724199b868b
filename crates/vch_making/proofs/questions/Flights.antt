-- The receipts of the frames are those of the tasks.
use Rattle.std.proofs.Common.{◌≡◌, ℕ, zero, suc, ◌+◌, ◌<◌, ◌≤◌, ◌==◌, Bool, true, false, cond, List, [], ◌∷◌, ◌++◌, refl, arith, ap, sym, ◌∙◌, length, take, get_or, Option, Some, None, length-append}
use Rattle.std.specs.List.{flat_map}
use Rattle.vch_base.specs.declared.key.Key.{Key}
use Rattle.vch_base.specs.Tasks.{at_task}
use Rattle.vch_vouchers.specs.Desks.{Desk}
use Rattle.vch_parts.specs.declared.frame.Frame.{Frame}
use Rattle.vch_frame.specs.declared.frame.KeyReceipt.{KeyReceipt}
use Rattle.vch_parts.specs.declared.frames.Working.{Working}
use Rattle.vch_parts.specs.Plain.{Part}
use Rattle.vch_parts.specs.Framed.{resting}
use Rattle.vch_parts.specs.Pictures.{receipts_of, receipt_of, part_expects}
use Rattle.vch_base.specs.Keys.{same_key}
use Rattle.vch_parts.specs.Reached.{beside, parts_in}
use Rattle.vch_making.specs.Answers.{receipts_in}

one_at_most : (k : Key) (o : Option Frame) → length (receipts_of k o) ≤ 1
one_at_most k None = omega arith
one_at_most k (Some f) = by_receipt f.receipt
  where
    by_key : (r : KeyReceipt) (b : Bool) → length (cond b (r.receipt ∷ []) []) ≤ 1
    by_key r true = omega arith
    by_key r false = omega arith

    by_receipt : (o : Option KeyReceipt) → length (receipt_of k o) ≤ 1
    by_receipt None = omega arith
    by_receipt (Some r) = by_key r (same_key r.key k)

take_more : (k : Key) (xs : List Working) (i : ℕ) → i < length xs → length (receipts_in k (take (suc i) xs)) ≡ length (receipts_in k (take i xs)) + length (receipts_of k (get_or xs i resting).frame)
take_more k [] i l = absurd (omega arith)
take_more k (x ∷ xs) zero l =
    let a : length (receipts_of k x.frame ++ []) ≡ length (receipts_of k x.frame) + 0 = length-append (receipts_of k x.frame) [] in
    omega (arith, a)
take_more k (x ∷ xs) (suc i) l =
    let a : length (receipts_in k (take (suc i) xs)) ≡ length (receipts_in k (take i xs)) + length (receipts_of k (get_or xs i resting).frame) = take_more k xs i (omega arith) in
    let b : length (receipts_of k x.frame ++ receipts_in k (take (suc i) xs)) ≡ length (receipts_of k x.frame) + length (receipts_in k (take (suc i) xs)) = length-append (receipts_of k x.frame) (receipts_in k (take (suc i) xs)) in
    let d : length (receipts_of k x.frame ++ receipts_in k (take i xs)) ≡ length (receipts_of k x.frame) + length (receipts_in k (take i xs)) = length-append (receipts_of k x.frame) (receipts_in k (take i xs)) in
    omega (arith, a, b, d)

-- what is counted with the next frame
pub flying_step : (k : Key) (xs : List Working) (i count : ℕ) (x : Working) (n : ℕ) → x ≡ at_task xs (i + 1) resting → n ≡ length (receipts_of k x.frame) → i < length xs → count ≡ length (receipts_in k (take i xs)) → count ≤ i
    → (count + n ≡ length (receipts_in k (take (i + 1) xs))) × (count + n ≤ i + 1)
flying_step k xs i count x n e q l c few =
    let one : suc i ≡ i + 1 = omega arith in
    let same : at_task xs (i + 1) resting ≡ get_or xs i resting = ap (λ t. at_task xs t resting) (sym one) in
    let m : n ≡ length (receipts_of k (get_or xs i resting).frame) = q ∙ ap (λ (w : Working). length (receipts_of k w.frame)) (e ∙ same) in
    let a : length (receipts_in k (take (suc i) xs)) ≡ length (receipts_in k (take i xs)) + length (receipts_of k (get_or xs i resting).frame) = take_more k xs i l in
    let b : length (receipts_in k (take (suc i) xs)) ≡ length (receipts_in k (take (i + 1) xs)) = ap (λ j. length (receipts_in k (take j xs))) one in
    let d : length (receipts_of k (get_or xs i resting).frame) ≤ 1 = one_at_most k (get_or xs i resting).frame in
    (omega (arith, c, m, a, b), omega (arith, few, m, d))

-- each part has the receipts of its frame
beside_receipts : (k : Key) (ss : List Desk) (fs : List Working) → flat_map (part_expects k) (beside ss fs) ≡ receipts_in k (take (length (beside ss fs)) fs)
beside_receipts k [] fs = refl
beside_receipts k (s ∷ ss) [] = refl
beside_receipts k (s ∷ ss) (x ∷ fs) = ap (λ rs. receipts_of k x.frame ++ rs) (beside_receipts k ss fs)

pub parts_receipts : (k : Key) (ss : List Desk) (fs : List Working) → flat_map (part_expects k) (parts_in ss fs) ≡ receipts_in k (take (length (parts_in ss fs)) fs)
parts_receipts k ss fs = by (length ss == length fs)
  where
    by : (b : Bool) → flat_map (part_expects k) (cond b (beside ss fs) []) ≡ receipts_in k (take (length (cond b (beside ss fs) [])) fs)
    by true = beside_receipts k ss fs
    by false = refl

-- each part has one receipt at most
pub expected_few : (k : Key) (xs : List Part) → length (flat_map (part_expects k) xs) ≤ length xs
expected_few k [] = omega arith
expected_few k (x ∷ xs) =
    let a : length (receipts_of k x.frame ++ flat_map (part_expects k) xs) ≡ length (receipts_of k x.frame) + length (flat_map (part_expects k) xs) = length-append (receipts_of k x.frame) (flat_map (part_expects k) xs) in
    let b : length (receipts_of k x.frame) ≤ 1 = one_at_most k x.frame in
    let d : length (flat_map (part_expects k) xs) ≤ length xs = expected_few k xs in
    omega (arith, a, b, d)
