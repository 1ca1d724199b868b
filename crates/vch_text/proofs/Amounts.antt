-- The number below a top that a word spells.
use Rattle.std.proofs.Common.{◌≡◌, ℕ, ◌+◌, ◌-◌, ◌*◌, ◌^◌, ◌<◌, ◌≤◌, min, List, Option, Some, None, IfSome, sym, ap, subst, ◌∙◌, arith, inl, inr, true, length, get_or, drop}
use Rattle.std.specs.Fmt.{decimal}
use Rattle.std.specs.Char.{is_ascii_digit}
use Rattle.vch_text.specs.Numbers.{number_after, number_of, IsOver, IsExact}
use Rattle.vch_text.proofs.NumberSteps.{number_digit, number_over}
use Rattle.vch_text.proofs.Told.{Told}
use Rattle.vch_text.proofs.NumbersBack.{IsRead, number_told, number_again}
use Rattle.vch_text.proofs.Decimals.{numeral_decimal, numeral_is}

read_below : (top n : ℕ) (w : List ℕ) → n < top → top ≤ 10 ^ 64 → IsRead top w n → w ≡ decimal n
read_below top n w lt few h =
    let same : h.number ≡ n = omega (arith, h.read) in
    numeral_decimal w h.number h.spelled (omega arith) ∙ ap (λ (k : ℕ). decimal k) same

pub exact_found : (top : ℕ) (w : List ℕ) (r : Option ℕ) → top ≤ 10 ^ 64 → IsExact top (number_of top w) r → IfSome r (λ n. w ≡ decimal n)
exact_found top w None few h = tt
exact_found top w (Some n) few h = read_below top n w h.1 few (subst (λ (x : Option ℕ). Told (λ k. IsRead top w k) x) h.0 (number_told top w))

abbrev some : ℕ → Option ℕ
some n = Some n

some_inside : (a b : ℕ) → some a ≡ Some b → a ≡ b
some_inside a b e = cc

exact_same : (top n : ℕ) (read r : Option ℕ) → n < top → read ≡ Some n → IsExact top read r → r ≡ Some n
exact_same top n read (Some m) lt e h = sym (h.0) ∙ e
exact_same top n read None lt e (inl none) = absurd cc
exact_same top n read None lt e (inr full) = absurd (let same : top ≡ n = some_inside top n (sym full ∙ e) in omega arith)

pub exact_only : (top : ℕ) (w : List ℕ) (r : Option ℕ) → top ≤ 10 ^ 64 → IsExact top (number_of top w) r → (n : ℕ) → n < top → w ≡ decimal n → r ≡ Some n
exact_only top w r few h n lt e =
    let least : min n top ≡ n = omega arith in
    exact_same top n (number_of top w) r lt (rw least at (number_again top w n (numeral_is w n (omega arith) e))) h

-- ---- the loop over the digits

pub exact_none : (top : ℕ) (read r : Option ℕ) → r ≡ None → IsOver top read → IsExact top read r
exact_none top read r e h = subst (λ (x : Option ℕ). IsExact top read x) (sym e) h

pub digit_over : (top n d i : ℕ) (w : List ℕ) (r : Option ℕ) → i < length w → is_ascii_digit (get_or w i 0) ≡ true → d ≡ get_or w i 0 - 48 → (n * 10 + d < top → ⊥) → number_after top n (drop i w) ≡ r → IsOver top r
digit_over top n d i w r lt digit e large h = number_over top n i w r lt digit (omega arith) h

pub digit_below : (top n d m i : ℕ) (w : List ℕ) (r : Option ℕ) → i < length w → is_ascii_digit (get_or w i 0) ≡ true → d ≡ get_or w i 0 - 48 → m ≡ n * 10 + d → m < top → number_after top n (drop i w) ≡ r → number_after top m (drop (i + 1) w) ≡ r
digit_below top n d m i w r lt digit e sum small h =
    let least : min (n * 10 + (get_or w i 0 - 48)) top ≡ m = omega arith in
    rw least at (number_digit top n i w r lt digit h)
