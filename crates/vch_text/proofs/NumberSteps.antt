-- The number that digits spell, one digit at a time.
use Rattle.std.proofs.Common.{◌≡◌, ◌+◌, ◌-◌, ◌*◌, ◌<◌, ◌≤◌, inl, inr, ℕ, List, [], ◌∷◌, length, get_or, drop, refl, sym, ap, ◌∙◌, arith, Bool, true, false, cond, Option, Some, None, min}
use Rattle.std.proofs.lemmas.List.{at_drop_more, at_drop_all}
use Rattle.std.specs.Char.{is_ascii_digit}
use Rattle.vch_text.specs.Numbers.{number_after, IsOver}

number_step : (top n i : ℕ) (w : List ℕ) → i < length w
    → number_after top n (drop i w) ≡ cond (is_ascii_digit (get_or w i 0)) (number_after top (min (n * 10 + (get_or w i 0 - 48)) top) (drop (i + 1) w)) None
unfolding number_after
number_step top n i w lt = at_drop_more (number_after top n) w i 0 lt

pub number_end : (top n i : ℕ) (w : List ℕ) → length w ≤ i → number_after top n (drop i w) ≡ Some n
unfolding number_after
number_end top n i w le = at_drop_all (number_after top n) w i le

pub number_digit : (top n i : ℕ) (w : List ℕ) (r : Option ℕ) → i < length w → is_ascii_digit (get_or w i 0) ≡ true → number_after top n (drop i w) ≡ r → number_after top (min (n * 10 + (get_or w i 0 - 48)) top) (drop (i + 1) w) ≡ r
number_digit top n i w r lt d h =
    let more = number_after top (min (n * 10 + (get_or w i 0 - 48)) top) (drop (i + 1) w) in
    let u : number_after top n (drop i w) ≡ more = number_step top n i w lt ∙ ap (λ b. cond b more None) d in
    sym u ∙ h

pub number_other : (top n i : ℕ) (w : List ℕ) (r : Option ℕ) → i < length w → is_ascii_digit (get_or w i 0) ≡ false → number_after top n (drop i w) ≡ r → r ≡ None
number_other top n i w r lt d h =
    sym h ∙ number_step top n i w lt ∙ ap (λ b. cond b (number_after top (min (n * 10 + (get_or w i 0 - 48)) top) (drop (i + 1) w)) None) d

-- ---- above the top

over_test : (top : ℕ) (b : Bool) (r : Option ℕ) → IsOver top r → IsOver top (cond b r None)
over_test top true r h = h
over_test top false r h = inl refl

over_more : (top : ℕ) (w : List ℕ) → IsOver top (number_after top top w)
unfolding number_after
over_more top [] = inr refl
over_more top (c ∷ cs) =
    let e : min (top * 10 + (c - 48)) top ≡ top = omega arith in
    over_test top (is_ascii_digit c) (number_after top (min (top * 10 + (c - 48)) top) cs) (rw e (over_more top cs))

-- a digit that takes the number to the top or above it
pub number_over : (top n i : ℕ) (w : List ℕ) (r : Option ℕ) → i < length w → is_ascii_digit (get_or w i 0) ≡ true → top ≤ n * 10 + (get_or w i 0 - 48) → number_after top n (drop i w) ≡ r → IsOver top r
number_over top n i w r lt d large h =
    let e : min (n * 10 + (get_or w i 0 - 48)) top ≡ top = omega arith in
    let more : number_after top top (drop (i + 1) w) ≡ r = rw e at (number_digit top n i w r lt d h) in
    rw more at (over_more top (drop (i + 1) w))
