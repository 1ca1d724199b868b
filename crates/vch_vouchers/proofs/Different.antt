-- How many different vouchers two lists have: as many where they have the same ones.
use Rattle.std.proofs.Common.{◌≡◌, ◌+◌, ℕ, List, [], ◌∷◌, ◌||◌, not, Bool, true, false, cond, refl, sym, ap, ◌∙◌, arith}
use Rattle.std.specs.List.{filter}
use Rattle.vch_table.proofs.CallerLemmas.{by_cases, decides}
use Rattle.vch_table.specs.Index.{indices_eq}
use Rattle.vch_vouchers.specs.Desks.{Voucher, different, is_among}

eq_same : (a : Voucher) → indices_eq a a ≡ true
eq_same a = (decides a a).1 refl

eq_is : (a b : Voucher) → indices_eq a b ≡ true → a ≡ b
eq_is a b e = (decides a b).0 e

eq_not : (a b : Voucher) → indices_eq a b ≡ false → indices_eq b a ≡ false
eq_not a b e = by (indices_eq b a) refl
  where
    by : (r : Bool) → indices_eq b a ≡ r → r ≡ false
    by false q = refl
    by true q = let z : indices_eq a b ≡ true = (decides a b).1 (sym (eq_is b a q)) in cc

-- the list without a voucher
abbrev rest : Voucher → List Voucher → List Voucher
rest v ys = filter (λ y. not (indices_eq y v)) ys

rest_out : (v : Voucher) (ys : List Voucher) → is_among v (rest v ys) ≡ false
rest_out v [] = refl
rest_out v (y ∷ ys) = by (indices_eq y v) refl (rest_out v ys)
  where
    by : (b : Bool) → indices_eq y v ≡ b → is_among v (rest v ys) ≡ false → is_among v (cond (not b) (y ∷ rest v ys) (rest v ys)) ≡ false
    by true e r = r
    by false e r = rw e r

rest_other : (v w : Voucher) (ys : List Voucher) → indices_eq v w ≡ false → is_among w (rest v ys) ≡ is_among w ys
rest_other v w [] n = refl
rest_other v w (y ∷ ys) n = by (indices_eq y v) refl (rest_other v w ys n)
  where
    by : (b : Bool) → indices_eq y v ≡ b → is_among w (rest v ys) ≡ is_among w ys → is_among w (cond (not b) (y ∷ rest v ys) (rest v ys)) ≡ indices_eq y w || is_among w ys
    by true e r = let z : indices_eq y w ≡ false = ap (λ k. indices_eq k w) (eq_is y v e) ∙ n in rw z r
    by false e r = ap (λ b. indices_eq y w || b) r

count_rest : (v : Voucher) (ys : List Voucher) → different ys ≡ different (rest v ys) + cond (is_among v ys) 1 0
count_rest v [] = omega arith
count_rest v (y ∷ ys) = by (indices_eq y v) refl (count_rest v ys)
  where
    one : (b : Bool) (n m : ℕ) → n ≡ m + cond b 1 0 → cond b n (n + 1) ≡ m + 1
    one true n m e = e
    one false n m e = omega (arith, e)

    two : (a b : Bool) (n m : ℕ) → n ≡ m + cond b 1 0 → cond a n (n + 1) ≡ cond a m (m + 1) + cond b 1 0
    two true b n m e = e
    two false b n m e = omega (arith, e)

    by : (b : Bool) → indices_eq y v ≡ b → different ys ≡ different (rest v ys) + cond (is_among v ys) 1 0
        → cond (is_among y ys) (different ys) (different ys + 1) ≡ different (cond (not b) (y ∷ rest v ys) (rest v ys)) + cond (b || is_among v ys) 1 0
    by true e r = ap (λ k. cond (is_among k ys) (different ys) (different ys + 1)) (eq_is y v e) ∙ one (is_among v ys) (different ys) (different (rest v ys)) r
    by false e r =
        two (is_among y ys) (is_among v ys) (different ys) (different (rest v ys)) r
        ∙ ap (λ b. cond b (different (rest v ys)) (different (rest v ys) + 1) + cond (is_among v ys) 1 0) (sym (rest_other v y ys (eq_not y v e)))

none_left : (ys : List Voucher) → ((w : Voucher) → false ≡ is_among w ys) → 0 ≡ different ys
none_left [] f = refl
none_left (y ∷ ys) f = absurd (let a = f y in let b = eq_same y in no (indices_eq y y) b a)
  where
    no : (b : Bool) → b ≡ true → false ≡ b || is_among y ys → ⊥
    no true e q = cc
    no false e q = cc

pub same_count : (xs ys : List Voucher) → ((w : Voucher) → is_among w xs ≡ is_among w ys) → different xs ≡ different ys
same_count [] ys f = none_left ys f
same_count (x ∷ xs) ys f = by (is_among x xs) refl (same_count xs)
  where
    again : is_among x xs ≡ true → (w : Voucher) → is_among w xs ≡ indices_eq x w || is_among w xs
    again e w = by_cases (indices_eq x w) (λ b. is_among w xs ≡ b || is_among w xs) (λ q. ap (λ k. is_among k xs) (sym (eq_is x w q)) ∙ e) (λ _. refl)

    apart : is_among x xs ≡ false → (w : Voucher) → is_among w xs ≡ is_among w (rest x ys)
    apart e w = by_case (indices_eq x w) refl (f w)
      where
        by_case : (b : Bool) → indices_eq x w ≡ b → b || is_among w xs ≡ is_among w ys → is_among w xs ≡ is_among w (rest x ys)
        by_case true q r =
            let same : x ≡ w = eq_is x w q in
            ap (λ k. is_among k xs) (sym same) ∙ e ∙ sym (ap (λ k. is_among k (rest x ys)) (sym same) ∙ rest_out x ys)
        by_case false q r = r ∙ sym (rest_other x w ys q)

    there : is_among x ys ≡ true
    there = sym (f x) ∙ rw (eq_same x) refl

    by : (b : Bool) → is_among x xs ≡ b → ((zs : List Voucher) → ((w : Voucher) → is_among w xs ≡ is_among w zs) → different xs ≡ different zs) → cond b (different xs) (different xs + 1) ≡ different ys
    by true e ih = ih ys (λ w. again e w ∙ f w)
    by false e ih = ap (λ n. n + 1) (ih (rest x ys) (apart e)) ∙ sym (count_rest x ys ∙ ap (λ b. different (rest x ys) + cond b 1 0) there)

-- a list with the vouchers of another and one voucher has one more, unless the other has it
pub count_with : (xs ys : List Voucher) (v : Voucher) → ((w : Voucher) → is_among w ys ≡ indices_eq v w || is_among w xs) → different ys ≡ different xs + cond (is_among v xs) 0 1
count_with xs ys v f = same_count ys (v ∷ xs) f ∙ by (is_among v xs)
  where
    by : (b : Bool) → cond b (different xs) (different xs + 1) ≡ different xs + cond b 0 1
    by true = omega arith
    by false = refl
