-- One more item of a list that is copied or counted.
use Rattle.std.proofs.Common.{◌≡◌, ℕ, zero, suc, ◌+◌, ◌≤◌, List, [], ◌∷◌, ◌++◌, refl, arith, sym, ap, ◌∙◌, length, take, drop, Some}
use Rattle.std.specs.Prelude.{slice_get}
use Rattle.vch_model.specs.Scenarios.{line_count}
use Rattle.vch_model.specs.declared.call.Line.{Line}

one_more : (i : ℕ) → suc i ≡ i + 1
one_more i = omega arith

take_suc : {A : Type 0} (xs : List A) (i : ℕ) (x : A) → slice_get xs i ≡ Some x → take (suc i) xs ≡ take i xs ++ x ∷ []
take_suc [] i x e = absurd (cc)
take_suc (y ∷ xs) zero x e = let q : y ≡ x = cc in rw q refl
take_suc (y ∷ xs) (suc i) x e = ap (λ t. y ∷ t) (take_suc xs i x e)

-- what was copied so far, with the next item
pub take_next : {A : Type 0} (xs made new : List A) (i : ℕ) (x y : A) → made ≡ take i xs → slice_get xs i ≡ Some x → y ≡ x → new ≡ made ++ y ∷ [] → new ≡ take (i + 1) xs
take_next xs made new i x y a e same q = q ∙ rw (a, same) (sym (take_suc xs i x e)) ∙ ap (λ n. take n xs) (one_more i)

drop_suc : (xs : List (List Line)) (i : ℕ) (x : List Line) → slice_get xs i ≡ Some x → line_count (drop i xs) ≡ length x + line_count (drop (suc i) xs)
drop_suc [] i x e = absurd (cc)
drop_suc (y ∷ xs) zero x e = let q : y ≡ x = cc in rw q refl
drop_suc (y ∷ xs) (suc i) x e = drop_suc xs i x e

-- what is counted with the next phase
pub count_next : (xs : List (List Line)) (i : ℕ) (x : List Line) → slice_get xs i ≡ Some x → line_count (drop i xs) ≡ length x + line_count (drop (i + 1) xs)
count_next xs i x e = drop_suc xs i x e ∙ ap (λ n. length x + line_count (drop n xs)) (one_more i)

pub count_whole : (xs : List (List Line)) (n : ℕ) → length xs ≤ n → line_count (drop n xs) ≡ 0
count_whole [] zero l = refl
count_whole [] (suc n) l = refl
count_whole (x ∷ xs) zero l = absurd (omega arith)
count_whole (x ∷ xs) (suc n) l = count_whole xs n (omega arith)

longer : {A : Type 0} (ys : List A) (s : A) → length (ys ++ s ∷ []) ≡ length ys + 1
longer [] s = refl
longer (y ∷ ys) s = let r : length (ys ++ s ∷ []) ≡ length ys + 1 = longer ys s in omega (arith, r)

pub one_longer : {A : Type 0} (xs new : List A) (s : A) (n : ℕ) → length xs ≡ n → new ≡ xs ++ s ∷ [] → length new ≡ n + 1
one_longer xs new s n e q = ap length q ∙ longer xs s ∙ ap (λ m. m + 1) e

pub count_step : (xs : List (List Line)) (i : ℕ) (x : List Line) (count n : ℕ) → slice_get xs i ≡ Some x → count + line_count (drop i xs) ≡ line_count xs → n ≡ length x → (count + n) + line_count (drop (i + 1) xs) ≡ line_count xs
count_step xs i x count n e q l = let a = count_next xs i x e in omega (arith, a, q, l)

pub count_fits : (xs : List (List Line)) (i : ℕ) (x : List Line) (count n : ℕ) → slice_get xs i ≡ Some x → count + line_count (drop i xs) ≡ line_count xs → n ≡ length x → line_count xs ≤ 1048576 → count + n ≤ 1048576
count_fits xs i x count n e q l f = let a = count_next xs i x e in omega (arith, a, q, l, f)
