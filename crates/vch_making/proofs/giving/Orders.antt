-- A receipt in flight stands anywhere among those of its key.
use Rattle.std.proofs.Common.{◌≡◌, ℕ, ◌+◌, ◌==◌, Bool, true, false, cond, List, [], ◌∷◌, ◌++◌, refl, arith, sym, ap, ◌∙◌, length, map}
use Rattle.vch_value.specs.Flight.{Receipt}
use Rattle.vch_value.specs.Picture.{AllAre, flags_at}

pub map_same : {A : Type 0} (xs : List A) → map (λ x. x) xs ≡ xs
map_same [] = refl
map_same (x ∷ xs) = ap (λ ys. x ∷ ys) (map_same xs)

-- the marks of a handle are all the same, so their order is no matter
pub flags_behind : (h : ℕ) (b : Bool) (r : Receipt) (before behind : List Receipt) → AllAre b (flags_at h (r ∷ before ++ behind)) → flags_at h (before ++ r ∷ behind) ≡ flags_at h (r ∷ before ++ behind)
flags_behind h b r [] behind a = refl
flags_behind h b r (x ∷ before) behind a = by (r.handle == h) (x.handle == h) (λ i. flags_behind h b r before behind i) a
  where
    -- the receipt is for the handle, or not, and so is the first of the others
    by : (c d : Bool)
        → (AllAre b (cond c (r.persist ∷ flags_at h (before ++ behind)) (flags_at h (before ++ behind))) → flags_at h (before ++ r ∷ behind) ≡ cond c (r.persist ∷ flags_at h (before ++ behind)) (flags_at h (before ++ behind)))
        → AllAre b (cond c (r.persist ∷ cond d (x.persist ∷ flags_at h (before ++ behind)) (flags_at h (before ++ behind))) (cond d (x.persist ∷ flags_at h (before ++ behind)) (flags_at h (before ++ behind))))
        → cond d (x.persist ∷ flags_at h (before ++ r ∷ behind)) (flags_at h (before ++ r ∷ behind)) ≡ cond c (r.persist ∷ cond d (x.persist ∷ flags_at h (before ++ behind)) (flags_at h (before ++ behind))) (cond d (x.persist ∷ flags_at h (before ++ behind)) (flags_at h (before ++ behind)))
    by true true next a = let e : x.persist ≡ r.persist = a.1.0 ∙ sym a.0 in rw (next (a.0, a.1.1), e) refl
    by true false next a = next a
    by false true next a = ap (λ t. x.persist ∷ t) (next a.1)
    by false false next a = next a

pub one_more : (r : Receipt) (xs ys : List Receipt) → length (xs ++ r ∷ ys) ≡ length (xs ++ ys) + 1
one_more r [] ys = omega arith
one_more r (x ∷ xs) ys = let e : length (xs ++ r ∷ ys) ≡ length (xs ++ ys) + 1 = one_more r xs ys in omega (arith, e)
