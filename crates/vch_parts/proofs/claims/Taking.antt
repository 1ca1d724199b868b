-- Claims on a handle in two orders, and a claim that is taken.
use Rattle.std.proofs.Common.{◌≡◌, ℕ, ◌==◌, nat_lt, ◌&&◌, ◌||◌, not, Bool, true, false, cond, List, [], ◌∷◌, ◌++◌, refl, arith, sym, ap, ◌∙◌, Some, None, inl, inr}
use Rattle.std.proofs.lemmas.Bool.{cases_eq}
use Rattle.std.proofs.lemmas.Grind.{common_steps}
use Rattle.vch_value.specs.Picture.{Claimed, claims_at, is_nil}
use Rattle.vch_value.proofs.CallerLemmas.{claims_here, claims_not, claims_there}

nothing_before : (a b : List Claimed) → a ++ b ≡ [] → (a ≡ []) × (b ≡ [])
nothing_before [] b e = (refl, e)
nothing_before (x ∷ a) b e = absurd (cc)

-- a claim may stand first or in between where no other is on its handle
pub claims_moved : (h : ℕ) (x : Claimed) (a b : List Claimed) → claims_at x.handle (a ++ b) ≡ [] → claims_at h (a ++ x ∷ b) ≡ claims_at h (x ∷ a ++ b)
claims_moved h x a b none = elim (cases_eq x.handle h) [ inl e ↦ here e | inr n ↦ claims_not h a b x n ∙ sym (claims_not h [] (a ++ b) x n) ]
  where
    here : x.handle ≡ h → claims_at h (a ++ x ∷ b) ≡ claims_at h (x ∷ a ++ b)
    here e =
        let z : claims_at h (a ++ b) ≡ [] = ap (λ i. claims_at i (a ++ b)) (sym e) ∙ none in
        let n = nothing_before (claims_at h a) (claims_at h b) (sym (claims_there h a b) ∙ z) in
        claims_here h a b x e ∙ rw (n.0, n.1) refl ∙ sym (claims_here h [] (a ++ b) x e ∙ ap (λ t. x ∷ t) z)

pub nil_of : (cs : List Claimed) → is_nil cs ≡ true → cs ≡ []
nil_of [] e = refl
nil_of (c ∷ cs) e = absurd (cc)

-- the machine takes a claim exactly where the code does
pub taken : {A : Type 0} (fixed held none some default : Bool) (n : ℕ) (x : A) → fixed ≡ default → held ≡ nat_lt 0 n → none ≡ not some
    → (cond (fixed || (held || none)) None (Some x)) ≡ cond ((n == 0) && (not default && some)) (Some x) None
taken fixed held none some default n x a b c = rw (a, b, c) (by default some (nat_lt 0 n) (n == 0) same)
  where
    same : (n == 0) ≡ not (nat_lt 0 n)
    same = grind (arith, common_steps)

    by : (d s l z : Bool) → z ≡ not l → cond (d || (l || not s)) None (Some x) ≡ cond (z && (not d && s)) (Some x) None
    by d s l z e = rw e (cases d s l)
      where
        cases : (d s l : Bool) → cond (d || (l || not s)) None (Some x) ≡ cond (not l && (not d && s)) (Some x) None
        cases true s true = refl
        cases true s false = refl
        cases false true true = refl
        cases false true false = refl
        cases false false true = refl
        cases false false false = refl
