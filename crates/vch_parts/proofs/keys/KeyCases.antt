-- Keys that are not one.
use Rattle.std.proofs.Common.{◌≡◌, ◌≢◌, inl, inr, ◌==◌, Bool, true, false, cond, arith, ap, ◌∙◌, sym, subst}
use Rattle.std.proofs.lemmas.Grind.{common_steps}
use Rattle.vch_base.specs.declared.key.Key.{Key}
use Rattle.vch_base.specs.Keys.{same_key, number_of}
use Rattle.vch_base.specs.Keyed.{Keyed, of_key, with_key}
use Rattle.vch_base.proofs.CallerLemmas.{with_of}
use Rattle.vch_legal.proofs.CallerLemmas.{not_true}
use Rattle.vch_values.proofs.CallerLemmas.{key_cases}

-- the same, the other way round
pub turned : (j k : Key) → same_key j k ≡ false → same_key k j ≡ false
turned j k e = elim (key_cases k j) [
  | inl same ↦ subst (λ i. same_key k i ≡ false) same (subst (λ i. same_key i k ≡ false) (sym same) e)
  | inr other ↦ other
]

-- what stands at a key stays where another key is set
pub other_with : {A : Type 0} (q k : Key) (a : A) (x : Keyed A) → same_key k q ≡ false → of_key q (with_key k a x) ≡ of_key q x
other_with q k a x e = with_of q k a x ∙ ap (λ (b : Bool). cond b a (of_key q x)) (turned k q e)

-- what holds of each other key, and of this one, holds of all
pub each_key : (P : Key → Type 0) (k : Key) → P k → ((q : Key) → same_key k q ≡ false → P q) → (q : Key) → P q
each_key P k here there q = elim (key_cases q k) [
  | inl same ↦ subst P (sym same) here
  | inr other ↦ there q (turned q k other)
]

-- other keys have other numbers
pub other_number : (k q : Key) → same_key k q ≡ false → number_of q ≢ number_of k
other_number k q e n = let g : (number_of k == number_of q) ≡ true = grind (arith, common_steps) in cc

-- a key that is one is not another
pub apart_keys : (j q k : Key) → same_key j q ≡ true → same_key k q ≡ false → same_key j k ≡ false
apart_keys j q k e f = not_true (same_key j k) (λ g.
    let a : number_of j ≡ number_of q = grind (arith, common_steps) in
    let b : number_of j ≡ number_of k = grind (arith, common_steps) in
    let d : (number_of k == number_of q) ≡ true = grind (arith, common_steps) in cc)
