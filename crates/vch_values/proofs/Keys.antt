-- One key changes, and all others stay.
use Rattle.std.proofs.Common.{◌≡◌, ◌≢◌, ◌⊎◌, inl, inr, cond, refl, sym, ap, ◌∙◌, subst, false, true}
use Rattle.vch_base.specs.declared.key.Key.{Key}
use Rattle.vch_base.specs.declared.key.Key.TheVariants as keys
use Rattle.vch_base.specs.Keyed.{Keyed, of_key, with_key}
use Rattle.vch_base.specs.Keys.{same_key}
use Rattle.vch_base.proofs.CallerLemmas.{with_of}

-- what holds of each of the four holds of every key
pub every : (P : Key → Type 0) → P keys.Importance → P keys.Bank → P keys.User → P keys.Test → (k : Key) → P k
every P i b u t keys.Importance = i
every P i b u t keys.Bank = b
every P i b u t keys.User = u
every P i b u t keys.Test = t

-- two keys are one, or their numbers differ
pub key_cases : (j k : Key) → (j ≡ k) ⊎ (same_key j k ≡ false)
key_cases keys.Importance keys.Importance = inl refl
key_cases keys.Importance keys.Bank = inr refl
key_cases keys.Importance keys.User = inr refl
key_cases keys.Importance keys.Test = inr refl
key_cases keys.Bank keys.Importance = inr refl
key_cases keys.Bank keys.Bank = inl refl
key_cases keys.Bank keys.User = inr refl
key_cases keys.Bank keys.Test = inr refl
key_cases keys.User keys.Importance = inr refl
key_cases keys.User keys.Bank = inr refl
key_cases keys.User keys.User = inl refl
key_cases keys.User keys.Test = inr refl
key_cases keys.Test keys.Importance = inr refl
key_cases keys.Test keys.Bank = inr refl
key_cases keys.Test keys.User = inr refl
key_cases keys.Test keys.Test = inl refl

pub same_key_refl : (k : Key) → same_key k k ≡ true
same_key_refl keys.Importance = refl
same_key_refl keys.Bank = refl
same_key_refl keys.User = refl
same_key_refl keys.Test = refl

pub of_with : {A : Type 0} (k : Key) (a : A) (x : Keyed A) → of_key k (with_key k a x) ≡ a
of_with k a x = with_of k k a x ∙ ap (λ b. cond b a (of_key k x)) (same_key_refl k)

pub of_other : {A : Type 0} (k q : Key) (a : A) (x : Keyed A) → q ≢ k → of_key q (with_key k a x) ≡ of_key q x
of_other k q a x n = elim (key_cases q k) [
  | inl e ↦ absurd (n e)
  | inr e ↦ with_of q k a x ∙ ap (λ b. cond b a (of_key q x)) e
]

-- another key stays where only one changes
pub stays : {A : Type 0} (k q : Key) (old new : Keyed A) → new ≡ with_key k (of_key k new) old → q ≢ k → of_key q new ≡ of_key q old
stays k q old new e n = ap (of_key q) e ∙ of_other k q (of_key k new) old n

-- what holds of the changed key, and of all others before, holds of each key
pub each_key : {A : Type 0} (P : Key → A → Type 0) (k : Key) (old new : Keyed A) → new ≡ with_key k (of_key k new) old → P k (of_key k new)
    → ((q : Key) → q ≢ k → P q (of_key q old)) → (q : Key) → P q (of_key q new)
each_key P k old new e here there q = elim (key_cases q k) [
  | inl same ↦ subst (λ j. P j (of_key j new)) (sym same) here
  | inr other ↦
      let n : q ≢ k = λ same. let t : same_key q k ≡ true = ap (λ j. same_key j k) same ∙ same_key_refl k in absurd (cc) in
      subst (P q) (sym (stays k q old new e n)) (there q n)
]
