-- Keys of a list are changed one after the other: what each is given, and who holds what.
use Rattle.std.proofs.Common.{◌≡◌, ℕ, ◌+◌, Bool, true, false, cond, List, [], ◌∷◌, ◌++◌, refl, arith, sym, ap, ◌∙◌, subst, Option, Some, None, inl, inr}
use Rattle.vch_base.specs.declared.key.Key.{Key}
use Rattle.vch_base.specs.declared.key.Key.TheVariants as keys
use Rattle.std.specs.Prelude.{◌==◌}
use Rattle.vch_base.specs.Keys.{same_key, managed}
use Rattle.vch_base.specs.Keyed.{of_key}
use Rattle.vch_base.specs.Managers.{count}
use Rattle.vch_machine.specs.Naming.{item}
use Rattle.vch_machine.specs.Working.{WorkDone, changed, changed_each}
use Rattle.vch_frame.specs.Indices.{listed}
use Rattle.vch_frame.proofs.CallerLemmas.{of_with, same_key_refl}
use Rattle.vch_values.proofs.CallerLemmas.{key_cases}
use Rattle.vch_parts.proofs.CallerLemmas.{other_with}
use Rattle.vch_moves.specs.Known.{holds_in}
use Rattle.vch_moves.specs.Works.{NotIn, KeysDiffer}
use Rattle.vch_moves.proofs.holding.InTasks.{lets_in}
use Rattle.vch_moves.proofs.ending.Received.{lets_both}

pub managed_differ : (version : ℕ) → KeysDiffer (managed version)
managed_differ version = by (version == 2)
  where
    by : (b : Bool) → KeysDiffer (keys.Importance ∷ keys.Bank ∷ keys.User ∷ cond b (keys.Test ∷ []) [])
    by true = ((refl, (refl, (refl, tt))), ((refl, (refl, tt)), ((refl, tt), (tt, tt))))
    by false = ((refl, (refl, tt)), ((refl, tt), (tt, tt)))

-- what a key is given: none where it stays as it is
abbrev pub flat : Option (Option ℕ) → Option ℕ
flat None = None
flat (Some x) = x

abbrev pub given : List Key → (Key → Option (Option ℕ)) → Key → Option ℕ
given [] e q = None
given (k ∷ ks) e q = cond (same_key k q) (flat (e k)) (given ks e q)

pub given_none : (e : Key → Option (Option ℕ)) (q : Key) (ks : List Key) → NotIn q ks → given ks e q ≡ None
given_none e q [] n = refl
given_none e q (k ∷ ks) n = ap (λ b. cond b (flat (e k)) (given ks e q)) n.0 ∙ given_none e q ks n.1

-- what is given at a key is what becomes of it
pub given_from : (e : Key → Option (Option ℕ)) (q : Key) (g : ℕ) (ks : List Key) → given ks e q ≡ Some g → e q ≡ Some (Some g)
given_from e q g [] n = absurd (cc)
given_from e q g (k ∷ ks) n = elim (key_cases k q) [
  | inl same ↦ subst (λ j. e j ≡ Some (Some g)) same (some (e k) (sym (ap (λ b. cond b (flat (e k)) (given ks e q)) (subst (λ j. same_key k j ≡ true) same (same_key_refl k))) ∙ n))
  | inr other ↦ given_from e q g ks (sym (ap (λ b. cond b (flat (e k)) (given ks e q)) other) ∙ n)
]
  where
    some : (o : Option (Option ℕ)) → flat o ≡ Some g → o ≡ Some (Some g)
    some None e = absurd (cc)
    some (Some x) e = ap Some e

module _ (q : Key) (h : ℕ) where
  -- who holds what of a map and of what left it
  abbrev pub work_holds : WorkDone → ℕ
  work_holds w = holds_in q h w.forming + lets_in q h w.left

  item_here : (o : Option ℕ) → lets_in q h (item q o) ≡ count h (listed o)
  item_here None = refl
  item_here (Some g) = ap (λ b. count h (cond b (g ∷ []) [] ++ [])) (same_key_refl q)

  item_other : (k : Key) → same_key k q ≡ false → (o : Option ℕ) → lets_in q h (item k o) ≡ 0
  item_other k e None = refl
  item_other k e (Some g) = ap (λ b. count h (cond b (g ∷ []) [] ++ [])) e

  changed_here : (x : Option ℕ) (w : WorkDone) → work_holds (changed q (Some x) w) ≡ count h (listed x) + work_holds w
  changed_here x w = sums _ _ _ _ _ _ (ap (λ o. count h (listed o)) (of_with q x w.forming)) (lets_both q h w.left (item q (of_key q w.forming))) (item_here (of_key q w.forming))
    where
      sums : (a l2 l v i b : ℕ) → a ≡ b → l2 ≡ l + i → i ≡ v → a + l2 ≡ b + (v + l)
      sums a l2 l v i b p r s = omega (arith, p, r, s)

  changed_other : (k : Key) → same_key k q ≡ false → (x : Option ℕ) (w : WorkDone) → work_holds (changed k (Some x) w) ≡ work_holds w
  changed_other k other x w = sums _ _ _ _ _ (ap (λ o. count h (listed o)) (other_with q k x w.forming other)) (lets_both q h w.left (item k (of_key k w.forming))) (item_other k other (of_key k w.forming))
    where
      sums : (a b l2 l i : ℕ) → a ≡ b → l2 ≡ l + i → i ≡ 0 → a + l2 ≡ b + l
      sums a b l2 l i p r s = omega (arith, p, r, s)

  zero_first : (n : ℕ) → n ≡ 0 + n
  zero_first n = omega arith

  step_here : (o : Option (Option ℕ)) (w : WorkDone) → work_holds (changed q o w) ≡ count h (listed (flat o)) + work_holds w
  step_here None w = zero_first (work_holds w)
  step_here (Some x) w = changed_here x w

  step_other : (k : Key) → same_key k q ≡ false → (o : Option (Option ℕ)) (w : WorkDone) → work_holds (changed k o w) ≡ work_holds w
  step_other k other None w = refl
  step_other k other (Some x) w = changed_other k other x w

  -- after all of them
  pub each_holds : (e : Key → Option (Option ℕ)) (ks : List Key) → KeysDiffer ks → (w : WorkDone) → work_holds (changed_each e ks w) ≡ count h (listed (given ks e q)) + work_holds w
  each_holds e [] d w = zero_first (work_holds w)
  each_holds e (k ∷ ks) d w = elim (key_cases k q) [
    | inl same ↦ here same (each_holds e ks d.1 (changed k (e k) w))
    | inr other ↦ each_holds e ks d.1 (changed k (e k) w) ∙ ap (λ n. count h (listed (given ks e q)) + n) (step_other k other (e k) w) ∙ ap (λ b. count h (listed (cond b (flat (e k)) (given ks e q))) + work_holds w) (sym other)
  ]
    where
      here : k ≡ q → work_holds (changed_each e ks (changed k (e k) w)) ≡ count h (listed (given ks e q)) + work_holds (changed k (e k) w) → work_holds (changed_each e ks (changed k (e k) w)) ≡ count h (listed (given (k ∷ ks) e q)) + work_holds w
      here same later = later
          ∙ ap (λ o. count h (listed o) + work_holds (changed k (e k) w)) (given_none e q ks (subst (λ j. NotIn j ks) same d.0))
          ∙ sym (zero_first (work_holds (changed k (e k) w)))
          ∙ subst (λ j. work_holds (changed j (e k) w) ≡ count h (listed (flat (e k))) + work_holds w) (sym same) (step_here (e k) w)
          ∙ ap (λ b. count h (listed (cond b (flat (e k)) (given ks e q))) + work_holds w) (sym (subst (λ j. same_key k j ≡ true) same (same_key_refl k)))
