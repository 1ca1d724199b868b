-- Two vouchers of indices are equal exactly where those of handles are, since no two entries have one handle.
use Rattle.std.proofs.Common.{◌≡◌, ℕ, ◌==◌, Bool, true, false, refl, arith, sym, ap, ◌∙◌, subst, Option, Some, None}
use Rattle.std.proofs.lemmas.Grind.{common_steps}
use Rattle.vch_base.specs.declared.key.Key.{Key}
use Rattle.vch_base.specs.declared.key.Key.TheVariants as keys
use Rattle.vch_base.specs.Keys.{number_of, key_numbered}
use Rattle.vch_base.specs.Keyed.{Keyed, of_key}
use Rattle.vch_base.proofs.CallerLemmas.{equal_where_equal}
use Rattle.vch_entry.specs.Entries.{IsApart}
use Rattle.vch_table.specs.Index.{indices_eq}
use Rattle.vch_table.specs.Indices.{index_at, SameIndices}
use Rattle.vch_table.proofs.CallerLemmas.{same_equal, decides}
use Rattle.vch_machine.specs.Naming.{same_handles}
use Rattle.vch_machine.specs.State.{Handles}
use Rattle.vch_legal.proofs.CallerLemmas.{handles_eq}
use Rattle.vch_frame.specs.Pairs.{Optional}
use Rattle.vch_frame.specs.Indices.{index_of}
use Rattle.vch_frame.proofs.CallerLemmas.{cases_of}
use Rattle.vch_values.specs.Parts.{KeyParts}
use Rattle.vch_parts.specs.Plain.{Indices}
use Rattle.vch_parts.specs.Shape.{IsIndexOf, IsMap, slots_of}
use Rattle.vch_parts.proofs.CallerLemmas.{at_key}
use Rattle.vch_moves.specs.Desks.{AllApart}
use Rattle.vch_moves.proofs.holding.Different.{same_self}

by_key : (n : ℕ) (P : Type 0) → (key_numbered n ≡ None → P) → ((k : Key) → n ≡ number_of k → P) → P
by_key n P none some = by (n == 2) (n == 3) (n == 7) (n == 8) refl refl refl refl
  where
    by : (a b d e : Bool) → (n == 2) ≡ a → (n == 3) ≡ b → (n == 7) ≡ d → (n == 8) ≡ e → P
    by true b d e p q r s = some keys.Importance (grind (arith, common_steps))
    by false true d e p q r s = some keys.Bank (grind (arith, common_steps))
    by false false true e p q r s = some keys.User (grind (arith, common_steps))
    by false false false true p q r s = some keys.Test (grind (arith, common_steps))
    by false false false false p q r s = none (rw (p, q, r, s) refl)

false_of : (b : Bool) → (b ≡ true → ⊥) → b ≡ false
false_of true f = absurd (f refl)
false_of false f = refl

module _ (x : Keyed KeyParts) where
  same_index : (k : Key) (i j h : Option ℕ) → IsApart (slots_of x k) → Optional (IsIndexOf x k) i h → Optional (IsIndexOf x k) j h → i ≡ j
  same_index k None None None apart p q = refl
  same_index k (Some i) (Some j) (Some h) apart p q = ap Some (apart i j h p q)
  same_index k (Some i) j None apart p q = absurd p
  same_index k None (Some j) None apart p q = absurd q
  same_index k None j (Some h) apart p q = absurd p
  same_index k (Some i) None (Some h) apart p q = absurd q

  same_at : (k : Key) (i h g : Option ℕ) → Optional (IsIndexOf x k) i h → Optional (IsIndexOf x k) i g → h ≡ g
  same_at k None None None p q = refl
  same_at k (Some i) (Some h) (Some g) p q = sym p ∙ q
  same_at k None (Some h) g p q = absurd p
  same_at k None None (Some g) p q = absurd q
  same_at k (Some i) None g p q = absurd p
  same_at k (Some i) (Some h) None p q = absurd q

  -- two vouchers with the same handles are one list
  pub maps_equal : (v u : Indices) (w : Handles) → AllApart x → IsMap x v w → IsMap x u w → v ≡ u
  maps_equal v u w apart p q = same_equal v u p.1.bounded.rising q.1.bounded.rising same
    where
      same : SameIndices v u
      same n = by_key n (index_at v n ≡ index_at u n) (λ e. p.1.managed n e ∙ sym (q.1.managed n e))
          (λ k e. rw e (same_index k (index_of k v) (index_of k u) (of_key k w) (apart k) (at_key x k v w p) (at_key x k u w q)))

  -- and one list has the same handles
  pub handles_equal : (v : Indices) (w z : Handles) → IsMap x v w → IsMap x v z → w ≡ z
  handles_equal v w z p q = equal_where_equal w z (λ k. same_at k (index_of k v) (of_key k w) (of_key k z) (at_key x k v w p) (at_key x k v z q))

  -- a voucher is equal to this one on both sides, or on neither
  abbrev pub Tests : Indices → Handles → Type 0
  Tests u w = (v : Indices) (z : Handles) → IsMap x v z → indices_eq v u ≡ same_handles z w

  pub tests : AllApart x → (u : Indices) (w : Handles) → IsMap x u w → Tests u w
  tests apart u w map v z other = cases_of (indices_eq v u) (indices_eq v u ≡ same_handles z w)
      (λ yes_. let same : v ≡ u = (decides v u).0 yes_ in
      let one : z ≡ w = handles_equal u z w (subst (λ i. IsMap x i z) same other) map in
      yes_ ∙ sym (ap (λ a. same_handles a w) one ∙ same_self w))
      (λ no_. no_ ∙ sym (false_of (same_handles z w) (λ t.
      let one : z ≡ w = handles_eq z w t in
      let same : v ≡ u = maps_equal v u w apart (subst (IsMap x v) one other) map in
      let clash : indices_eq v u ≡ true = (decides v u).1 same in
      let never : false ≡ true = sym no_ ∙ clash in cc)))
