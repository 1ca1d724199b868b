-- Two vouchers are one list of indices exactly where they have the same values.
use Rattle.std.proofs.Common.{◌≡◌, ℕ, ◌==◌, Bool, true, false, refl, sym, ap, ◌∙◌, subst, arith, Option, Some, None}
use Rattle.std.proofs.lemmas.Grind.{common_steps}
use Rattle.vch_base.specs.declared.key.Key.{Key}
use Rattle.vch_base.specs.declared.key.Key.TheVariants as keys
use Rattle.vch_base.specs.Keyed.{of_key}
use Rattle.vch_base.specs.Keys.{number_of, key_numbered}
use Rattle.vch_entry.specs.Entries.{IsApart}
use Rattle.vch_table.specs.Index.{indices_eq}
use Rattle.vch_table.specs.Indices.{index_at, SameIndices}
use Rattle.vch_table.proofs.CallerLemmas.{same_equal, decides}
use Rattle.vch_model.specs.declared.lists.Scenario.{Scenario}
use Rattle.vch_model.specs.Voucher.{equal_vouchers}
use Rattle.vch_machine.specs.Naming.{same_handle, same_handles}
use Rattle.vch_machine.specs.State.{Handles, Machine, valued}
use Rattle.vch_legal.proofs.CallerLemmas.{LiveAll, same_vouchers, handles_eq}
use Rattle.vch_frame.specs.Pairs.{Optional}
use Rattle.vch_frame.specs.Indices.{index_of}
use Rattle.vch_vouchers.specs.Desks.{Voucher}
use Rattle.vch_parts.specs.Plain.{Plain}
use Rattle.vch_parts.specs.Shape.{IsIndexOf, IsMap, slots_of}
use Rattle.vch_replies.specs.Begins.{Begins}
use Rattle.vch_replies.specs.Known.{AreApart}
use Rattle.vch_replies.specs.Told.{values_of}
use Rattle.vch_replies.proofs.named.Named.{map_at, values_here}

-- a number is that of a key, or of none
by_key : (n : ℕ) (P : Type 0) → (key_numbered n ≡ None → P) → ((k : Key) → n ≡ number_of k → P) → P
by_key n P none some = by_test (n == 2) (n == 3) (n == 7) (n == 8) refl refl refl refl
  where
    by_test : (a b d e : Bool) → (n == 2) ≡ a → (n == 3) ≡ b → (n == 7) ≡ d → (n == 8) ≡ e → P
    by_test true b d e p q r s = some keys.Importance (grind (arith, common_steps))
    by_test false true d e p q r s = some keys.Bank (grind (arith, common_steps))
    by_test false false true e p q r s = some keys.User (grind (arith, common_steps))
    by_test false false false true p q r s = some keys.Test (grind (arith, common_steps))
    by_test false false false false p q r s = none (rw (p, q, r, s) refl)

module _ (c : Plain) where
  same_index : (k : Key) (i j h : Option ℕ) → IsApart (slots_of c.keyed k) → Optional (IsIndexOf c.keyed k) i h → Optional (IsIndexOf c.keyed k) j h → i ≡ j
  same_index k None None None apart p q = refl
  same_index k (Some i) (Some j) (Some h) apart p q = ap Some (apart i j h p q)
  same_index k (Some i) j None apart p q = absurd p
  same_index k None (Some j) None apart p q = absurd q
  same_index k None j (Some h) apart p q = absurd p
  same_index k (Some i) None (Some h) apart p q = absurd q

  -- two vouchers with the same handles are one list
  same_handles_same : (v u : Voucher) (w : Handles) → AreApart c.keyed → IsMap c.keyed v w → IsMap c.keyed u w → v ≡ u
  same_handles_same v u w apart p q = same_equal v u p.1.bounded.rising q.1.bounded.rising same
    where
      same : SameIndices v u
      same n = by_key n (index_at v n ≡ index_at u n) (λ e. p.1.managed n e ∙ sym (q.1.managed n e))
          (λ k e. rw e (same_index k (index_of k v) (index_of k u) (of_key k w) (apart k) (map_at c k v w p) (map_at c k u w q)))

-- a voucher of which each value is live
pub record IsKnown (c : Plain) (m : Machine) (v : Voucher) : Type 0 where
  pub handles : Handles
  pub map : IsMap c.keyed v handles
  pub live : LiveAll m.live handles

both_ways : (a b : Bool) → (a ≡ true → b ≡ true) → (b ≡ true → a ≡ true) → a ≡ b
both_ways true b f g = sym (f refl)
both_ways false true f g = g refl
both_ways false false f g = refl

same_self : (w : Handles) → same_handles w w ≡ true
same_self w = rw (one w.importance, one w.bank, one w.user, one w.test) refl
  where
    one : (o : Option ℕ) → same_handle o o ≡ true
    one None = refl
    one (Some h) = grind (arith, common_steps)

module _ (sc : Scenario) (c : Plain) (m : Machine) (t : ℕ) (b : Begins sc c m t) where
  by_handles : (v u : Voucher) (x : IsKnown c m v) (y : IsKnown c m u) → equal_vouchers (values_of c.keyed v) (values_of c.keyed u) ≡ same_handles x.handles y.handles
  by_handles v u x y =
      ap (λ w. equal_vouchers w (values_of c.keyed u)) (values_here sc c m b.stands v x.handles x.map)
      ∙ ap (equal_vouchers (valued m.live x.handles)) (values_here sc c m b.stands u y.handles y.map)
      ∙ same_vouchers m.live x.handles y.handles b.ties.fits.different x.live y.live

  pub equal_exactly : AreApart c.keyed → (v u : Voucher) → IsKnown c m v → IsKnown c m u → equal_vouchers (values_of c.keyed v) (values_of c.keyed u) ≡ indices_eq u v
  equal_exactly apart v u x y = both_ways _ _ one_list same_values
    where
      one_list : equal_vouchers (values_of c.keyed v) (values_of c.keyed u) ≡ true → indices_eq u v ≡ true
      one_list e =
          let same : x.handles ≡ y.handles = handles_eq x.handles y.handles (sym (by_handles v u x y) ∙ e) in
          (decides u v).1 (sym (same_handles_same c v u y.handles apart (subst (λ w. IsMap c.keyed v w) same x.map) y.map))

      same_values : indices_eq u v ≡ true → equal_vouchers (values_of c.keyed v) (values_of c.keyed u) ≡ true
      same_values e = subst (λ z. equal_vouchers (values_of c.keyed z) (values_of c.keyed u) ≡ true) ((decides u v).0 e)
          (by_handles u u y y ∙ same_self y.handles)
