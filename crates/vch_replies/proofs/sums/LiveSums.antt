-- Sums over what a manager keeps, over the live values of the machine, and over those that the store lists.
use Rattle.std.proofs.Common.{◌≡◌, ℕ, ◌+◌, ◌≤◌, ◌<◌, Bool, true, false, length, refl, arith, sym, ap, ◌∙◌, subst, Option, Some, None, inl, inr}
use Rattle.std.proofs.lemmas.Grind.{common_steps}
use Rattle.std.specs.Prelude.{nat_lt}
use Rattle.std.specs.List.{sum_by}
use Rattle.vch_base.specs.declared.key.Key.{Key}
use Rattle.vch_base.specs.declared.places.Live.{Live}
use Rattle.vch_base.specs.declared.value.Value.{Value}
use Rattle.vch_base.specs.declared.value.Value.TheVariants as values
use Rattle.vch_base.specs.Keyed.{of_key}
use Rattle.vch_base.specs.Keys.{same_key}
use Rattle.vch_base.specs.Managers.{live_at}
use Rattle.vch_base.proofs.CallerLemmas.{inside_of}
use Rattle.vch_model.specs.declared.lists.Scenario.{Scenario}
use Rattle.vch_model.specs.After.{store_of}
use Rattle.vch_model.specs.Store.{Store, Alive}
use Rattle.vch_machine.specs.State.{Place, Living, Machine, living_at, alive_of, same_place, default_living, default_place}
use Rattle.vch_legal.proofs.CallerLemmas.{AtMostOnce, each_of, at_most_once, found_place, same_place_eq}
use Rattle.vch_frame.specs.Living.{IsLiving}
use Rattle.vch_values.specs.Parts.{number_at}
use Rattle.vch_values.proofs.CallerLemmas.{key_cases}
use Rattle.vch_parts.specs.Plain.{Plain}
use Rattle.vch_replies.specs.Begins.{Begins}
use Rattle.vch_replies.proofs.sums.Sums.{sum_flat, sum_each, found}
use Rattle.vch_replies.proofs.sums.Spread.{keyed, AreBelow, over_slots}

module _ (sc : Scenario) (c : Plain) (m : Machine) (t : ℕ) (b : Begins sc c m t) where
  pub once : AtMostOnce m.live
  once = at_most_once m b.ties.fits.each_once

  -- what the machine has at a handle is in a slot
  slot_of : (k : Key) (h : ℕ) (a : Living) → living_at m.live (record { key = k; handle = h }) ≡ Some a → h < length (of_key k c.keyed).kept.slots
  slot_of k h a e = of_live (live_at (of_key k c.keyed).kept.slots h) refl
      (subst (IsLiving (number_at (of_key k c.keyed).numbers h) (live_at (of_key k c.keyed).kept.slots h)) e ((b.stands.keyed k).living h))
    where
      of_live : (o : Option Live) → live_at (of_key k c.keyed).kept.slots h ≡ o → IsLiving (number_at (of_key k c.keyed).numbers h) o (Some a) → h < length (of_key k c.keyed).kept.slots
      of_live None f i = absurd i
      of_live (Some l) f i = inside_of (of_key k c.keyed).kept.slots h l f

  below : (k : Key) → AreBelow k (length (of_key k c.keyed).kept.slots) m.live
  below k = each_of (λ l. same_key l.place.key k ≡ true → l.place.handle < length (of_key k c.keyed).kept.slots) m.live once one
    where
      one : (p : Place) (a : Living) → living_at m.live p ≡ Some a → same_key a.place.key k ≡ true → a.place.handle < length (of_key k c.keyed).kept.slots
      one p a e same = elim (key_cases a.place.key k) [
        | inl is ↦ slot_of k a.place.handle a (subst (λ (j : Key). living_at m.live (record { key = j; handle = a.place.handle }) ≡ Some a) is
            (subst (λ (q : Place). living_at m.live q ≡ Some a) (sym (found_place m.live p a e)) e))
        | inr other ↦ absurd (cc)
      ]

  -- a sum over slots is one over the live values at the key, where both weigh a live value alike
  pub slots_sum : (k : Key) (g : Option Live → ℕ) (w : Living → ℕ) → g None ≡ 0
      → ((h : ℕ) (l : Live) (a : Living) → live_at (of_key k c.keyed).kept.slots h ≡ Some l → l.value ≡ a.value → g (Some l) ≡ w a)
      → sum_by g (of_key k c.keyed).kept.slots ≡ sum_by (keyed w k) m.live
  slots_sum k g w none some = over_slots w k g m.live (of_key k c.keyed).kept.slots once (below k) (λ h. by_live h _ _ refl ((b.stands.keyed k).living h))
    where
      by_live : (h : ℕ) (o : Option Live) (a : Option Living) → live_at (of_key k c.keyed).kept.slots h ≡ o → IsLiving (number_at (of_key k c.keyed).numbers h) o a → g o ≡ found w a
      by_live h None None e i = none
      by_live h None (Some a) e i = absurd i
      by_live h (Some l) None e i = absurd i
      by_live h (Some l) (Some a) e i = some h l a e i.0

  -- a live value without a number is Default
  pub unnumbered : (p : Place) (a : Living) → living_at m.live p ≡ Some a → nat_lt 0 a.made ≡ false → (p ≡ default_place) × (a ≡ default_living)
  unnumbered p a e none = by_test (same_place p default_place) refl
    where
      some_eq : (x y : Living) → Some x ≡ Some y → x ≡ y
      some_eq x y g = cc

      positive : (n : ℕ) → 1 ≤ n → nat_lt 0 n ≡ false → ⊥
      positive n l g = let h : nat_lt 0 n ≡ true = grind (arith, common_steps) in cc

      by_test : (d : Bool) → same_place p default_place ≡ d → (p ≡ default_place) × (a ≡ default_living)
      by_test true f =
          let q : p ≡ default_place = same_place_eq p default_place f in
          (q, some_eq a default_living (sym (subst (λ r. living_at m.live r ≡ Some a) q e) ∙ b.ties.fits.default_live))
      by_test false f = absurd (positive a.made (b.ties.fits.numbers.counted p a e f) none)

  -- the store lists all live values but Default
  pub store_sum : (v : Value → ℕ) → v values.Default ≡ 0
      → sum_by (λ (l : Alive). v l.value) (store_of sc m.past).live ≡ sum_by (λ (a : Living). v a.value) m.live
  store_sum v none =
      sym (ap (λ (s : Store). sum_by (λ (l : Alive). v l.value) s.live) b.ties.same_store)
      ∙ sum_flat (λ (l : Alive). v l.value) alive_of m.live
      ∙ sum_each (λ a. sum_by (λ (l : Alive). v l.value) (alive_of a)) (λ a. v a.value) m.live (each_of (λ a. sum_by (λ (l : Alive). v l.value) (alive_of a) ≡ v a.value) m.live once one)
    where
      one : (p : Place) (a : Living) → living_at m.live p ≡ Some a → sum_by (λ (l : Alive). v l.value) (alive_of a) ≡ v a.value
      one p a e = by_test (nat_lt 0 a.made) refl
        where
          one_item : (n : ℕ) → 0 + n ≡ n
          one_item n = omega arith

          by_test : (d : Bool) → nat_lt 0 a.made ≡ d → sum_by (λ (l : Alive). v l.value) (alive_of a) ≡ v a.value
          by_test true f = rw f (one_item (v a.value))
          by_test false f = rw f (sym (ap (λ (x : Living). v x.value) (unnumbered p a e f).1 ∙ none))
