-- How many vouchers and values are live: the values of all managers are those that the store lists, and Default.
use Rattle.std.proofs.Common.{◌≡◌, ℕ, ◌+◌, ◌≤◌, Bool, true, false, cond, length, refl, arith, sym, ap, ◌∙◌, subst, Option, Some}
use Rattle.std.proofs.lemmas.Grind.{common_steps}
use Rattle.std.proofs.lemmas.List.Concat.{length-flat_map}
use Rattle.std.specs.Prelude.{nat_lt}
use Rattle.std.specs.List.{sum_by, count_by}
use Rattle.vch_base.specs.declared.key.Key.{Key}
use Rattle.vch_base.specs.declared.key.Key.TheVariants as keys
use Rattle.vch_base.specs.declared.places.Live.{Live}
use Rattle.vch_base.specs.Keyed.{of_key}
use Rattle.vch_base.specs.Slots.{is_taken}
use Rattle.vch_model.specs.declared.call.Call.TheVariants as calls
use Rattle.vch_model.specs.declared.entry.Reply.TheVariants as replies
use Rattle.vch_model.specs.declared.lists.Scenario.{Scenario}
use Rattle.vch_machine.specs.Beginning.{store_reply}
use Rattle.vch_machine.specs.State.{Place, Living, Machine, living_at, alive_of, seen, same_place, default_living, default_place}
use Rattle.vch_legal.proofs.CallerLemmas.{each_of, found_place, same_place_eq}
use Rattle.vch_vouchers.specs.Desks.{different}
use Rattle.vch_values.specs.Parts.{live_in}
use Rattle.vch_values.proofs.CallerLemmas.{over_keys}
use Rattle.vch_parts.specs.Plain.{Plain}
use Rattle.vch_replies.specs.Begins.{Begins}
use Rattle.vch_replies.specs.Known.{all_vouchers, AreApart}
use Rattle.vch_replies.proofs.known.Known.{vouchers_live}
use Rattle.vch_replies.proofs.sums.Sums.{sum_add, sum_same, sum_each, weighs, found, at_place}
use Rattle.vch_replies.proofs.sums.Spread.{keyed}
use Rattle.vch_replies.proofs.sums.LiveSums.{once, slots_sum}

module _ (sc : Scenario) (c : Plain) (m : Machine) (t : ℕ) (b : Begins sc c m t) where
  at_key : (k : Key) → count_by is_taken (of_key k c.keyed).kept.slots ≡ sum_by (keyed (λ l. 1) k) m.live
  at_key k = slots_sum sc c m t b k (λ (o : Option Live). cond (is_taken o) 1 0) (λ l. 1) refl (λ h l a e f. refl)

  -- each live value is at one key
  one_key : (k : Key) (l : Living) → l.place.key ≡ k → (keyed (λ l. 1) keys.Importance l + keyed (λ l. 1) keys.Bank l) + (keyed (λ l. 1) keys.User l + keyed (λ l. 1) keys.Test l) ≡ 1
  one_key keys.Importance l e = rw e refl
  one_key keys.Bank l e = rw e refl
  one_key keys.User l e = rw e refl
  one_key keys.Test l e = rw e refl

  all_keys : live_in c.keyed ≡ sum_by (λ (l : Living). 1) m.live
  all_keys =
      let s = over_keys (λ k. count_by is_taken (of_key k c.keyed).kept.slots) in
      let a = at_key keys.Importance in
      let d = at_key keys.Bank in
      let e = at_key keys.User in
      let f = at_key keys.Test in
      let p = sum_add (keyed (λ l. 1) keys.Importance) (keyed (λ l. 1) keys.Bank) m.live in
      let q = sum_add (keyed (λ l. 1) keys.User) (keyed (λ l. 1) keys.Test) m.live in
      let r = sum_add (λ l. keyed (λ l. 1) keys.Importance l + keyed (λ l. 1) keys.Bank l) (λ l. keyed (λ l. 1) keys.User l + keyed (λ l. 1) keys.Test l) m.live in
      let z = sum_same (λ l. (keyed (λ l. 1) keys.Importance l + keyed (λ l. 1) keys.Bank l) + (keyed (λ l. 1) keys.User l + keyed (λ l. 1) keys.Test l)) (λ l. 1) m.live (λ l. one_key l.place.key l refl) in
      omega (arith, s, a, d, e, f, p, q, r, z)

  -- a live value is Default or listed
  listed_or_default : (p : Place) (a : Living) → living_at m.live p ≡ Some a → 1 ≡ length (alive_of a) + weighs (λ l. 1) default_place a
  listed_or_default p a e = by_test (same_place p default_place) refl
    where
      some_eq : (x y : Living) → Some x ≡ Some y → x ≡ y
      some_eq x y g = cc

      by_test : (d : Bool) → same_place p default_place ≡ d → 1 ≡ length (alive_of a) + weighs (λ l. 1) default_place a
      by_test true f =
          let q : p ≡ default_place = same_place_eq p default_place f in
          let g : a ≡ default_living = some_eq a default_living (sym (subst (λ r. living_at m.live r ≡ Some a) q e) ∙ b.ties.fits.default_live) in
          rw g refl
      by_test false f =
          let g : same_place a.place default_place ≡ false = ap (λ r. same_place r default_place) (found_place m.live p a e) ∙ f in
          let l : 1 ≤ a.made = b.ties.fits.numbers.counted p a e f in
          let h : nat_lt 0 a.made ≡ true = grind (arith, common_steps) in
          rw (g, h) refl

  pub values_live : 1 + length (seen m).live ≡ live_in c.keyed
  values_live =
      let a = length-flat_map alive_of m.live in
      let z = sum_add (λ a. length (alive_of a)) (weighs (λ l. 1) default_place) m.live in
      let e : sum_by (λ (l : Living). 1) m.live ≡ sum_by (λ a. length (alive_of a) + weighs (λ l. 1) default_place a) m.live =
      sum_each (λ l. 1) (λ a. length (alive_of a) + weighs (λ l. 1) default_place a) m.live
      (each_of (λ a. 1 ≡ length (alive_of a) + weighs (λ l. 1) default_place a) m.live (once sc c m t b) listed_or_default) in
      let d : sum_by (weighs (λ l. 1) default_place) m.live ≡ 1 =
      at_place (λ l. 1) default_place m.live (once sc c m t b) ∙ ap (found (λ l. 1)) b.ties.fits.default_live in
      let k = all_keys in
      omega (arith, a, z, e, d, k)

  pub live_reply : AreApart c.keyed → store_reply sc m t calls.Live ≡ replies.Live (different (all_vouchers c.tasks)) (live_in c.keyed)
  live_reply apart = both _ _ _ _ (vouchers_live sc c m t b apart) values_live
    where
      both : (p q r s : ℕ) → p ≡ r → q ≡ s → replies.Live p q ≡ replies.Live r s
      both p q r s e f = cc
