-- What becomes of the keys of a voucher by COPY and by REMOVE, on both sides.
use Rattle.std.proofs.Common.{◌≡◌, ℕ, ◌==◌, Bool, true, false, List, refl, arith, sym, ap, ◌∙◌, Option, Some, None}
use Rattle.std.specs.Prelude.{if◌then◌else◌}
use Rattle.std.proofs.lemmas.Grind.{common_steps}
use Rattle.vch_base.specs.declared.key.Key.{Key}
use Rattle.vch_base.specs.Keyed.{Keyed, of_key}
use Rattle.vch_entry.specs.Entries.{IsApart, handle_at}
use Rattle.vch_machine.specs.Naming.{is_known, same_handle}
use Rattle.vch_machine.specs.State.{Handles, Machine}
use Rattle.vch_machine.specs.Working as working
use Rattle.vch_frame.specs.Pairs.{Optional}
use Rattle.vch_frame.specs.Indices.{index_of}
use Rattle.vch_values.specs.Parts.{KeyParts}
use Rattle.vch_parts.specs.Plain.{Indices, Plain}
use Rattle.vch_parts.specs.Shape.{IsIndexOf, IsMap, slots_of}
use Rattle.vch_parts.proofs.CallerLemmas.{at_key}
use Rattle.vch_moves.specs.Desks.{AllApart}
use Rattle.vch_moves.specs.Works.{copies, removes, KeysDiffer, Becomes, Alters}
use Rattle.vch_moves.proofs.sharing.Among.{known_held}

eq_of : (i j : ℕ) → (i == j) ≡ true → i ≡ j
eq_of i j e = grind (arith, common_steps)

of_eq : (i j : ℕ) → i ≡ j → (i == j) ≡ true
of_eq i j e = grind (arith, common_steps)

same_test : (i j h g : ℕ) → (i ≡ j → h ≡ g) → (h ≡ g → i ≡ j) → (i == j) ≡ (h == g)
same_test i j h g a b = by (i == j) (h == g) refl refl
  where
    by : (x y : Bool) → (i == j) ≡ x → (h == g) ≡ y → x ≡ y
    by true true p q = refl
    by false false p q = refl
    by true false p q = absurd (let z : true ≡ false = sym (of_eq h g (a (eq_of i j p))) ∙ q in cc)
    by false true p q = absurd (let z : true ≡ false = sym (of_eq i j (b (eq_of h g q))) ∙ p in cc)

-- two indices are one where their handles are
same_handles_at : (x : Keyed KeyParts) (k : Key) (i j h g : Option ℕ) → IsApart (slots_of x k) → Optional (IsIndexOf x k) i h → Optional (IsIndexOf x k) j g → same_handle i j ≡ same_handle h g
same_handles_at x k None None None None apart p q = refl
same_handles_at x k (Some i) None (Some h) None apart p q = refl
same_handles_at x k None (Some j) None (Some g) apart p q = refl
same_handles_at x k (Some i) (Some j) (Some h) (Some g) apart p q =
    same_test i j h g (λ e. one (sym p ∙ (ap (λ n. handle_at (slots_of x k) n) e ∙ q))) (λ e. apart i j g (p ∙ ap Some e) q)
  where
    one : {a b : ℕ} → Some a ≡ Some b → a ≡ b
    one e = cc
same_handles_at x k None j (Some h) g apart p q = absurd p
same_handles_at x k (Some i) j None g apart p q = absurd p
same_handles_at x k i None h (Some g) apart p q = absurd q
same_handles_at x k i (Some j) h None apart p q = absurd q

module _ (c : Plain) (m : Machine) (w : Handles) (ks : List Key) (differ : KeysDiffer ks) where
  -- COPY of a voucher that a name has
  pub copy_alters : (v : Indices) (z : Handles) → IsMap c.keyed v z → is_known m z ≡ true → Alters c m w (copies v) (working.copies (Some z) w) ks
  copy_alters v z map known = record { differ = differ; agrees = λ k a b related same. at_key c.keyed k v z map; held = λ k h e. known_held k h c m z known (one e) }
    where
      one : {a b : Option ℕ} → Some a ≡ Some b → a ≡ b
      one e = cc

  -- REMOVE of what is there
  pub remove_alters : Alters c m w (removes None) (working.removes None w) ks
  remove_alters = record { differ = differ; agrees = λ k a b related same. tt; held = λ k h e. absurd (never h e) }
    where
      never : (h : ℕ) → Some None ≡ Some (Some h) → ⊥
      never h e = let z : None ≡ Some h = cc in cc

  -- REMOVE of what a voucher has
  pub remove_same_alters : (v : Indices) (z : Handles) → AllApart c.keyed → IsMap c.keyed v z → Alters c m w (removes (Some v)) (working.removes (Some z) w) ks
  remove_same_alters v z apart map = record {
    differ = differ;
    agrees = λ k a b related same.
        agree k (same_handle (index_of k v) (index_of k a)) (same_handle (of_key k z) (of_key k w))
        (same_handles_at c.keyed k (index_of k v) (index_of k a) (of_key k z) (of_key k b) (apart k) (at_key c.keyed k v z map) (at_key c.keyed k a b related)
        ∙ ap (λ o. same_handle (of_key k z) o) same);
    held = λ k h e. absurd (never h (same_handle (of_key k z) (of_key k w)) e);
  }
    where
      agree : (k : Key) (p q : Bool) → p ≡ q → Becomes c.keyed k (if p then Some None else None) (if q then Some None else None)
      agree k true true e = tt
      agree k false false e = tt
      agree k true false e = absurd (cc)
      agree k false true e = absurd (cc)

      never : (h : ℕ) (b : Bool) → (if b then Some None else None) ≡ Some (Some h) → ⊥
      never h true e = let z : None ≡ Some h = cc in cc
      never h false e = cc
