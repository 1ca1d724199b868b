-- A deed by indices and by handles: what becomes of a key agrees, and what a copy gives is held by the voucher of a name.
use Rattle.std.proofs.Common.{◌≡◌, ℕ, ◌<◌, ◌==◌, Bool, true, false, cond, refl, arith, sym, ap, ◌∙◌, subst, Option, Some, None}
use Rattle.std.proofs.lemmas.Grind.{common_steps}
use Rattle.vch_base.specs.declared.key.Key.{Key}
use Rattle.vch_base.specs.Keyed.{Keyed, of_key}
use Rattle.vch_base.specs.Managers.{count}
use Rattle.vch_entry.specs.Entries.{IsApart, handle_at}
use Rattle.vch_machine.specs.State.{Handles, Machine}
use Rattle.vch_machine.specs.Naming.{same_handle, is_known}
use Rattle.vch_machine.specs.Working.{copies, removes}
use Rattle.vch_frame.specs.Pairs.{Optional}
use Rattle.vch_frame.specs.Indices.{index_of}
use Rattle.vch_frame.proofs.CallerLemmas.{either_way}
use Rattle.vch_values.specs.Parts.{KeyParts}
use Rattle.vch_parts.specs.Plain.{Indices, Plain}
use Rattle.vch_parts.specs.Pictures.{picture_of}
use Rattle.vch_parts.specs.Shape.{IsIndexOf, IsMap, slots_of}
use Rattle.vch_parts.proofs.CallerLemmas.{at_key}
use Rattle.vch_moves.specs.Desks.{AllApart}
use Rattle.vch_moves.specs.Works.{Becomes, KeysDiffer}
use Rattle.vch_moves.proofs.CallerLemmas.{known_held, managed_differ}
use Rattle.vch_creating.specs.declared.change.Deed.{Deed}
use Rattle.vch_creating.specs.declared.change.Deed.TheVariants as deeds
use Rattle.vch_creating.specs.declared.change.AtKeys.{AtKeys}
use Rattle.vch_creating.specs.declared.change.AtKeys.TheVariants as at
use Rattle.vch_creating.specs.Changing.{becomes, keys_in}

module _ (x : Keyed KeyParts) where
  -- equal handles are equal indices
  same_both : (k : Key) (i j h g : Option ℕ) → IsApart (slots_of x k) → Optional (IsIndexOf x k) i h → Optional (IsIndexOf x k) j g → same_handle i j ≡ same_handle h g
  same_both k None None None None apart p q = refl
  same_both k None (Some j) None (Some g) apart p q = refl
  same_both k (Some i) None (Some h) None apart p q = refl
  same_both k (Some i) (Some j) (Some h) (Some g) apart p q = either_way (i == j) (h == g)
      (λ e. let same : i ≡ j = grind (arith, common_steps) in let z : Some h ≡ Some g = sym p ∙ (ap (handle_at (slots_of x k)) same ∙ q) in let y : h ≡ g = cc in test y)
      (λ e. let same : h ≡ g = grind (arith, common_steps) in test (apart i j g (p ∙ ap Some same) q))
    where
      test : {a b : ℕ} → a ≡ b → (a == b) ≡ true
      test {a} {b} e = grind (arith, common_steps)
  same_both k None j (Some h) g apart p q = absurd p
  same_both k (Some i) j None g apart p q = absurd p
  same_both k None None None (Some g) apart p q = absurd q
  same_both k (Some i) None (Some h) (Some g) apart p q = absurd q
  same_both k None (Some j) None None apart p q = absurd q
  same_both k (Some i) (Some j) (Some h) None apart p q = absurd q

  -- what the machine makes of each key, by the voucher that the deed has
  abbrev pub DeedIs : Handles → Deed → (Key → Option (Option ℕ)) → Type 0
  DeedIs w (deeds.Copy v) f = (u : Handles) × IsMap x v u × ((k : Key) → f k ≡ copies (Some u) w k)
  DeedIs w (deeds.Remove None) f = (k : Key) → f k ≡ removes None w k
  DeedIs w (deeds.Remove (Some v)) f = (u : Handles) × IsMap x v u × ((k : Key) → f k ≡ removes (Some u) w k)

  both_gone : (k : Key) (a b : Bool) → a ≡ b → Becomes x k (cond a (Some None) None) (cond b (Some None) None)
  both_gone k true true e = tt
  both_gone k false false e = tt
  both_gone k true false e = absurd (cc)
  both_gone k false true e = absurd (cc)

  pub becomes_is : AllApart x → (w : Handles) (deed : Deed) (f : Key → Option (Option ℕ)) → DeedIs w deed f → (k : Key) (map : Indices) (y : Handles) → IsMap x map y → of_key k y ≡ of_key k w → Becomes x k (becomes deed map k) (f k)
  becomes_is apart w (deeds.Copy v) f d k map y m e = subst (Becomes x k (Some (index_of k v))) (sym (d.2 k)) (at_key x k v d.0 d.1)
  becomes_is apart w (deeds.Remove None) f d k map y m e = subst (Becomes x k (Some None)) (sym (d k)) tt
  becomes_is apart w (deeds.Remove (Some v)) f d k map y m e =
      subst (Becomes x k (becomes (deeds.Remove (Some v)) map k)) (sym (d.2 k))
      (both_gone k (same_handle (index_of k v) (index_of k map)) (same_handle (of_key k d.0) (of_key k w))
      (same_both k (index_of k v) (index_of k map) (of_key k d.0) (of_key k y) (apart k) (at_key x k v d.0 d.1) (at_key x k map y m) ∙ ap (same_handle (of_key k d.0)) e))

-- a removal gives no handle
abbrev removed : Bool → Option (Option ℕ)
removed b = cond b (Some None) None

gone_none : (b : Bool) (h : ℕ) → removed b ≡ Some (Some h) → ⊥
gone_none true h e = cc
gone_none false h e = cc

taken_none : (o : Option (Option ℕ)) (h : ℕ) → o ≡ Some None → o ≡ Some (Some h) → ⊥
taken_none o h d e = cc

-- a copy is of a voucher that a name or a message has
abbrev pub CopiesKnown : Keyed KeyParts → Machine → Deed → Type 0
CopiesKnown x m (deeds.Copy v) = (u : Handles) × IsMap x v u × (is_known m u ≡ true)
CopiesKnown x m (deeds.Remove v) = Unit {0}

-- one index has one handle
same_at : (x : Keyed KeyParts) (k : Key) (i g h : Option ℕ) → Optional (IsIndexOf x k) i g → Optional (IsIndexOf x k) i h → g ≡ h
same_at x k None None None p q = refl
same_at x k (Some i) (Some g) (Some h) p q = sym p ∙ q
same_at x k None (Some g) h p q = absurd p
same_at x k None None (Some h) p q = absurd q
same_at x k (Some i) None h p q = absurd p
same_at x k (Some i) (Some g) None p q = absurd q

one_handle : {o : Option ℕ} {h : ℕ} → Some o ≡ Some (Some h) → o ≡ Some h
one_handle z = cc

pub deed_held : (c : Plain) (m : Machine) (w : Handles) (deed : Deed) (f : Key → Option (Option ℕ)) → DeedIs c.keyed w deed f → CopiesKnown c.keyed m deed
    → (k : Key) (h : ℕ) → f k ≡ Some (Some h) → 0 < count h (picture_of k c m).holders
deed_held c m w (deeds.Copy v) f d known k h e =
    let q : of_key k d.0 ≡ Some h = one_handle (sym (d.2 k) ∙ e) in
    let z : of_key k known.0 ≡ of_key k d.0 = same_at c.keyed k (index_of k v) (of_key k known.0) (of_key k d.0) (at_key c.keyed k v known.0 known.1) (at_key c.keyed k v d.0 d.1) in
    known_held k h c m known.0 known.2 (z ∙ q)
deed_held c m w (deeds.Remove None) f d known k h e = absurd (taken_none (f k) h (d k) e)
deed_held c m w (deeds.Remove (Some v)) f d known k h e = absurd (gone_none (same_handle (of_key k d.0) (of_key k w)) h (sym (d.2 k) ∙ e))

-- the keys of a change are all different
pub keys_differ : (version : ℕ) (keys : AtKeys) → KeysDiffer (keys_in version keys)
keys_differ version (at.One k) = (tt, tt)
keys_differ version at.All = managed_differ version
