-- References of entries are shared: each index keeps its handle and its made count, and who holds what fits with one more.
use Rattle.std.proofs.Common.{◌≡◌, ℕ, ◌<◌, refl, sym, ap, ◌∙◌, subst, Option, Some, None, inl, inr}
use Rattle.std.specs.Prelude.{IfSome}
use Rattle.std.proofs.lemmas.Bool.{cases_eq}
use Rattle.vch_base.specs.declared.key.Key.{Key}
use Rattle.vch_base.specs.Keyed.{of_key}
use Rattle.vch_base.specs.Managers.{count}
use Rattle.vch_entry.specs.declared.table.Entry.{Entry}
use Rattle.vch_entry.specs.Entries.{entry_at, handle_at, handle_of, made_of, Writes, more_refs}
use Rattle.vch_value.specs.Picture.{Picture, Depicts}
use Rattle.vch_model.specs.declared.lists.Scenario.{Scenario}
use Rattle.vch_machine.specs.State.{Machine}
use Rattle.vch_frame.specs.Pairs.{Optional}
use Rattle.vch_values.specs.Parts.{KeyParts}
use Rattle.vch_parts.specs.Plain.{Plain}
use Rattle.vch_parts.specs.Shape.{IsIndexOf}
use Rattle.vch_parts.specs.Pictures.{picture_of}
use Rattle.vch_parts.specs.Stands.{StandsFor}
use Rattle.vch_parts.proofs.CallerLemmas.{Keeps}
use Rattle.vch_moves.specs.Kept.{Shared, shared_by}
use Rattle.vch_moves.specs.Shares.{OneShared, SharesAt, SharesEach}

module _ (old new : KeyParts) (i : ℕ) (shared : OneShared old i new) where
  -- of an entry that is there
  module _ (e : Entry) (at : entry_at old.entries.slots i ≡ Some e) where
    writes : Writes old.entries.slots new.entries.slots i (Some (more_refs e))
    writes = subst (λ o. IfSome o (λ e. Writes old.entries.slots new.entries.slots i (Some (more_refs e)))) at shared.entry

    same_handle : (j : ℕ) → handle_at new.entries.slots j ≡ handle_at old.entries.slots j
    same_handle j = elim (cases_eq j i) [
      | inl same ↦ subst (λ a. handle_at new.entries.slots a ≡ handle_at old.entries.slots a) (sym same) (ap handle_of writes.here ∙ sym (ap handle_of at))
      | inr n ↦ ap handle_of (writes.others j n)
    ]

    same_made : (j : ℕ) → made_of (entry_at new.entries.slots j) ≡ made_of (entry_at old.entries.slots j)
    same_made j = elim (cases_eq j i) [
      | inl same ↦ subst (λ a. made_of (entry_at new.entries.slots a) ≡ made_of (entry_at old.entries.slots a)) (sym same) (ap made_of writes.here ∙ sym (ap made_of at))
      | inr n ↦ ap made_of (writes.others j n)
    ]

entry_there : (kp : KeyParts) (i h : ℕ) (P : Type 0) → handle_at kp.entries.slots i ≡ Some h → ((e : Entry) → entry_at kp.entries.slots i ≡ Some e → P) → P
entry_there kp i h P e f = by (entry_at kp.entries.slots i) refl e
  where
    by : (o : Option Entry) → entry_at kp.entries.slots i ≡ o → handle_of o ≡ Some h → P
    by None q e = absurd (cc)
    by (Some x) q e = f x q

module _ (k : Key) (old new : KeyParts) where
  pub shares_keep : (o h : Option ℕ) → SharesAt old o new → Optional (λ i g. handle_at old.entries.slots i ≡ Some g) o h → (j g : ℕ) → handle_at old.entries.slots j ≡ Some g → handle_at new.entries.slots j ≡ Some g
  shares_keep None None s p j g e = subst (λ (x : KeyParts). handle_at x.entries.slots j ≡ Some g) (sym s) e
  shares_keep (Some i) (Some h) s p j g e = entry_there old i h _ p (λ x at. same_handle old new i s x at j ∙ e)
  shares_keep None (Some h) s p j g e = absurd p
  shares_keep (Some i) None s p j g e = absurd p

  pub shares_made : (o h : Option ℕ) → SharesAt old o new → Optional (λ i g. handle_at old.entries.slots i ≡ Some g) o h → (j : ℕ) → made_of (entry_at new.entries.slots j) ≡ made_of (entry_at old.entries.slots j)
  shares_made None None s p j = ap (λ (x : KeyParts). made_of (entry_at x.entries.slots j)) s
  shares_made (Some i) (Some h) s p j = entry_there old i h _ p (λ x at. same_made old new i s x at j)
  shares_made None (Some h) s p j = absurd p
  shares_made (Some i) None s p j = absurd p

  pub shares_kept : (o : Option ℕ) → SharesAt old o new → new.kept ≡ old.kept
  shares_kept None s = ap (λ (x : KeyParts). x.kept) s
  shares_kept (Some i) s = s.kept

  pub shares_numbers : (o : Option ℕ) → SharesAt old o new → new.numbers ≡ old.numbers
  shares_numbers None s = ap (λ (x : KeyParts). x.numbers) s
  shares_numbers (Some i) s = s.numbers

  pub shares_fit : (o h : Option ℕ) (p : Picture) → SharesAt old o new → Optional (λ i g. handle_at old.entries.slots i ≡ Some g) o h → ((g : ℕ) → h ≡ Some g → 0 < count g p.holders) → Depicts p old.entries old.kept → Depicts (shared_by h p) new.entries old.kept
  shares_fit None None p s q held d = subst (λ (x : KeyParts). Depicts p x.entries old.kept) (sym s) d
  shares_fit (Some i) (Some h) p s q held d = s.stands p old.kept h q (held h refl) d
  shares_fit None (Some h) p s q held d = absurd q
  shares_fit (Some i) None p s q held d = absurd q

module _ (sc : Scenario) (c d : Plain) (m : Machine) (s : StandsFor sc c m) (more held_more : Key → Option ℕ) (shares : SharesEach c.keyed more d.keyed)
    (indices : (k : Key) → Optional (IsIndexOf c.keyed k) (more k) (held_more k)) where
  pub shared_keeps : Keeps c.keyed d.keyed
  shared_keeps k i h e = shares_keep k (of_key k c.keyed) (of_key k d.keyed) (more k) (held_more k) (shares k) (indices k) i h e

  pub shared_each : (k : Key) → ((g : ℕ) → held_more k ≡ Some g → 0 < count g (picture_of k c m).holders) → Shared k (held_more k) c d m
  shared_each k held = let kept = shares_kept k (of_key k c.keyed) (of_key k d.keyed) (more k) (shares k) in record {
    kept = kept;
    numbers = shares_numbers k (of_key k c.keyed) (of_key k d.keyed) (more k) (shares k);
    made = shares_made k (of_key k c.keyed) (of_key k d.keyed) (more k) (held_more k) (shares k) (indices k);
    counts = subst (λ x. Depicts (shared_by (held_more k) (picture_of k c m)) (of_key k d.keyed).entries x) (sym kept)
        (shares_fit k (of_key k c.keyed) (of_key k d.keyed) (more k) (held_more k) (picture_of k c m) (shares k) (indices k) held (s.keyed k).counts);
  }
