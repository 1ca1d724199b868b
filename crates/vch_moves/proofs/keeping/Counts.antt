-- Who holds what fits again where receipts and claims stay and each handle has as many holders as before, and those that
-- share it now.
use Rattle.std.proofs.Common.{◌≡◌, ℕ, ◌+◌, [], ◌∷◌, refl, arith, sym, ap, ◌∙◌, length, subst, Option, Some, None}
use Rattle.std.specs.List.{flat_map}
use Rattle.vch_base.specs.declared.key.Key.{Key}
use Rattle.vch_base.specs.Keyed.{Keyed, of_key}
use Rattle.vch_base.specs.Managers.{count}
use Rattle.vch_entry.specs.Entries.{entry_at, made_of}
use Rattle.vch_value.specs.Picture.{Picture, Alike, Depicts, flags_at, claims_at}
use Rattle.vch_value.proofs.CallerLemmas.{stands_alike}
use Rattle.vch_model.specs.declared.lists.Scenario.{Scenario}
use Rattle.vch_machine.specs.State.{Machine}
use Rattle.vch_frame.specs.Indices.{listed}
use Rattle.vch_values.specs.Parts.{KeyParts}
use Rattle.vch_parts.specs.Plain.{Plain}
use Rattle.vch_parts.specs.Pictures.{picture_of, task_holds, voucher_holds, known_vouchers}
use Rattle.vch_parts.specs.Stands.{StandsFor}
use Rattle.vch_moves.specs.Known.{held_in}
use Rattle.vch_moves.specs.Kept.{StillKey, SameFlight, Shared, shared_by}
use Rattle.vch_moves.proofs.holding.Different.{count_append}

-- holders of a handle in the picture
pub picture_holds : (k : Key) (h : ℕ) (c : Plain) (m : Machine) → count h (picture_of k c m).holders ≡ held_in k h m.tasks
picture_holds k h c m = count_append h (flat_map (task_holds k) m.tasks) (flat_map (voucher_holds k) (known_vouchers m.tasks))

-- no reference was shared
pub not_shared : (sc : Scenario) (k : Key) (c d : Plain) (m : Machine) → StandsFor sc c m → d.keyed ≡ c.keyed → Shared k None c d m
not_shared sc k c d m s e = record {
  kept = ap (λ (x : Keyed KeyParts). (of_key k x).kept) e;
  numbers = ap (λ (x : Keyed KeyParts). (of_key k x).numbers) e;
  made = λ i. ap (λ (x : Keyed KeyParts). made_of (entry_at (of_key k x).entries.slots i)) e;
  counts = subst (λ (x : Keyed KeyParts). Depicts (picture_of k c m) (of_key k x).entries (of_key k x).kept) (sym e) (s.keyed k).counts;
}

module _ (k : Key) (o : Option ℕ) (c d : Plain) (m n : Machine) (shared : Shared k o c d m) (flight : SameFlight k c d m n)
    (holders : (h : ℕ) → held_in k h n.tasks ≡ count h (listed o) + held_in k h m.tasks) where
  shared_holds : (h : ℕ) (o : Option ℕ) (p : Picture) → count h (shared_by o p).holders ≡ count h (listed o) + count h p.holders
  shared_holds h None p = omega arith
  shared_holds h (Some g) p = count_append h (g ∷ []) p.holders

  same_receipts : (o : Option ℕ) (p : Picture) → (shared_by o p).receipts ≡ p.receipts
  same_receipts None p = refl
  same_receipts (Some g) p = refl

  same_claims : (o : Option ℕ) (p : Picture) → (shared_by o p).claims ≡ p.claims
  same_claims None p = refl
  same_claims (Some g) p = refl

  alike : Alike (shared_by o (picture_of k c m)) (picture_of k d n)
  alike = record {
    holders = λ h. picture_holds k h d n ∙ holders h ∙ ap (λ i. count h (listed o) + i) (sym (picture_holds k h c m)) ∙ sym (shared_holds h o (picture_of k c m));
    flags = λ h. ap (flags_at h) (flight.receipts ∙ sym (same_receipts o (picture_of k c m)));
    claims = λ h. ap (claims_at h) (flight.claims ∙ sym (same_claims o (picture_of k c m)));
    flying = ap length (flight.receipts ∙ sym (same_receipts o (picture_of k c m)));
  }

  pub still_key : StillKey k c d m n
  still_key = record {
    kept = shared.kept;
    numbers = shared.numbers;
    made = shared.made;
    counts = stands_alike _ _ _ _ alike shared.counts;
  }
