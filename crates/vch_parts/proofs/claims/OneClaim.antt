-- A frame's claim is replaced: what stands then, and the claim's place in the picture.
use Rattle.std.proofs.Common.{◌≡◌, ℕ, ◌-◌, ◌<◌, Bool, false, List, [], ◌∷◌, ◌++◌, refl, sym, ap, ◌∙◌, length, subst, Option, Some, None}
use Rattle.vch_base.specs.declared.key.Key.{Key}
use Rattle.vch_base.specs.declared.places.Live.{Live}
use Rattle.vch_base.specs.Keys.{same_key}
use Rattle.vch_base.specs.Keyed.{of_key}
use Rattle.vch_base.specs.Managers.{live_at, count}
use Rattle.vch_base.specs.Tasks.{set_task}
use Rattle.vch_entry.specs.declared.table.Entry.{Entry}
use Rattle.vch_value.specs.Picture as picture
use Rattle.vch_value.specs.Picture.{Picture, Claimed, AgreesAt, IsClaimed, IsDead, IsKept, claims_at, flags_at, entry_of, default_of, with_claims}
use Rattle.vch_value.proofs.CallerLemmas.{claims_here, only}
use Rattle.vch_model.specs.declared.lists.Scenario.{Scenario}
use Rattle.vch_machine.specs.State as machine
use Rattle.vch_machine.specs.State.{Place, Machine, Tasked, tasked}
use Rattle.vch_frame.specs.declared.frame.Claiming.{Claiming}
use Rattle.vch_frame.specs.declared.frame.KeyIndex.{KeyIndex}
use Rattle.vch_frame.specs.Claims.{claimed, sync_of}
use Rattle.vch_values.proofs.CallerLemmas.{same_key_refl}
use Rattle.vch_parts.specs.declared.frame.Frame.{Frame}
use Rattle.vch_parts.specs.Plain.{Plain, part_of, with_frame}
use Rattle.vch_parts.specs.Shape.{IsFrame}
use Rattle.vch_parts.specs.Pictures.{picture_of, frame_holds, receipts_of, frame_claimed, claimed_of}
use Rattle.vch_parts.specs.Stands.{StandsFor}
use Rattle.vch_parts.proofs.framing.Replaced.{picture_by, claims_before, claims_behind, picture_now, picture_then, picture_same, framed}
use Rattle.vch_parts.proofs.framing.FrameParts.{frames_of, leaving_frame, leaving_machine}

-- a claim of another key is not in the picture
pub claim_elsewhere : (q : Key) (x : Claiming) (y : machine.Claim) → same_key y.place.key q ≡ false → claimed_of q x (Some y) ≡ []
claim_elsewhere q x y e = rw e refl

module _ (sc : Scenario) (c : Plain) (m : Machine) (t : ℕ) (positive : 0 < t) (inside : t - 1 < length c.tasks)
    (f : Frame) (ls : List KeyIndex) (g : machine.Frame) (rest : List Place) (x : Claiming) (y : machine.Claim)
    (own : (part_of c t).frame ≡ Some (leaving_frame f ls x))
    (task : (tasked m t).frame ≡ Some (leaving_machine g rest (Some y)))
    (s : StandsFor sc c m) where
  abbrev k : Key
  k = y.place.key

  abbrev h : ℕ
  h = y.place.handle

  abbrev pub P : Picture
  P = picture_by k c m t (Some (leaving_frame f ls x)) (Some (leaving_machine g rest (Some y)))

  pub is_now : picture_of k c m ≡ P
  is_now = picture_now k c m t positive s.shape.long inside ∙ rw (own, task) refl

  abbrev pub own_claim : Claimed
  own_claim = claimed (sync_of x) y

  pub split : P.claims ≡ claims_before k c m t ++ own_claim ∷ claims_behind k c m t
  split = rw (same_key_refl k) refl

  pub stands_now : picture.Depicts P (of_key k c.keyed).entries (of_key k c.keyed).kept
  stands_now = subst (λ (q : Picture). picture.Depicts q (of_key k c.keyed).entries (of_key k c.keyed).kept) is_now (s.keyed k).counts

  -- the task's frame
  pub old_frame : IsFrame c.keyed (leaving_frame f ls x) (leaving_machine g rest (Some y))
  old_frame = frames_of c.keyed (part_of c t).frame (tasked m t).frame _ _ own task (s.shape.tasks t positive inside).frame

  -- it is the one claim on its handle
  abbrev here : AgreesAt (count h P.holders) (flags_at h P.receipts) (claims_at h P.claims) (live_at (of_key k c.keyed).kept.slots h) (entry_of (of_key k c.keyed).entries.slots h)
  here = stands_now.at h

  claims_are : claims_at h P.claims ≡ claims_at h (claims_before k c m t) ++ own_claim ∷ claims_at h (claims_behind k c m t)
  claims_are = ap (claims_at h) split ∙ claims_here h (claims_before k c m t) (claims_behind k c m t) own_claim refl

  pub alone : claims_at h P.claims ≡ own_claim ∷ []
  alone =
      let o = only (entry_of (of_key k c.keyed).entries.slots h) (claims_at h (claims_before k c m t)) (claims_at h (claims_behind k c m t)) own_claim
      (subst (IsClaimed (entry_of (of_key k c.keyed).entries.slots h)) claims_are here.claimed) in
      claims_are ∙ rw (o.0, o.1) refl

  pub meets : AgreesAt (count h P.holders) (flags_at h P.receipts) (own_claim ∷ []) (live_at (of_key k c.keyed).kept.slots h) (entry_of (of_key k c.keyed).entries.slots h)
  meets = subst (λ cs. AgreesAt (count h P.holders) (flags_at h P.receipts) cs (live_at (of_key k c.keyed).kept.slots h) (entry_of (of_key k c.keyed).entries.slots h)) alone here

  -- the picture after: the claim is another, or none
  module _ (d : Plain) (n : Machine) (f2 : Option Frame) (g2 : Option machine.Frame) (x2 : Claiming) (y2 : Option machine.Claim)
      (parts : d.tasks ≡ set_task c.tasks t (with_frame (part_of c t) f2))
      (tasks : n.tasks ≡ set_task m.tasks t (framed (tasked m t) g2))
      (holds : (q : Key) → frame_holds q g2 ≡ frame_holds q (Some (leaving_machine g rest y2)))
      (receipts : (q : Key) → receipts_of q f2 ≡ receipts_of q (Some (leaving_frame f ls x2)))
      (claims : (q : Key) → frame_claimed q f2 g2 ≡ frame_claimed q (Some (leaving_frame f ls x2)) (Some (leaving_machine g rest y2))) where
    pub picture_after : picture_of k d n ≡ with_claims P (claims_before k c m t ++ (claimed_of k x2 y2 ++ claims_behind k c m t))
    picture_after = picture_then k c m t positive s.shape.long inside d n f2 g2 parts tasks ∙ rw (holds k, receipts k, claims k) refl

    -- and the pictures of the other keys stay
    pub picture_other : (q : Key) → same_key k q ≡ false → claimed_of q x2 y2 ≡ [] → picture_of q d n ≡ picture_of q c m
    picture_other q other none = picture_same q c m t positive s.shape.long inside d n f2 g2 parts tasks
        (holds q ∙ sym (ap (frame_holds q) task)) (receipts q ∙ sym (ap (receipts_of q) own))
        (claims q ∙ none ∙ sym (rw (own, task) (claim_elsewhere q x y other)))

-- What a claim that was not asked has.

live_of : (l : Option Live) (n : ℕ) (flags : List Bool) (c : Claimed) (e : Option Entry) → IsDead l n flags (c ∷ []) e → IsClaimed e (c ∷ []) → c.answered ≡ None → (P : Type 0) → ((a : Live) → l ≡ Some a → P) → P
live_of (Some a) n flags c e d i none P f = f a refl
live_of None n flags c None d i none P f = absurd (cc)
live_of None n flags c (Some e) d i none P f = absurd (cc)

pub unasked_live : (n : ℕ) (flags : List Bool) (c : Claimed) (l : Option Live) (e : Option Entry) → AgreesAt n flags (c ∷ []) l e → c.answered ≡ None → (P : Type 0) → ((a : Live) → l ≡ Some a → P) → P
unasked_live n flags c l e m none P f = live_of l n flags c e m.dead m.claimed none P f

-- what is claimed is not Default
pub not_default : (n : ℕ) (flags : List Bool) (c : Claimed) (l : Option Live) (e : Option Entry) → AgreesAt n flags (c ∷ []) l e → default_of l ≡ false
not_default n flags c l e m = by e m.kept m.claimed
  where
    by : (e : Option Entry) → IsKept e flags l → IsClaimed e (c ∷ []) → default_of l ≡ false
    by None k i = absurd (cc)
    by (Some e) k i = sym k.1 ∙ k.2 i.0
