-- A frame that has nothing left to do is gone, and stands for nothing.
use Rattle.std.proofs.Common.{◌≡◌, ◌||◌, not, Bool, true, false, cond, List, [], ◌∷◌, refl, Option, Some, None}
use Rattle.std.specs.Prelude.{is_some}
use Rattle.vch_base.specs.declared.key.Key.{Key}
use Rattle.vch_base.specs.Keyed.{Keyed}
use Rattle.vch_machine.specs.State as machine
use Rattle.vch_machine.specs.State.{is_empty}
use Rattle.vch_machine.specs.Frames as frames
use Rattle.vch_frame.specs.declared.frame.Claiming.{Claiming}
use Rattle.vch_frame.specs.Pairs.{Optional, Pairwise}
use Rattle.vch_frame.specs.Claims.{is_nothing}
use Rattle.vch_values.specs.Parts.{KeyParts}
use Rattle.vch_parts.specs.declared.frame.Frame.{Frame}
use Rattle.vch_parts.specs.Plain.{closed, stays}
use Rattle.vch_parts.specs.Shape.{IsFrame, IsClaim}
use Rattle.vch_parts.specs.Pictures.{frame_holds, receipts_of, frame_claimed, claimed_of}

-- the test of a frame that is gone, in the machine
abbrev pub remains : machine.Frame → Bool
remains g = not g.answered || (is_some g.receipt || (is_some g.claim || not (is_empty g.lets)))

same_some : {A B : Type 0} (r : A → B → Type 0) (a : Option A) (b : Option B) → Optional r a b → is_some a ≡ is_some b
same_some r None None p = refl
same_some r (Some a) (Some b) p = refl
same_some r None (Some b) p = absurd p
same_some r (Some a) None p = absurd p

same_empty : {A B : Type 0} (r : A → B → Type 0) (a : List A) (b : List B) → Pairwise r a b → is_empty a ≡ is_empty b
same_empty r [] [] p = refl
same_empty r (a ∷ as_) (b ∷ bs) p = refl
same_empty r [] (b ∷ bs) p = absurd p
same_empty r (a ∷ as_) [] p = absurd p

same_claim : (x : Keyed KeyParts) (a : Claiming) (b : Option machine.Claim) → IsClaim x a b → not (is_nothing a) ≡ is_some b
same_claim x Claiming.Nothing None p = refl
same_claim x (Claiming.Claimed k a) (Some b) p = refl
same_claim x (Claiming.Answered k a) (Some b) p = refl
same_claim x Claiming.Nothing (Some b) p = absurd p
same_claim x (Claiming.Claimed k a) None p = absurd p
same_claim x (Claiming.Answered k a) None p = absurd p

same_stay : (x : Keyed KeyParts) (f : Frame) (g : machine.Frame) → IsFrame x f g → stays f ≡ remains g
same_stay x f g p =
    let b : is_some f.receipt ≡ is_some g.receipt = same_some _ f.receipt g.receipt p.receipt in
    let d : not (is_nothing f.claim) ≡ is_some g.claim = same_claim x f.claim g.claim p.claim in
    let e : is_empty f.lets ≡ is_empty g.lets = same_empty _ f.lets g.lets p.lets in
    rw (p.answered, b, d, e) refl

-- both are gone, or neither
pub closed_frames : (x : Keyed KeyParts) (f : Frame) (g : machine.Frame) → IsFrame x f g → Optional (IsFrame x) (closed f) (frames.closed g)
closed_frames x f g p = by (stays f) (remains g) (same_stay x f g p)
  where
    by : (a b : Bool) → a ≡ b → Optional (IsFrame x) (cond a (Some f) None) (cond b (Some g) None)
    by true true e = p
    by false false e = tt
    by true false e = absurd (cc)
    by false true e = absurd (cc)

-- a frame that is gone held nothing and had nothing in hand

or_none : (a b c d : Bool) → (a || (b || (c || d))) ≡ false → (a ≡ false) × (b ≡ false) × (c ≡ false) × (d ≡ false)
or_none false false false false e = (refl, refl, refl, refl)
or_none true b c d e = absurd (cc)
or_none false true c d e = absurd (cc)
or_none false false true d e = absurd (cc)
or_none false false false true e = absurd (cc)

none_of : {A : Type 0} (o : Option A) → is_some o ≡ false → o ≡ None
none_of None e = refl
none_of (Some x) e = absurd (cc)

empty_of : {A : Type 0} (xs : List A) → not (is_empty xs) ≡ false → xs ≡ []
empty_of [] e = refl
empty_of (x ∷ xs) e = absurd (cc)

was_answered : (b : Bool) → not b ≡ false → b ≡ true
was_answered true e = refl
was_answered false e = absurd (cc)

-- nothing is formed once the call is answered
abbrev pub Formless : machine.Frame → Type 0
Formless g = g.answered ≡ true → g.forming ≡ None

pub holds_closed : (k : Key) (g : machine.Frame) → Formless g → frame_holds k (frames.closed g) ≡ frame_holds k (Some g)
holds_closed k g h = by (remains g) refl
  where
    by : (b : Bool) → remains g ≡ b → frame_holds k (cond b (Some g) None) ≡ frame_holds k (Some g)
    by true e = refl
    by false e =
        let n = or_none (not g.answered) (is_some g.receipt) (is_some g.claim) (not (is_empty g.lets)) e in
        rw (h (was_answered g.answered n.0), empty_of g.lets n.3) refl

pub receipts_closed : (k : Key) (f : Frame) → receipts_of k (closed f) ≡ receipts_of k (Some f)
receipts_closed k f = by (stays f) refl
  where
    by : (b : Bool) → stays f ≡ b → receipts_of k (cond b (Some f) None) ≡ receipts_of k (Some f)
    by true e = refl
    by false e =
        let n = or_none (not f.answered) (is_some f.receipt) (not (is_nothing f.claim)) (not (is_empty f.lets)) e in
        rw (none_of f.receipt n.1) refl

pub claimed_closed : (x : Keyed KeyParts) (k : Key) (f : Frame) (g : machine.Frame) → IsFrame x f g → frame_claimed k (closed f) (frames.closed g) ≡ frame_claimed k (Some f) (Some g)
claimed_closed x k f g p = by (stays f) (remains g) refl (same_stay x f g p)
  where
    by : (a b : Bool) → remains g ≡ b → a ≡ b → frame_claimed k (cond a (Some f) None) (cond b (Some g) None) ≡ claimed_of k f.claim g.claim
    by true true r e = refl
    by false false r e =
        let n = or_none (not g.answered) (is_some g.receipt) (is_some g.claim) (not (is_empty g.lets)) r in
        rw (none_of g.claim n.2) refl
    by true false r e = absurd (cc)
    by false true r e = absurd (cc)
