-- A frame with nothing in hand shows neither a receipt nor a claim.
use Rattle.std.proofs.Common.{◌≡◌, Bool, true, false, cond, [], refl, Option, Some, None}
use Rattle.vch_base.specs.declared.key.Key.{Key}
use Rattle.vch_base.specs.Keyed.{Keyed}
use Rattle.vch_machine.specs.State as machine
use Rattle.vch_frame.specs.declared.frame.Claiming.{Claiming}
use Rattle.vch_frame.specs.Pairs.{Optional}
use Rattle.vch_values.specs.Parts.{KeyParts}
use Rattle.vch_parts.specs.declared.frame.Frame.{Frame}
use Rattle.vch_parts.specs.Plain.{closed, stays}
use Rattle.vch_parts.specs.Shape.{IsFrame, IsClaim}
use Rattle.vch_parts.specs.Pictures.{receipts_of, frame_claimed, claimed_of}
use Rattle.vch_parts.proofs.CallerLemmas.{no_claim, no_receipt}
use Rattle.vch_moves.specs.Steps.{IsIdle}

pub idle_receipts : (k : Key) (o : Option Frame) → IsIdle o → receipts_of k o ≡ []
idle_receipts k None p = refl
idle_receipts k (Some f) p = rw p.0 refl

pub idle_claims : (x : Keyed KeyParts) (k : Key) (o : Option Frame) (g : Option machine.Frame) → Optional (IsFrame x) o g → IsIdle o → frame_claimed k o g ≡ []
idle_claims x k None None r p = refl
idle_claims x k None (Some g) r p = absurd r
idle_claims x k (Some f) None r p = absurd r
idle_claims x k (Some f) (Some g) r p = by g.claim (rw (← p.1) r.claim)
  where
    by : (o : Option machine.Claim) → IsClaim x Claiming.Nothing o → claimed_of k f.claim o ≡ []
    by None c = refl
    by (Some y) c = absurd c

pub idle_closed : (f : Frame) → IsIdle (Some f) → IsIdle (closed f)
idle_closed f p = by (stays f)
  where
    by : (b : Bool) → IsIdle (cond b (Some f) None)
    by true = p
    by false = tt

-- the machine's frame beside it
pub idle_twin : (x : Keyed KeyParts) (f : Frame) (g : machine.Frame) → IsFrame x f g → IsIdle (Some f) → (g.receipt ≡ None) × (g.claim ≡ None)
idle_twin x f g r p = (no_receipt g.receipt (rw (← p.0) r.receipt), no_claim x g.claim (rw (← p.1) r.claim))
