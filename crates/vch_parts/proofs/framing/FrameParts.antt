-- The frames of a task that has both, and a frame as the record of its parts.
use Rattle.std.proofs.Common.{◌≡◌, ℕ, List, Option, Some, None, true, refl, subst}
use Rattle.vch_base.specs.Keyed.{Keyed}
use Rattle.vch_machine.specs.State as machine
use Rattle.vch_machine.specs.State.{Place, tasked}
use Rattle.vch_legal.specs.Facts.{FrameFits, OptionFits}
use Rattle.vch_frame.specs.declared.frame.Claiming.{Claiming}
use Rattle.vch_frame.specs.declared.frame.KeyIndex.{KeyIndex}
use Rattle.vch_frame.specs.Pairs.{Optional}
use Rattle.vch_values.specs.Parts.{KeyParts}
use Rattle.vch_parts.specs.declared.frame.Frame.{Frame}
use Rattle.vch_parts.specs.Shape.{IsFrame, IsReceipt, IsClaim}

-- a frame without a receipt, with this to let go of and this claim
abbrev pub leaving_frame : Frame → List KeyIndex → Claiming → Frame
leaving_frame f lets x = record f { receipt = None; lets = lets; claim = x }

abbrev pub leaving_machine : machine.Frame → List Place → Option machine.Claim → machine.Frame
leaving_machine g lets y = record g { receipt = None; lets = lets; claim = y }

pub frame_is : (f : Frame) (l : List KeyIndex) (x : Claiming) → f.receipt ≡ None → f.lets ≡ l → f.claim ≡ x → f ≡ leaving_frame f l x
frame_is f l x a b c = rw (← a, ← b, ← c) refl

pub machine_frame_is : (g : machine.Frame) (l : List Place) (y : Option machine.Claim) → g.receipt ≡ None → g.lets ≡ l → g.claim ≡ y → g ≡ leaving_machine g l y
machine_frame_is g l y a b c = rw (← a, ← b, ← c) refl

pub no_receipt : (o : Option Place) → Optional IsReceipt None o → o ≡ None
no_receipt None e = refl
no_receipt (Some p) e = absurd e

pub no_claim : (x : Keyed KeyParts) (o : Option machine.Claim) → IsClaim x Claiming.Nothing o → o ≡ None
no_claim x None e = refl
no_claim x (Some p) e = absurd e

pub frames_of : (x : Keyed KeyParts) (o : Option Frame) (p : Option machine.Frame) (f : Frame) (g : machine.Frame) → o ≡ Some f → p ≡ Some g → Optional (IsFrame x) o p → IsFrame x f g
frames_of x o p f g e d r =
    let z : Optional (IsFrame x) (Some f) (Some g) = subst (λ u. Optional (IsFrame x) u (Some g)) e (subst (λ u. Optional (IsFrame x) o u) d r) in z

-- the machine's frame beside one of the core
pub twin : (x : Keyed KeyParts) (f : Frame) (o : Option machine.Frame) (P : Type 0) → Optional (IsFrame x) (Some f) o → ((g : machine.Frame) → o ≡ Some g → IsFrame x f g → P) → P
twin x f None P e h = absurd e
twin x f (Some g) P e h = h g refl e

-- nothing is formed once the call is answered
pub formless_of : (m : machine.Machine) (t : ℕ) (g : machine.Frame) (l : List Place) (y : Option machine.Claim) → (tasked m t).frame ≡ Some (leaving_machine g l y) → OptionFits (tasked m t).frame → g.answered ≡ true → g.forming ≡ None
formless_of m t g l y e fits = by (tasked m t).frame e fits
  where
    by : (o : Option machine.Frame) → o ≡ Some (leaving_machine g l y) → OptionFits o → g.answered ≡ true → g.forming ≡ None
    by None q fits a = absurd (cc)
    by (Some x) q fits a = let z : x ≡ leaving_machine g l y = cc in let w : FrameFits (leaving_machine g l y) = subst FrameFits z fits in w.answered a
