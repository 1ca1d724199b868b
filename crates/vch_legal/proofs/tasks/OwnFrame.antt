-- A frame that is put at a task, and what a frame without a receipt has to meet.
use Rattle.std.proofs.Common.{◌≡◌, ℕ, zero, suc, ◌≤◌, Bool, List, [], ◌∷◌, true, false, length, get_or, Some, None, Option}
use Rattle.std.proofs.Math.ListN.{set}
use Rattle.std.specs.Prelude.{is_some, if◌then◌else◌}
use Rattle.vch_base.specs.Tasks.{at_task, set_task}
use Rattle.vch_machine.specs.State.{Place, Frame, Tasked, Machine, idle, tasked}
use Rattle.vch_machine.specs.Frames.{closed, with_frame}
use Rattle.vch_legal.specs.Facts.{FrameFits, OptionFits, most_lets}
use Rattle.vch_legal.proofs.spots.Places.{Settled}

-- a property of a frame that was put there
pub own_set : (Q : Option Frame → Type 0) → Q None → (xs : List Tasked) (t : ℕ) (x : Tasked) → Q x.frame
    → Q (at_task (set_task xs t x) t idle).frame
own_set Q none xs zero x h = none
own_set Q none xs (suc i) x h = from_place xs i
  where
    from_place : (xs : List Tasked) (i : ℕ) → Q (get_or (set xs i x) i idle).frame
    from_place [] i = none
    from_place (y ∷ xs) zero = h
    from_place (y ∷ xs) (suc i) = from_place xs i

-- the frame that was put there fits
pub own_frame : (m : Machine) (t : ℕ) (g : Option Frame) → OptionFits g
    → OptionFits (tasked (with_frame m t g) t).frame
own_frame m t g h = own_set OptionFits tt m.tasks t (record (tasked m t) { frame = g }) h

no_receipt : (o : Option Place) → o ≡ None → is_some o ≡ true → ⊥
no_receipt None e h = let k : false ≡ true = h in cc
no_receipt (Some p) e h = cc

-- a frame without a receipt
pub plain_fits : (g : Frame) → g.receipt ≡ None → Settled g → length g.lets ≤ most_lets → FrameFits g
plain_fits g r settled few = record {
  claim = λ h. absurd (no_receipt g.receipt r h);
  lets = λ h. absurd (no_receipt g.receipt r h);
  forming = λ h. absurd (no_receipt g.receipt r h);
  answered = settled;
  few = few;
}

closed_if : (b : Bool) (g : Frame) → FrameFits g → OptionFits (if b then Some g else None)
closed_if true g h = h
closed_if false g h = tt

pub closed_fits : (g : Frame) → FrameFits g → OptionFits (closed g)
closed_fits g h = closed_if _ g h
