-- The start meets the facts of every handle, and at the end of a phase each live value but Default is held.
use Rattle.std.proofs.Common.{◌≡◌, Bool, List, [], ◌∷◌, ◌++◌, refl, true, false, ◌||◌, arith, sym, map, Some, None, Option}
use Rattle.std.specs.Prelude.{is_some, if◌then◌else◌}
use Rattle.std.specs.List.{list_any, flat_map}
use Rattle.vch_model.specs.declared.lists.Scenario.{Scenario}
use Rattle.vch_base.specs.declared.flags.Flags.{Flags}
use Rattle.vch_machine.specs.State.{Place, same_place, Claim, Frame, Tasked, Machine, idle, start, default_living, default_place, living_at, task_holds, frame_expects, frame_claims, is_held}
use Rattle.vch_machine.specs.Leaving.{is_fixed, is_fixed_value}
use Rattle.vch_legal.specs.Facts.{spot, spot_fits}
use Rattle.vch_legal.proofs.facts.Choices.{neither_left, neither_right}
use Rattle.vch_legal.proofs.spots.SpotSteps.{one}
use Rattle.vch_legal.proofs.spots.FrameSpots.{one_eq}
use Rattle.vch_legal.proofs.spots.EventSpots.{AllFit, fits_of}

none_holds : (p : Place) (flags : List Flags) → list_any (task_holds p) (map (λ _. idle) flags) ≡ false
none_holds p [] = refl
none_holds p (x ∷ flags) = none_holds p flags

none_expects : (p : Place) (flags : List Flags) → list_any (λ (x : Tasked). frame_expects x.frame p)
    (map (λ _. idle) flags) ≡ false
none_expects p [] = refl
none_expects p (x ∷ flags) = none_expects p flags

none_claims : (p : Place) (flags : List Flags) → flat_map (λ (x : Tasked). frame_claims x.frame p)
    (map (λ _. idle) flags) ≡ []
none_claims p [] = refl
none_claims p (x ∷ flags) = none_claims p flags

-- where nobody holds, only Default is live
lone : (b : Bool) → spot_fits (one (is_some (if b then Some default_living else None))
    (is_fixed_value (if b then Some default_living else None)) false false []) ≡ true
lone true = refl
lone false = refl

pub start_fits : (sc : Scenario) → AllFit (start sc)
start_fits sc p =
    fits_of (spot (start sc) p) (one (is_some (living_at (start sc).live p)) (is_fixed (start sc) p) false false [])
    (one_eq _ _ _ _ _ _ _ _ (none_holds p sc.flags) (none_expects p sc.flags) (none_claims p sc.flags))
    (lone (same_place default_place p))

-- where no task has a frame, nothing is expected or claimed
no_frames_expect : (p : Place) (xs : List Tasked) → list_any (λ (x : Tasked). is_some x.frame) xs ≡ false
    → list_any (λ (x : Tasked). frame_expects x.frame p) xs ≡ false
no_frames_expect p [] e = refl
no_frames_expect p (x ∷ xs) e = both (of_frame x.frame (neither_left (is_some x.frame)
    (list_any (λ (x : Tasked). is_some x.frame) xs) e)) (no_frames_expect p xs
    (neither_right (is_some x.frame) (list_any (λ (x : Tasked). is_some x.frame) xs) e))
  where
    both : {a b : Bool} → a ≡ false → b ≡ false → (a || b) ≡ false
    both g h = rw (g, h)

    of_frame : (f : Option Frame) → is_some f ≡ false → frame_expects f p ≡ false
    of_frame None g = refl
    of_frame (Some f) g = cc

no_frames_claim : (p : Place) (xs : List Tasked) → list_any (λ (x : Tasked). is_some x.frame) xs ≡ false
    → flat_map (λ (x : Tasked). frame_claims x.frame p) xs ≡ []
no_frames_claim p [] e = refl
no_frames_claim p (x ∷ xs) e = both (of_frame x.frame (neither_left (is_some x.frame)
    (list_any (λ (x : Tasked). is_some x.frame) xs) e)) (no_frames_claim p xs
    (neither_right (is_some x.frame) (list_any (λ (x : Tasked). is_some x.frame) xs) e))
  where
    both : {a b : List Claim} → a ≡ [] → b ≡ [] → a ++ b ≡ []
    both g h = rw (g, h)

    of_frame : (f : Option Frame) → is_some f ≡ false → frame_claims f p ≡ []
    of_frame None g = refl
    of_frame (Some f) g = cc

held_at_rest : (live fixed held : Bool) → spot_fits (one live fixed held false []) ≡ true → live ≡ true
    → fixed ≡ false → held ≡ true
held_at_rest live fixed held h e g = grind arith

-- at the end of a phase each live value but Default is held
pub rest_held : (m : Machine) (p : Place) → AllFit m → list_any (λ (x : Tasked). is_some x.frame) m.tasks ≡ false
    → is_some (living_at m.live p) ≡ true → is_fixed m p ≡ false → is_held m p ≡ true
rest_held m p h none live plain =
    held_at_rest (is_some (living_at m.live p)) (is_fixed m p) (is_held m p)
    (fits_of (one (is_some (living_at m.live p)) (is_fixed m p) (is_held m p) false []) (spot m p)
    (sym (one_eq (is_some (living_at m.live p)) (is_fixed m p) _ _ _ _ _ _ refl (no_frames_expect p m.tasks none)
    (no_frames_claim p m.tasks none))) (h p)) live plain
