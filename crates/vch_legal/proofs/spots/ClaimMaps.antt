-- A change of all claims.
use Rattle.std.proofs.Common.{◌≡◌, ℕ, Bool, List, [], ◌∷◌, refl, true, false, not, ◌&&◌, sym, ap, ◌∙◌, subst, map, Some, None, Option}
use Rattle.std.specs.Prelude.{is_some, if◌then◌else◌}
use Rattle.vch_machine.specs.State.{Place, same_place, Claim, Frame, Tasked, Machine, idle, tasked, task_holds, frame_holds, frame_expects, frame_claims, claim_at, living_at, is_held, is_expected, claims_on}
use Rattle.vch_machine.specs.Leaving.{is_fixed}
use Rattle.vch_machine.specs.Making.{on_claims, on_task, on_frame, on_claim, race_claim, back_claim}
use Rattle.vch_legal.specs.Facts.{spot}
use Rattle.vch_legal.proofs.facts.Choices.{cases_bool}
use Rattle.vch_legal.proofs.tasks.TaskItems.{at_map}
use Rattle.vch_legal.proofs.spots.SpotSteps.{one, raced_now, back_now}
use Rattle.vch_legal.proofs.tasks.TaskLists.{any_map, flat_map_map}
use Rattle.vch_legal.proofs.spots.Places.{same_place_eq}
use Rattle.vch_legal.proofs.spots.FrameSpots.{one_eq}

frame_holds_on : (g : Claim → Claim) (f : Option Frame) (p : Place) → frame_holds (on_frame g f) p ≡ frame_holds f p
frame_holds_on g None p = refl
frame_holds_on g (Some f) p = refl

task_holds_on : (g : Claim → Claim) (p : Place) (x : Tasked) → task_holds p (on_task g x) ≡ task_holds p x
task_holds_on g p x = rw (frame_holds_on g x.frame p)

expects_on : (g : Claim → Claim) (f : Option Frame) (p : Place) → frame_expects (on_frame g f) p ≡ frame_expects f p
expects_on g None p = refl
expects_on g (Some f) p = refl

claims_frame_on : (g h : Claim → Claim) (p : Place) → ((c : Claim)
    → claim_at (Some (g c)) p ≡ map h (claim_at (Some c) p))
    → (f : Option Frame) → frame_claims (on_frame g f) p ≡ map h (frame_claims f p)
claims_frame_on g h p same None = refl
claims_frame_on g h p same (Some f) = of_claim f.claim
  where
    of_claim : (c : Option Claim) → claim_at (on_claim g c) p ≡ map h (claim_at c p)
    of_claim None = refl
    of_claim (Some c) = same c

-- a spot after a change of all claims
pub spot_on : (m : Machine) (g h : Claim → Claim) (p : Place)
    → ((c : Claim) → claim_at (Some (g c)) p ≡ map h (claim_at (Some c) p))
    → spot (on_claims g m) p ≡ one (is_some (living_at m.live p)) (is_fixed m p) (is_held m p) (is_expected m p)
    (map h (claims_on m p))
spot_on m g h p same =
    one_eq (is_some (living_at m.live p)) (is_fixed m p) _ _ _ _ _ _
    (any_map (task_holds p) (on_task g) (task_holds_on g p) m.tasks)
    (any_map (λ (x : Tasked). frame_expects x.frame p) (on_task g) (λ x. expects_on g x.frame p) m.tasks)
    (flat_map_map (λ (x : Tasked). frame_claims x.frame p) (on_task g) h
    (λ x. claims_frame_on g h p same x.frame) m.tasks)

pub map_same : (cs : List Claim) → map (λ c. c) cs ≡ cs
map_same [] = refl
map_same (c ∷ cs) = let e : map (λ c. c) cs ≡ cs = map_same cs in rw e

-- a change of claims at another place changes nothing
pub spot_on_other : (m : Machine) (g : Claim → Claim) (p : Place)
    → ((c : Claim) → claim_at (Some (g c)) p ≡ claim_at (Some c) p)
    → spot (on_claims g m) p ≡ spot m p
spot_on_other m g p same =
    spot_on m g (λ c. c) p (λ c. same c ∙ sym (map_same (claim_at (Some c) p)))
    ∙ ap (λ cs. one (is_some (living_at m.live p)) (is_fixed m p) (is_held m p) (is_expected m p) cs)
    (map_same (claims_on m p))

pub race_here : (q : Place) (c : Claim) → claim_at (Some (race_claim q c)) q ≡ map raced_now (claim_at (Some c) q)
race_here q c =
    cases_bool (same_place c.place q) (claim_at (Some (race_claim q c)) q ≡ map raced_now (claim_at (Some c) q))
    (λ here. at_test (is_some c.answer) here)
    (λ other. rw (other, other))
  where
    at_test : (b : Bool) → same_place c.place q ≡ true → claim_at (Some (race_claim q c)) q ≡ map raced_now
        (claim_at (Some c) q)
    at_test b here = cases_bool (is_some c.answer) (claim_at (Some (race_claim q c)) q ≡ map raced_now
        (claim_at (Some c) q)) (λ a. rw (here, a, here)) (λ a. rw (here, a, here))

unmoved : (c d : Claim) (p : Place) → d.place ≡ c.place → same_place c.place p ≡ false
    → claim_at (Some d) p ≡ claim_at (Some c) p
unmoved c d p e o = rw (e, o)

race_place : (q : Place) (c : Claim) → (race_claim q c).place ≡ c.place
race_place q c = by_test (same_place c.place q && not (is_some c.answer))
  where
    by_test : (b : Bool) → (if b then record c { raced = true } else c).place ≡ c.place
    by_test true = refl
    by_test false = refl

back_place : (q : Place) (c : Claim) → (back_claim q c).place ≡ c.place
back_place q c = by_test (same_place c.place q)
  where
    by_test : (b : Bool) → (if b then record c { back = true } else c).place ≡ c.place
    by_test true = refl
    by_test false = refl

pub race_other : (q p : Place) (c : Claim) → same_place q p ≡ false
    → claim_at (Some (race_claim q c)) p ≡ claim_at (Some c) p
race_other q p c e =
    cases_bool (same_place c.place q) (claim_at (Some (race_claim q c)) p ≡ claim_at (Some c) p)
    (λ here. unmoved c (race_claim q c) p (race_place q c) (subst (λ r. same_place r p ≡ false)
    (sym (same_place_eq c.place q here)) e))
    (λ other. rw other)

pub back_here : (q : Place) (c : Claim) → claim_at (Some (back_claim q c)) q ≡ map back_now (claim_at (Some c) q)
back_here q c =
    cases_bool (same_place c.place q) (claim_at (Some (back_claim q c)) q ≡ map back_now (claim_at (Some c) q))
    (λ here. rw (here, here))
    (λ other. rw (other, other))

pub back_other : (q p : Place) (c : Claim) → same_place q p ≡ false
    → claim_at (Some (back_claim q c)) p ≡ claim_at (Some c) p
back_other q p c e =
    cases_bool (same_place c.place q) (claim_at (Some (back_claim q c)) p ≡ claim_at (Some c) p)
    (λ here. unmoved c (back_claim q c) p (back_place q c) (subst (λ r. same_place r p ≡ false)
    (sym (same_place_eq c.place q here)) e))
    (λ other. rw other)

-- the task's frame after a change of all claims
pub frame_on : (m : Machine) (t : ℕ) (f : Frame) (g : Claim → Claim) → (tasked m t).frame ≡ Some f
    → (tasked (on_claims g m) t).frame ≡ Some (record f { claim = on_claim g f.claim })
frame_on m t f g e =
    ap (λ (x : Tasked). x.frame) (at_map (on_task g) m.tasks t idle) ∙ ap (λ x. on_frame g x) e
