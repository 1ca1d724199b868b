-- Ask keeps the facts of every handle.
use Rattle.std.proofs.Common.{◌≡◌, ℕ, Bool, List, [], ◌∷◌, refl, true, false, ◌||◌, sym, ap, ◌∙◌, subst, Some, None, Option}
use Rattle.std.specs.Prelude.{is_some, if◌then◌else◌}
use Rattle.vch_machine.specs.State.{Place, same_place, Living, Claim, Frame, Machine, tasked, frame_holds, claim_at, is_place, living_at, without_place}
use Rattle.vch_machine.specs.Frames.{with_frame}
use Rattle.vch_machine.specs.Leaving.{is_fixed, is_fixed_value, do_ask, with_answer, released}
use Rattle.vch_legal.specs.Facts.{Spot, spot, spot_fits}
use Rattle.vch_legal.proofs.facts.Choices.{cases_bool}
use Rattle.vch_legal.proofs.spots.SpotSteps.{agreed_at, refused_at}
use Rattle.vch_legal.proofs.spots.Places.{same_place_eq, same_place_refl}
use Rattle.vch_legal.proofs.spots.FrameSpots.{kept_named, others_expect, claims_before, claims_behind, spot_set, spot_same, task_in_range}
use Rattle.vch_legal.proofs.spots.EventSpots.{AllFit, fits_of, claimed_before, claimed_spot, one_claim_other}

pub without_here : (live : List Living) (q : Place) → living_at (without_place live q) q ≡ None
without_here [] q = refl
without_here (l ∷ live) q =
    cases_bool (same_place l.place q) (living_at (without_place (l ∷ live) q) q ≡ None)
    (λ here. rw here (without_here live q))
    (λ other. rw (other, other) (without_here live q))

pub without_other : (live : List Living) (q p : Place) → same_place q p ≡ false
    → living_at (without_place live q) p ≡ living_at live p
without_other [] q p e = refl
without_other (l ∷ live) q p e =
    cases_bool (same_place l.place q) (living_at (without_place (l ∷ live) q) p ≡ living_at (l ∷ live) p)
    (λ here. let k : same_place l.place p ≡ false = rw (same_place_eq l.place q here) e
    in rw (here, k) (without_other live q p e))
    (λ other. rw (other, without_other live q p e))

-- the claim is answered
abbrev pub answered : Claim → Bool → Claim
answered c b = record c { answer = Some b }

answered_here : (c : Claim) (b : Bool) → claim_at (Some (answered c b)) c.place ≡ answered c b ∷ []
answered_here c b = rw (same_place_refl c.place)

-- a refused Ask, at its place and at any other
pub refused_here : (m : Machine) (t : ℕ) (f : Frame) (c : Claim) → (tasked m t).frame ≡ Some f
    → spot (with_frame m t (with_answer f c false)) c.place ≡ claimed_spot m t f c.place (answered c false ∷ [])
refused_here m t f c e =
    spot_set m t (with_answer f c false) c.place (task_in_range m t f e)
    ∙ ap (λ cs. claimed_spot m t f c.place cs) (answered_here c false)

pub answered_other : (m : Machine) (t : ℕ) (f : Frame) (c : Claim) (b : Bool) (p : Place)
    → (tasked m t).frame ≡ Some f → f.claim ≡ Some c → same_place c.place p ≡ false
    → spot (with_frame m t (with_answer f c b)) p ≡ spot m p
answered_other m t f c b p e claim other =
    spot_same m t f (with_answer f c b) p e refl refl (one_claim_other (answered c b) p other
    ∙ sym (ap (λ x. claim_at x p) claim ∙ one_claim_other c p other))

refused_fits : (m : Machine) (t : ℕ) (f : Frame) (c : Claim) → (tasked m t).frame ≡ Some f → f.claim ≡ Some c
    → is_some c.answer ≡ false → c.raced ≡ true → AllFit m → AllFit (with_frame m t (with_answer f c false))
refused_fits m t f c e claim a r h p =
    cases_bool (same_place c.place p) (spot_fits (spot (with_frame m t (with_answer f c false)) p) ≡ true)
    (λ here. subst (λ (s : Place). spot_fits (spot (with_frame m t (with_answer f c false)) s) ≡ true)
    (same_place_eq c.place p here)
    (fits_of (spot (with_frame m t (with_answer f c false)) c.place)
    (claimed_spot m t f c.place (answered c false ∷ [])) (refused_here m t f c e)
    (refused_at c (is_some (living_at m.live c.place)) (is_fixed m c.place)
    (frame_holds (Some f) c.place || kept_named m t c.place)
    (is_place f.receipt c.place || others_expect m t c.place) (claims_before m t c.place)
    (claims_behind m t c.place) a r
    (fits_of (claimed_spot m t f c.place (c ∷ [])) (spot m c.place) (sym (claimed_before m t f c e claim))
    (h c.place)))))
    (λ other. fits_of (spot (with_frame m t (with_answer f c false)) p) (spot m p)
    (answered_other m t f c false p e claim other) (h p))

-- a spot with another live value
abbrev pub spot_live : Option Living → Spot → Spot
spot_live l s = record s { live = is_some l; fixed = is_fixed_value l }

-- an agreed Ask, at any other place
pub agreed_other : (m : Machine) (t : ℕ) (f : Frame) (c : Claim) (p : Place) → (tasked m t).frame ≡ Some f
    → f.claim ≡ Some c → same_place c.place p ≡ false
    → spot (with_frame (released m c.place) t (with_answer f c true)) p ≡ spot m p
agreed_other m t f c p e claim other =
    ap (λ l. spot_live l (spot (with_frame m t (with_answer f c true)) p)) (without_other m.live c.place p other)
    ∙ answered_other m t f c true p e claim other

agreed_fits : (m : Machine) (t : ℕ) (f : Frame) (c : Claim) → (tasked m t).frame ≡ Some f → f.claim ≡ Some c
    → is_some c.answer ≡ false → c.raced ≡ false → AllFit m → AllFit
    (with_frame (released m c.place) t (with_answer f c true))
agreed_fits m t f c e claim a r h p =
    cases_bool (same_place c.place p) (spot_fits (spot (with_frame (released m c.place) t (with_answer f c true)) p)
    ≡ true)
    (λ here. subst (λ (s : Place). spot_fits (spot (with_frame (released m c.place) t (with_answer f c true)) s)
    ≡ true) (same_place_eq c.place p here)
    (fits_of (spot (with_frame (released m c.place) t (with_answer f c true)) c.place)
    (spot_live None (claimed_spot m t f c.place (answered c true ∷ [])))
    (spot_set (released m c.place) t (with_answer f c true) c.place (task_in_range m t f e)
    ∙ (ap (λ l. spot_live l (claimed_spot m t f c.place (claim_at (Some (answered c true)) c.place)))
    (without_here m.live c.place)
    ∙ ap (λ cs. spot_live None (claimed_spot m t f c.place cs)) (answered_here c true)))
    (agreed_at c (is_some (living_at m.live c.place)) (is_fixed m c.place)
    (frame_holds (Some f) c.place || kept_named m t c.place)
    (is_place f.receipt c.place || others_expect m t c.place) (claims_before m t c.place)
    (claims_behind m t c.place) a r
    (fits_of (claimed_spot m t f c.place (c ∷ [])) (spot m c.place) (sym (claimed_before m t f c e claim))
    (h c.place)))))
    (λ other. fits_of (spot (with_frame (released m c.place) t (with_answer f c true)) p) (spot m p)
    (agreed_other m t f c p e claim other) (h p))

if_fits : (b : Bool) (x y : Machine) → (b ≡ true → AllFit x) → (b ≡ false → AllFit y) → AllFit (if b then x else y)
if_fits true x y f g = f refl
if_fits false x y f g = g refl

-- Ask keeps the facts of every handle
pub ask_fits : (m : Machine) (t : ℕ) (f : Frame) (c : Claim) → (tasked m t).frame ≡ Some f → f.claim ≡ Some c
    → is_some c.answer ≡ false → AllFit m → AllFit (do_ask m t f c)
ask_fits m t f c e claim a h =
    if_fits c.raced (with_frame m t (with_answer f c false)) (with_frame (released m c.place) t (with_answer f c true))
    (λ r. refused_fits m t f c e claim a r h) (λ r. agreed_fits m t f c e claim a r h)
