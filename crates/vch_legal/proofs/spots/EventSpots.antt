-- Each event of a frame keeps the facts of every handle.
use Rattle.std.proofs.Common.{◌≡◌, ℕ, Bool, List, [], ◌∷◌, ◌++◌, refl, true, false, not, ◌&&◌, ◌||◌, arith, sym, ap, ◌∙◌, subst, Some, None, Option}
use Rattle.std.specs.Prelude.{is_some, if◌then◌else◌}
use Rattle.vch_machine.specs.State.{Place, same_place, Claim, Frame, Machine, tasked, frame_holds, frame_claims, claim_at, option_has, is_place, is_held, is_expected, claims_on, living_at, is_empty}
use Rattle.vch_machine.specs.Frames.{closed, with_frame}
use Rattle.vch_machine.specs.Leaving.{is_fixed, claim_if, new_claim, do_let_go, do_recheck, again}
use Rattle.vch_legal.specs.Facts.{Spot, spot, spot_fits}
use Rattle.vch_legal.proofs.facts.Choices.{cases_bool}
use Rattle.vch_legal.proofs.spots.SpotSteps.{one, fresh, let_go_at, recheck_at}
use Rattle.vch_legal.proofs.spots.Places.{Settled, same_place_eq, same_place_refl, closed_holds, closed_expects, closed_claims}
use Rattle.vch_legal.proofs.tasks.TaskLists.{IsAmong}
use Rattle.vch_legal.proofs.spots.FrameSpots.{one_eq, kept_named, others_expect, claims_before, claims_behind, spot_by, spot_set, spot_of, spot_same, task_in_range}

abbrev pub AllFit : Machine → Type 0
AllFit m = (p : Place) → spot_fits (spot m p) ≡ true

-- the frame after it let a place go
abbrev pub let_frame : Frame → List Place → Option Claim → Frame
let_frame f rest c = record f { lets = rest; claim = c }

-- a claim on another place is none here
claim_other : (c : Option Claim) (q p : Place) → ((d : Claim) → c ≡ Some d → d.place ≡ q) → same_place q p ≡ false
    → claim_at c p ≡ []
claim_other None q p h e = refl
claim_other (Some d) q p h e = let g : d.place ≡ q = h d refl in rw (g, e)

claim_if_place : (m : Machine) (q : Place) (d : Claim) → claim_if m q ≡ Some d → d.place ≡ q
claim_if_place m q d e = by_test (is_fixed m q || (is_held m q || not (is_empty (claims_on m q))))
    (new_claim m q) d refl e
  where
    by_test : (b : Bool) (c d : Claim) → c.place ≡ q → (if b then None else Some c) ≡ Some d → d.place ≡ q
    by_test true c d g e = cc
    by_test false c d g e = cc

-- the frame while the claim is looked for
abbrev pub let_mid : Machine → ℕ → Frame → List Place → Machine
let_mid m t f rest = with_frame m t (Some (record f { lets = rest }))

-- at any other place nothing changes
pub let_go_other : (m : Machine) (t : ℕ) (f : Frame) (q p : Place) (rest : List Place) → (tasked m t).frame ≡ Some f
    → Settled f
    → f.lets ≡ q ∷ rest → f.claim ≡ None → same_place q p ≡ false → spot (do_let_go m t f q rest) p ≡ spot m p
let_go_other m t f q p rest e settled lets claim other =
    spot_same m t f (closed (let_frame f rest (claim_if (let_mid m t f rest) q))) p e
    (closed_holds (let_frame f rest (claim_if (let_mid m t f rest) q)) p settled ∙ holds)
    (closed_expects (let_frame f rest (claim_if (let_mid m t f rest) q)) p)
    (closed_claims (let_frame f rest (claim_if (let_mid m t f rest) q)) p ∙ claims)
  where
    holds : frame_holds (Some (let_frame f rest (claim_if (let_mid m t f rest) q))) p ≡ frame_holds (Some f) p
    holds = rw (lets, other)

    claims : claim_at (claim_if (let_mid m t f rest) q) p ≡ frame_claims (Some f) p
    claims = claim_other (claim_if (let_mid m t f rest) q) q p (claim_if_place (let_mid m t f rest) q) other
        ∙ sym (ap (λ c. claim_at c p) claim)

pub claim_at_if : (b : Bool) (d : Claim) (q : Place) → d.place ≡ q
    → claim_at (if b then None else Some d) q ≡ (if b then [] else d ∷ [])
claim_at_if true d q e = refl
claim_at_if false d q e = rw (e, same_place_refl q)

pub fits_of : (a b : Spot) → a ≡ b → spot_fits b ≡ true → spot_fits a ≡ true
fits_of a b e h = rw e h

held_now : (a b : Bool) → ((a || true) || b) ≡ true
held_now a b = grind arith

-- the spot of the place that is let go: before, and after
abbrev pub gone_spot : Machine → ℕ → Frame → Place → List Place → Bool → List Claim → Spot
gone_spot m t f q rest held cs =
    one (is_some (living_at m.live q)) (is_fixed m q) held (is_place f.receipt q || others_expect m t q)
    (claims_before m t q ++ (cs ++ claims_behind m t q))

abbrev pub left_held : Machine → ℕ → Frame → Place → List Place → Bool
left_held m t f q rest = frame_holds (Some (record f { lets = rest })) q || kept_named m t q

abbrev pub left_claims : Machine → ℕ → Frame → Place → List Place → List Claim
left_claims m t f q rest =
    if is_fixed m q || (left_held m t f q rest || not (is_empty (claims_before m t q ++ claims_behind m t q))) then []
    else fresh q (is_place f.receipt q || others_expect m t q) ∷ []

let_go_join : (q : Place) (fixed held expected : Bool) (cs : List Claim) (mid_held mid_expected : Bool)
    (mid_claims : List Claim)
    → mid_held ≡ held → mid_expected ≡ expected → mid_claims ≡ cs
    → claim_at (if fixed || (mid_held || not (is_empty mid_claims)) then None else Some (fresh q mid_expected)) q
    ≡ (if fixed || (held || not (is_empty cs)) then [] else fresh q expected ∷ [])
let_go_join q fixed held expected cs mh me mc e g k = rw (e, g, k)
    (claim_at_if (fixed || (held || not (is_empty cs))) (fresh q expected) q refl)

pub let_go_here : (m : Machine) (t : ℕ) (f : Frame) (q : Place) (rest : List Place) → (tasked m t).frame ≡ Some f
    → Settled f
    → f.claim ≡ None
    → spot (do_let_go m t f q rest) q ≡ gone_spot m t f q rest (left_held m t f q rest) (left_claims m t f q rest)
let_go_here m t f q rest e settled claim = changed ∙ ap
    (λ cs. gone_spot m t f q rest (left_held m t f q rest) cs) joined
  where
    l : IsAmong t m.tasks
    l = task_in_range m t f e

    changed : spot (do_let_go m t f q rest) q ≡ gone_spot m t f q rest (left_held m t f q rest)
        (claim_at (claim_if (let_mid m t f rest) q) q)
    changed = spot_set m t (closed (let_frame f rest (claim_if (let_mid m t f rest) q))) q l
        ∙ one_eq _ _ _ _ _ _ _ _
        (ap (λ x. x || kept_named m t q) (closed_holds (let_frame f rest (claim_if (let_mid m t f rest) q)) q settled))
        (ap (λ x. x || others_expect m t q) (closed_expects (let_frame f rest (claim_if (let_mid m t f rest) q)) q))
        (ap (λ x. claims_before m t q ++ (x ++ claims_behind m t q))
        (closed_claims (let_frame f rest (claim_if (let_mid m t f rest) q)) q))

    middle : spot (let_mid m t f rest) q ≡ spot_by m t (Some (record f { lets = rest })) q
    middle = spot_set m t (Some (record f { lets = rest })) q l

    joined : claim_at (claim_if (let_mid m t f rest) q) q ≡ left_claims m t f q rest
    joined = let_go_join q (is_fixed m q) (left_held m t f q rest) (is_place f.receipt q || others_expect m t q)
        (claims_before m t q ++ claims_behind m t q)
        (is_held (let_mid m t f rest) q) (is_expected (let_mid m t f rest) q) (claims_on (let_mid m t f rest) q)
        (ap (λ s. s.held) middle) (ap (λ s. s.expected) middle)
        (ap (λ s. s.claims) middle ∙ ap (λ c. claims_before m t q ++ (claim_at c q ++ claims_behind m t q)) claim)

pub let_go_was : (m : Machine) (t : ℕ) (f : Frame) (q : Place) (rest : List Place) → (tasked m t).frame ≡ Some f
    → f.lets ≡ q ∷ rest → f.claim ≡ None
    → spot m q ≡ gone_spot m t f q rest true []
let_go_was m t f q rest e lets claim = spot_of m t f q e ∙ one_eq _ _ _ _ _ _ _ _ was_held refl
    (ap (λ c. claims_before m t q ++ (claim_at c q ++ claims_behind m t q)) claim)
  where
    was_held : (frame_holds (Some f) q || kept_named m t q) ≡ true
    was_held = rw (lets, same_place_refl q) (held_now (option_has f.forming q) (kept_named m t q))

let_go_same : (m : Machine) (t : ℕ) (f : Frame) (q : Place) (rest : List Place) → (tasked m t).frame ≡ Some f
    → Settled f
    → f.lets ≡ q ∷ rest → f.claim ≡ None → spot_fits (spot m q) ≡ true
    → spot_fits (spot (do_let_go m t f q rest) q) ≡ true
let_go_same m t f q rest e settled lets claim h =
    fits_of (spot (do_let_go m t f q rest) q) _ (let_go_here m t f q rest e settled claim)
    (let_go_at q (is_some (living_at m.live q)) (is_fixed m q) (left_held m t f q rest)
    (is_place f.receipt q || others_expect m t q) (claims_before m t q) (claims_behind m t q)
    (fits_of (gone_spot m t f q rest true []) (spot m q) (sym (let_go_was m t f q rest e lets claim)) h))

-- LetGo keeps the facts of every handle
pub let_go_fits : (m : Machine) (t : ℕ) (f : Frame) (q : Place) (rest : List Place) → (tasked m t).frame ≡ Some f
    → Settled f
    → f.lets ≡ q ∷ rest → f.claim ≡ None → AllFit m → AllFit (do_let_go m t f q rest)
let_go_fits m t f q rest e settled lets claim h p =
    cases_bool (same_place q p) (spot_fits (spot (do_let_go m t f q rest) p) ≡ true)
    (λ here. subst (λ (r : Place). spot_fits (spot (do_let_go m t f q rest) r) ≡ true) (same_place_eq q p here)
    (let_go_same m t f q rest e settled lets claim (h q)))
    (λ other. fits_of (spot (do_let_go m t f q rest) p) (spot m p)
    (let_go_other m t f q p rest e settled lets claim other)
    (h p))

-- Recheck
pub again_place : (m : Machine) (c : Claim) (d : Claim) → again m c ≡ Some d → d.place ≡ c.place
again_place m c d e = by_test (c.back && not (is_held m c.place)) (new_claim m c.place) d refl e
  where
    by_test : (b : Bool) (x y : Claim) → x.place ≡ c.place → (if b then Some x else None) ≡ Some y → y.place ≡ c.place
    by_test true x y g k = cc
    by_test false x y g k = cc

pub one_claim_other : (c : Claim) (p : Place) → same_place c.place p ≡ false → claim_at (Some c) p ≡ []
one_claim_other c p e = rw e

pub one_claim_here : (c : Claim) → claim_at (Some c) c.place ≡ c ∷ []
one_claim_here c = rw (same_place_refl c.place)

-- the frame with another claim
abbrev pub claim_frame : Frame → Option Claim → Frame
claim_frame f c = record f { claim = c }

-- where only the claim is replaced, by one on the same place or none
pub claimed_other : (m : Machine) (t : ℕ) (f : Frame) (c : Claim) (d : Option Claim) (p : Place)
    → (tasked m t).frame ≡ Some f → Settled f → f.claim ≡ Some c
    → ((x : Claim) → d ≡ Some x → x.place ≡ c.place) → same_place c.place p ≡ false
    → spot (with_frame m t (closed (claim_frame f d))) p ≡ spot m p
claimed_other m t f c d p e settled claim place other =
    spot_same m t f (closed (claim_frame f d)) p e (closed_holds (claim_frame f d) p settled)
    (closed_expects (claim_frame f d) p)
    (closed_claims (claim_frame f d) p ∙ (claim_other d c.place p place other
    ∙ sym (ap (λ x. claim_at x p) claim ∙ one_claim_other c p other)))

-- the spot at the place of the claim, before and after
abbrev pub claimed_spot : Machine → ℕ → Frame → Place → List Claim → Spot
claimed_spot m t f q cs = one (is_some (living_at m.live q)) (is_fixed m q)
    (frame_holds (Some f) q || kept_named m t q)
    (is_place f.receipt q || others_expect m t q) (claims_before m t q ++ (cs ++ claims_behind m t q))

pub claimed_before : (m : Machine) (t : ℕ) (f : Frame) (c : Claim) → (tasked m t).frame ≡ Some f → f.claim ≡ Some c
    → spot m c.place ≡ claimed_spot m t f c.place (c ∷ [])
claimed_before m t f c e claim =
    spot_of m t f c.place e ∙ ap (λ cs. claimed_spot m t f c.place cs)
    (ap (λ x. claim_at x c.place) claim ∙ one_claim_here c)

pub claimed_after : (m : Machine) (t : ℕ) (f : Frame) (c : Claim) (d : Option Claim) → (tasked m t).frame ≡ Some f
    → Settled f
    → spot (with_frame m t (closed (claim_frame f d))) c.place ≡ claimed_spot m t f c.place (claim_at d c.place)
claimed_after m t f c d e settled =
    spot_set m t (closed (claim_frame f d)) c.place (task_in_range m t f e)
    ∙ one_eq _ _ _ _ _ _ _ _
    (ap (λ x. x || kept_named m t c.place) (closed_holds (claim_frame f d) c.place settled))
    (ap (λ x. x || others_expect m t c.place) (closed_expects (claim_frame f d) c.place))
    (ap (λ x. claims_before m t c.place ++ (x ++ claims_behind m t c.place)) (closed_claims (claim_frame f d) c.place))

pub some_if : (b : Bool) (d : Claim) (q : Place) → d.place ≡ q
    → claim_at (if b then Some d else None) q ≡ (if b then d ∷ [] else [])
some_if true d q e = rw (e, same_place_refl q)
some_if false d q e = refl

recheck_join : (c : Claim) (live fixed held expected : Bool) (xs ys : List Claim) (now_held now_expected : Bool)
    → now_held ≡ held → now_expected ≡ expected → is_some c.answer ≡ true
    → spot_fits (one live fixed held expected (xs ++ (c ∷ ys))) ≡ true
    → spot_fits (one live fixed held expected (xs ++ (claim_at
    (if c.back && not now_held then Some (fresh c.place now_expected) else None) c.place ++ ys))) ≡ true
recheck_join c live fixed held expected xs ys nh ne e g a h =
    rw (e, g) (rw (some_if (c.back && not held) (fresh c.place expected) c.place refl)
    (recheck_at c live fixed held expected xs ys a h))

recheck_same : (m : Machine) (t : ℕ) (f : Frame) (c : Claim) → (tasked m t).frame ≡ Some f → Settled f
    → f.claim ≡ Some c
    → is_some c.answer ≡ true → spot_fits (spot m c.place) ≡ true → spot_fits (spot (do_recheck m t f c) c.place)
    ≡ true
recheck_same m t f c e settled claim a h =
    fits_of (spot (do_recheck m t f c) c.place) (claimed_spot m t f c.place (claim_at (again m c) c.place))
    (claimed_after m t f c (again m c) e settled)
    (recheck_join c (is_some (living_at m.live c.place)) (is_fixed m c.place)
    (frame_holds (Some f) c.place || kept_named m t c.place)
    (is_place f.receipt c.place || others_expect m t c.place) (claims_before m t c.place) (claims_behind m t c.place)
    (is_held m c.place) (is_expected m c.place) (ap (λ s. s.held) (claimed_before m t f c e claim))
    (ap (λ s. s.expected) (claimed_before m t f c e claim)) a
    (fits_of (claimed_spot m t f c.place (c ∷ [])) (spot m c.place) (sym (claimed_before m t f c e claim)) h))

pub recheck_fits : (m : Machine) (t : ℕ) (f : Frame) (c : Claim) → (tasked m t).frame ≡ Some f → Settled f
    → f.claim ≡ Some c
    → is_some c.answer ≡ true → AllFit m → AllFit (do_recheck m t f c)
recheck_fits m t f c e settled claim a h p =
    cases_bool (same_place c.place p) (spot_fits (spot (do_recheck m t f c) p) ≡ true)
    (λ here. subst (λ (r : Place). spot_fits (spot (do_recheck m t f c) r) ≡ true) (same_place_eq c.place p here)
    (recheck_same m t f c e settled claim a (h c.place)))
    (λ other. fits_of (spot (do_recheck m t f c) p) (spot m p)
    (claimed_other m t f c (again m c) p e settled claim (again_place m c) other) (h p))
