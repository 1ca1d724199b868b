-- LetGo, Ask and Recheck, to their own task: a Released entry may follow, and else nothing is seen.
use Rattle.std.proofs.Common.{◌≡◌, ℕ, Bool, List, [], ◌∷◌, ◌++◌, refl, true, false, not, ◌||◌, arith, sym, ap, ◌∙◌, subst, length, map, Some, None, Option}
use Rattle.std.specs.Prelude.{if◌then◌else◌, nat_lt, is_some}
use Rattle.std.specs.List.{list_any, flat_map}
use Rattle.vch_model.specs.declared.entry.Entry.TheVariants as entries
use Rattle.vch_model.specs.declared.lists.Scenario.{Scenario}
use Rattle.vch_model.specs.Store as store
use Rattle.vch_model.specs.Store.{Member}
use Rattle.vch_model.specs.After.{store_after}
use Rattle.vch_model.specs.Legal.{IsUnheld, find_made}
use Rattle.vch_machine.specs.State.{Place, Living, Claim, Frame, Tally, Machine, idle, tasked, seen, living_at, without_place, member_of, alive_of, is_held, is_expected, frame_holds, is_place, is_empty}
use Rattle.vch_machine.specs.Frames.{closed, with_frame, tallied}
use Rattle.vch_machine.specs.Leaving.{is_fixed, is_fixed_value, claim_if, more_claims, do_let_go, released, with_answer, one_ask, do_ask, again, do_recheck, made_of}
use Rattle.vch_legal.specs.Facts.{Fits, spot, spot_fits}
use Rattle.vch_legal.specs.Tie.{IsForming, is_answering, is_open}
use Rattle.vch_legal.proofs.spots.AskSpots.{without_other}
use Rattle.vch_legal.proofs.spots.EventSpots.{fits_of, claimed_before}
use Rattle.vch_legal.proofs.spots.FrameSpots.{kept_named, others_expect, claims_before, claims_behind}
use Rattle.vch_legal.proofs.spots.SpotSteps.{one}
use Rattle.vch_legal.proofs.seen.SeenHeld.{vouchers_hold, none_hold}
use Rattle.vch_legal.proofs.seen.SeenReleased.{released_legal}
use Rattle.vch_legal.proofs.seen.SeenSame.{AgreeBut, members_same, member_same}
use Rattle.vch_legal.proofs.seen.SeenTasks.{seen_frame, own_task, frame_in, store_with}
use Rattle.vch_legal.proofs.tasks.TaskItems.{none_at}
use Rattle.vch_legal.proofs.seen.SeenValues.{numbered, plain_numbered}
use Rattle.vch_legal.proofs.steps.Follows.{Follows, kept_eq}
use Rattle.vch_legal.proofs.steps.Lifts.{Lives, forming_kept, map_kept}
use Rattle.vch_legal.proofs.steps.Standing.{Step}
use Rattle.vch_legal.proofs.tasks.OwnSteps.{Before, framed_step, closed_forming, closed_open, closed_answers}

-- what is counted is not looked at
tallied_follows : (sc : Scenario) (t : ℕ) (m n : Machine) (c : Tally → Tally) → Follows sc t m n
    → Follows sc t m (tallied c n)
tallied_follows sc t m n c (Follows.Quiet p s) = Follows.Quiet p s
tallied_follows sc t m n c (Follows.Adds e p s f o) = Follows.Adds e p s f o

tallied_lives : (m n : Machine) (c : Tally → Tally) → Lives m n → Lives m (tallied c n)
tallied_lives m n c (Lives.Same e) = Lives.Same e
tallied_lives m n c (Lives.But q a h x) = Lives.But q a h x

pub tallied_step : (sc : Scenario) (t : ℕ) (m n : Machine) (c : Tally → Tally) → Step sc t m n
    → Step sc t m (tallied c n)
tallied_step sc t m n c s = record {
  follows = tallied_follows sc t m n c s.follows;
  lives = tallied_lives m n c s.lives;
  counted = s.counted;
  begun = s.begun;
  forming = s.forming;
  open_frame = s.open_frame;
}

-- what the frame forms, before the event
pub forming_of : (sc : Scenario) (t : ℕ) (m : Machine) (f : Frame) → Before sc t m → (tasked m t).frame ≡ Some f
    → IsForming sc m.live (member_of m.live (tasked m t)) t (tasked m t).begun (Some f)
forming_of sc t m f s e = subst (λ (g : Option Frame). IsForming sc m.live (member_of m.live (tasked m t)) t
    (tasked m t).begun g) e s.forming

-- the frame goes on as another one, or is gone
pub closed_step : (sc : Scenario) (t : ℕ) (m : Machine) (f g : Frame) → Before sc t m → (tasked m t).frame ≡ Some f
    → g.answered ≡ f.answered
    → IsForming sc m.live (member_of m.live (tasked m t)) t (tasked m t).begun (Some g)
    → Step sc t m (with_frame m t (closed g))
closed_step sc t m f g s e same forming =
    framed_step sc t m (with_frame m t (closed g)) (closed g) s (Follows.Quiet refl (seen_frame m t (closed g)))
    (Lives.Same refl) refl
    (own_task m t (record (tasked m t) { frame = closed g }) (frame_in m t f e))
    (closed_answers g ∙ (ap not same ∙ sym (ap is_answering e)))
    (closed_forming g sc m.live (member_of m.live (tasked m t)) t (tasked m t).begun forming) (closed_open g)

pub open_step : (sc : Scenario) (t : ℕ) (m : Machine) (f g : Frame) → Before sc t m → (tasked m t).frame ≡ Some f
    → g.answered ≡ f.answered
    → IsForming sc m.live (member_of m.live (tasked m t)) t (tasked m t).begun (Some g) → is_open g ≡ true
    → Step sc t m (with_frame m t (Some g))
open_step sc t m f g s e same forming open_frame =
    framed_step sc t m (with_frame m t (Some g)) (Some g) s (Follows.Quiet refl (seen_frame m t (Some g)))
    (Lives.Same refl) refl
    (own_task m t (record (tasked m t) { frame = Some g }) (frame_in m t f e)) (ap not same ∙ sym (ap is_answering e))
    forming open_frame

pub let_go_step : (sc : Scenario) (t : ℕ) (m : Machine) (f : Frame) (q : Place) (rest : List Place) → Before sc t m
    → (tasked m t).frame ≡ Some f → Step sc t m (do_let_go m t f q rest)
let_go_step sc t m f q rest s e =
    tallied_step sc t m (with_frame m t (closed g)) (more_claims claim)
    (closed_step sc t m f g s e refl (forming_of sc t m f s e))
  where
    claim : Option Claim
    claim = claim_if (with_frame m t (Some (record f { lets = rest }))) q

    g : Frame
    g = record f { lets = rest; claim = claim_if (with_frame m t (Some (record f { lets = rest }))) q }

pub recheck_step : (sc : Scenario) (t : ℕ) (m : Machine) (f : Frame) (c : Claim) → Before sc t m → (tasked m t).frame
    ≡ Some f → Step sc t m (do_recheck m t f c)
recheck_step sc t m f c s e = closed_step sc t m f (record f { claim = again m c }) s e refl (forming_of sc t m f s e)

-- what holds of a place with a claim that is asked now and was not raced
record Agreed (live fixed held expected : Bool) : Type 0 where
  live_now : live ≡ true
  plain : fixed ≡ false
  unheld : held ≡ false
  unexpected : expected ≡ false

agreed_free : (c : Claim) (live fixed held expected : Bool) (xs ys : List Claim) → is_some c.answer ≡ false → c.raced
    ≡ false
    → spot_fits (one live fixed held expected (xs ++ (c ∷ ys))) ≡ true → Agreed live fixed held expected
agreed_free c live fixed held expected [] [] a r h = record
    { live_now = grind arith; plain = grind arith; unheld = grind arith; unexpected = grind arith }
agreed_free c live fixed held expected [] (d ∷ ys) a r h = absurd (grind arith)
agreed_free c live fixed held expected (d ∷ []) ys a r h = absurd (grind arith)
agreed_free c live fixed held expected (d ∷ e ∷ xs) ys a r h = absurd (grind arith)

agreed_at_place : (sc : Scenario) (t : ℕ) (m : Machine) (f : Frame) (c : Claim) → Fits sc m → (tasked m t).frame
    ≡ Some f → f.claim ≡ Some c → is_some c.answer ≡ false → c.raced ≡ false
    → Agreed (is_some (living_at m.live c.place)) (is_fixed m c.place) (is_held m c.place) (is_expected m c.place)
agreed_at_place sc t m f c fits e claim a r =
    let b : spot m c.place ≡ one (is_some (living_at m.live c.place)) (is_fixed m c.place)
    (frame_holds (Some f) c.place || kept_named m t c.place) (is_place f.receipt c.place || others_expect m t c.place)
    (claims_before m t c.place ++ (c ∷ claims_behind m t c.place)) = claimed_before m t f c e claim in
    let g : Agreed (is_some (living_at m.live c.place)) (is_fixed m c.place)
    (frame_holds (Some f) c.place || kept_named m t c.place) (is_place f.receipt c.place || others_expect m t c.place)
    =
    agreed_free c _ _ _ _ (claims_before m t c.place) (claims_behind m t c.place) a r
    (fits_of _ (spot m c.place) (sym b) (fits.spots c.place)) in
    record {
      live_now = g.live_now;
      plain = g.plain;
      unheld = ap (λ s. s.held) b
          ∙ g.unheld;
      unexpected = ap (λ s. s.expected) b ∙ g.unexpected;
    }

-- the values without one that nobody holds or expects
released_agree : (m : Machine) (q : Place) → AgreeBut q (without_place m.live q) m.live
released_agree m q p other = without_other m.live q p other

pub live_forming : (sc : Scenario) (t : ℕ) (m n : Machine) (f : Frame) → Before sc t m → (tasked m t).frame ≡ Some f
    → Lives m n → member_of n.live (tasked m t) ≡ member_of m.live (tasked m t)
    → IsForming sc n.live (member_of n.live (tasked m t)) t (tasked m t).begun (Some f)
live_forming sc t m n f s e lives same =
    subst (λ (g : Option Frame). IsForming sc n.live (member_of n.live (tasked m t)) t (tasked m t).begun g) e
    (forming_kept sc m.live n.live (member_of m.live (tasked m t)) (member_of n.live (tasked m t)) t
    (tasked m t).begun (tasked m t).frame
    (kept_eq _ _ same) (λ g v. map_kept m n lives t g v) s.forming)

-- a frame with a claim has something to do
claim_open : (f : Frame) (c : Claim) → is_open (record f { claim = Some c }) ≡ true
claim_open f c = third (not f.answered) (is_some f.receipt) (not (is_empty f.lets))
  where
    third : (a b d : Bool) → (a || (b || (true || d))) ≡ true
    third a b d = grind arith

released_step : (sc : Scenario) (t : ℕ) (m : Machine) (f : Frame) (c : Claim) (a : Living) → Fits sc m → Before sc t m
    → (tasked m t).frame ≡ Some f → living_at m.live c.place ≡ Some a
    → is_fixed m c.place ≡ false → is_held m c.place ≡ false → is_expected m c.place ≡ false
    → Step sc t m (with_frame (released m c.place) t (with_answer f c true))
released_step sc t m f c a fits s e live plain held expected =
    framed_step sc t m n (with_answer f c true) s
    (Follows.Adds (entries.Released (made_of (living_at m.live c.place))) refl
    (seen_frame (released m c.place) t (with_answer f c true) ∙ store_eq members lists)
    (subst (λ (o : Option Living). IsUnheld (seen m) (find_made (seen m).live (made_of o))) (sym live)
    (released_legal m c.place a fits.different (numbered sc m fits) live positive held)) tt)
    lives refl (own_task (released m c.place) t (record (tasked m t) { frame = with_answer f c true })
    (frame_in m t f e)) (sym (ap is_answering e))
    (live_forming sc t m n f s e lives own) (claim_open f (record c { answer = Some true }))
  where
    n : Machine
    n = with_frame (released m c.place) t (with_answer f c true)

    positive : nat_lt 0 a.made ≡ true
    positive = plain_numbered sc m c.place a fits live (ap is_fixed_value (sym live) ∙ plain)

    unknown : list_any (vouchers_hold c.place) m.tasks ≡ false
    unknown = none_hold c.place m.tasks held

    members : map (member_of (without_place m.live c.place)) m.tasks ≡ map (member_of m.live) m.tasks
    members = members_same (without_place m.live c.place) m.live c.place m.tasks (released_agree m c.place) unknown

    lists : flat_map alive_of (without_place m.live c.place) ≡
        (store_after sc (length m.past) (seen m) (entries.Released (made_of (living_at m.live c.place)))).live
    lists = subst (λ (o : Option Living). flat_map alive_of (without_place m.live c.place)
        ≡ (store_after sc (length m.past) (seen m) (entries.Released (made_of o))).live) (sym live)
        (numbered sc m fits c.place a live positive).1

    store_eq : {xs ys : List Member} {us vs : List store.Alive} → xs ≡ ys → us ≡ vs → store_with xs us
        ≡ store_with ys vs
    store_eq g h = cc

    lives : Lives m n
    lives = Lives.But c.place (released_agree m c.place) held expected

    own : member_of (without_place m.live c.place) (tasked m t) ≡ member_of m.live (tasked m t)
    own = member_same (without_place m.live c.place) m.live c.place (tasked m t) (released_agree m c.place)
        (none_at (vouchers_hold c.place) m.tasks t idle refl unknown)

pub step_if : (sc : Scenario) (t : ℕ) (m a b : Machine) (c : Bool) → (c ≡ true → Step sc t m a)
    → (c ≡ false → Step sc t m b) → Step sc t m (if c then a else b)
step_if sc t m a b true x y = x refl
step_if sc t m a b false x y = y refl

-- Ask: an agreed question appends a Released entry that may follow
pub ask_step : (sc : Scenario) (t : ℕ) (m : Machine) (f : Frame) (c : Claim) → Fits sc m → Before sc t m
    → (tasked m t).frame ≡ Some f → f.claim ≡ Some c → is_some c.answer ≡ false → Step sc t m (do_ask m t f c)
ask_step sc t m f c fits s e claim a =
    tallied_step sc t m _ one_ask (step_if sc t m _ _ c.raced
    (λ r. open_step sc t m f (record f { claim = Some (record c { answer = Some false }) }) s e refl
    (forming_of sc t m f s e) (claim_open f (record c { answer = Some false })))
    (λ r. by_living (agreed_at_place sc t m f c fits e claim a r) (living_at m.live c.place) refl))
  where
    by_living : Agreed (is_some (living_at m.live c.place)) (is_fixed m c.place) (is_held m c.place)
        (is_expected m c.place) → (o : Option Living) → living_at m.live c.place ≡ o
        → Step sc t m (with_frame (released m c.place) t (with_answer f c true))
    by_living g None h = let k : is_some (living_at m.live c.place) ≡ false = ap is_some h in let l : true
        ≡ false = sym g.live_now ∙ k in cc
    by_living g (Some x) h = released_step sc t m f c x fits s e h g.plain g.unheld g.unexpected
