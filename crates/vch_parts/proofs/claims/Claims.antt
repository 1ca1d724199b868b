-- Claims on a handle, in the state and in the picture.
use Rattle.std.proofs.Common.{◌≡◌, ℕ, suc, ◌<◌, ◌==◌, ◌&&◌, Bool, true, false, cond, List, [], ◌∷◌, ◌++◌, refl, arith, length, get_or, Option, Some, None}
use Rattle.std.specs.List.{flat_map}
use Rattle.vch_base.specs.declared.key.Key.{Key}
use Rattle.vch_model.specs.declared.lists.Scenario.{Scenario}
use Rattle.vch_value.specs.Picture.{claims_at, Claimed}
use Rattle.vch_machine.specs.State as machine
use Rattle.vch_machine.specs.State.{Place, same_place, Claim, Machine, Tasked, tasked, idle, claim_at, frame_claims, claims_on, is_empty}
use Rattle.vch_parts.specs.declared.frame.Frame.{Frame}
use Rattle.vch_frame.specs.declared.frame.Claiming.{Claiming}
use Rattle.vch_parts.specs.Plain.{Plain, Part, part_of, idle_part}
use Rattle.vch_frame.specs.Pairs.{Optional}
use Rattle.vch_parts.specs.Shape.{Shape, IsFrame}
use Rattle.vch_frame.specs.Claims.{sync_of}
use Rattle.vch_parts.specs.Pictures.{picture_of, Both, both, frame_claimed, claimed_of}
use Rattle.vch_base.specs.Keys.{same_key}

module _ (k : Key) (h : ℕ) where
  abbrev pub here : Place
  here = record { key = k; handle = h }

  -- the picture's claims on the handle are the state's, with the core's sync
  abbrev pub AreThose : List Claimed → List Claim → Type 0
  AreThose [] [] = Unit {0}
  AreThose (x ∷ xs) (y ∷ ys) = ((x.handle ≡ y.place.handle) × (x.raced ≡ y.raced) × (x.back ≡ y.back) × (x.answered ≡ y.answer)) × AreThose xs ys
  AreThose xs ys = ⊥

  those_append : (a b : List Claimed) (x y : List Claim) → AreThose (claims_at h a) x → AreThose (claims_at h b) y → AreThose (claims_at h (a ++ b)) (x ++ y)
  those_append [] b [] y p q = q
  those_append [] b (x ∷ xs) y p q = absurd p
  those_append (a ∷ as_) b x y p q = by (a.handle == h) x p (those_append as_ b)
    where
      by : (t : Bool) (x : List Claim) → AreThose (cond t (a ∷ claims_at h as_) (claims_at h as_)) x
          → ((x y : List Claim) → AreThose (claims_at h as_) x → AreThose (claims_at h b) y → AreThose (claims_at h (as_ ++ b)) (x ++ y))
          → AreThose (cond t (a ∷ claims_at h (as_ ++ b)) (claims_at h (as_ ++ b))) (x ++ y)
      by true [] p next = absurd p
      by true (x ∷ xs) p next = (p.0, next xs y p.1 q)
      by false x p next = next x y p q

  one_claim : (x : Claiming) (y : Option Claim) → AreThose (claims_at h (claimed_of k x y)) (claim_at y here)
  one_claim x None = tt
  one_claim x (Some y) = by (same_key y.place.key k) (y.place.handle == h) refl
    where
      it : Claimed
      it = record { handle = y.place.handle; sync = sync_of x; raced = y.raced; back = y.back; answered = y.answer }

      by : (a b : Bool) → (y.place.handle == h) ≡ b → AreThose (claims_at h (cond a (record { handle = y.place.handle; sync = sync_of x; raced = y.raced; back = y.back; answered = y.answer } ∷ []) [])) (cond (a && b) (y ∷ []) [])
      by false b e = tt
      by true true e = rw e ((refl, refl, refl, refl), tt)
      by true false e = rw e tt

  module _ (sc : Scenario) (c : Plain) where
    frame_those : (f : Option Frame) (g : Option machine.Frame) → Optional (IsFrame c.keyed) f g → AreThose (claims_at h (frame_claimed k f g)) (frame_claims g here)
    frame_those None None e = tt
    frame_those None (Some g) e = absurd e
    frame_those (Some f) None e = absurd e
    frame_those (Some f) (Some g) e = one_claim f.claim g.claim

    all_those : (xs : List Part) (ys : List Tasked) → length xs ≡ length ys
        → ((i : ℕ) → i < length xs → AreThose (claims_at h (frame_claimed k (get_or xs i idle_part).frame (get_or ys i idle).frame)) (frame_claims (get_or ys i idle).frame here))
        → AreThose (claims_at h (flat_map (λ (b : Both). frame_claimed k b.part.frame b.task.frame) (both xs ys))) (flat_map (λ (y : Tasked). frame_claims y.frame here) ys)
    all_those [] [] l f = tt
    all_those [] (y ∷ ys) l f = absurd (omega arith)
    all_those (x ∷ xs) [] l f = absurd (omega arith)
    all_those (x ∷ xs) (y ∷ ys) l f =
        those_append (frame_claimed k x.frame y.frame) (flat_map (λ (b : Both). frame_claimed k b.part.frame b.task.frame) (both xs ys)) (frame_claims y.frame here) (flat_map (λ (y : Tasked). frame_claims y.frame here) ys)
        (f 0 (omega arith)) (all_those xs ys (omega (arith, l)) (λ i j. f (suc i) (omega (arith, j))))

    pub claims_those : (m : Machine) → Shape sc c m → AreThose (claims_at h (picture_of k c m).claims) (claims_on m here)
    claims_those m s = all_those c.tasks m.tasks s.long each
      where
        each : (i : ℕ) → i < length c.tasks → AreThose (claims_at h (frame_claimed k (get_or c.tasks i idle_part).frame (get_or m.tasks i idle).frame)) (frame_claims (get_or m.tasks i idle).frame here)
        each i l =
            let t = s.tasks (suc i) (omega arith) (omega (arith, l)) in
            (frame_those (part_of c (suc i)).frame (tasked m (suc i)).frame t.frame)
