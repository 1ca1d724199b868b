-- Places, and what a frame is to a handle.
use Rattle.std.proofs.Common.{◌≡◌, ℕ, zero, suc, ◌≤◌, Bool, List, [], ◌∷◌, refl, true, false, arith, length, get_or, Some, None, Option}
use Rattle.std.specs.Prelude.{◌==◌}
use Rattle.vch_base.specs.declared.key.Key.{Key}
use Rattle.vch_base.specs.declared.key.Key.TheVariants as keys
use Rattle.vch_base.specs.Keys.{number_of}
use Rattle.vch_base.specs.Tasks.{at_task}
use Rattle.vch_machine.specs.State.{Handles, Claim, Place, same_place, Frame, Tasked, idle, frame_holds, frame_expects, frame_claims, claim_at, is_place}
use Rattle.vch_machine.specs.Frames.{closed}
use Rattle.vch_legal.proofs.facts.Choices.{and_left, and_right}
use Rattle.vch_legal.proofs.tasks.TaskLists.{IsAmong}

pub same_key : (k g : Key) → (number_of k == number_of g) ≡ true → k ≡ g
same_key keys.Importance keys.Importance e = refl
same_key keys.Importance keys.Bank e = cc
same_key keys.Importance keys.User e = cc
same_key keys.Importance keys.Test e = cc
same_key keys.Bank keys.Importance e = cc
same_key keys.Bank keys.Bank e = refl
same_key keys.Bank keys.User e = cc
same_key keys.Bank keys.Test e = cc
same_key keys.User keys.Importance e = cc
same_key keys.User keys.Bank e = cc
same_key keys.User keys.User e = refl
same_key keys.User keys.Test e = cc
same_key keys.Test keys.Importance e = cc
same_key keys.Test keys.Bank e = cc
same_key keys.Test keys.User e = cc
same_key keys.Test keys.Test e = refl

abbrev mk_place : Key → ℕ → Place
mk_place k a = record { key = k; handle = a }

place_eq : (k g : Key) (a b : ℕ) → k ≡ g → a ≡ b → mk_place k a ≡ mk_place g b
place_eq k g a b e f = cc

pub same_number : (a b : ℕ) → (a == b) ≡ true → a ≡ b
same_number a b e = grind arith

pub same_place_eq : (p q : Place) → same_place p q ≡ true → p ≡ q
same_place_eq p q e =
    place_eq p.key q.key p.handle q.handle (same_key p.key q.key (and_left _ (p.handle == q.handle) e))
    (same_number p.handle q.handle (and_right (number_of p.key == number_of q.key) _ e))

pub same_place_refl : (p : Place) → same_place p p ≡ true
same_place_refl p = grind arith

pub same_place_comm : (p q : Place) → same_place p q ≡ same_place q p
same_place_comm p q = grind arith

-- nothing is formed any more where the call is answered
abbrev pub Settled : Frame → Type 0
Settled f = f.answered ≡ true → f.forming ≡ None

abbrev frame_by : Option Handles → Bool → ℕ → List Key → Option Place → List Place → Option Claim → Frame
frame_by v a n ks r lets c =
    record { forming = v; answered = a; at_byte = n; keys = ks; receipt = r; lets = lets; claim = c }

closed_parts : (v : Option Handles) (a : Bool) (n : ℕ) (ks : List Key) (r : Option Place) (lets : List Place)
    (c : Option Claim) (p : Place) → (a ≡ true → v ≡ None)
    → frame_holds (closed (frame_by v a n ks r lets c)) p ≡ frame_holds (Some (frame_by v a n ks r lets c)) p
closed_parts v false n ks r lets c p s = refl
closed_parts v true n ks (Some r) lets c p s = refl
closed_parts v true n ks None lets (Some c) p s = refl
closed_parts v true n ks None (q ∷ lets) None p s = refl
closed_parts v true n ks None [] None p s = let e : v ≡ None = s refl in rw e

pub closed_holds : (f : Frame) (p : Place) → Settled f → frame_holds (closed f) p ≡ frame_holds (Some f) p
closed_holds f p s = closed_parts f.forming f.answered f.at_byte f.keys f.receipt f.lets f.claim p s

expects_parts : (v : Option Handles) (a : Bool) (n : ℕ) (ks : List Key) (r : Option Place) (lets : List Place)
    (c : Option Claim) (p : Place) → frame_expects (closed (frame_by v a n ks r lets c)) p ≡ is_place r p
expects_parts v false n ks r lets c p = refl
expects_parts v true n ks (Some r) lets c p = refl
expects_parts v true n ks None lets (Some c) p = refl
expects_parts v true n ks None (q ∷ lets) None p = refl
expects_parts v true n ks None [] None p = refl

pub closed_expects : (f : Frame) (p : Place) → frame_expects (closed f) p ≡ is_place f.receipt p
closed_expects f p = expects_parts f.forming f.answered f.at_byte f.keys f.receipt f.lets f.claim p

claims_parts : (v : Option Handles) (a : Bool) (n : ℕ) (ks : List Key) (r : Option Place) (lets : List Place)
    (c : Option Claim) (p : Place) → frame_claims (closed (frame_by v a n ks r lets c)) p ≡ claim_at c p
claims_parts v false n ks r lets c p = refl
claims_parts v true n ks (Some r) lets c p = refl
claims_parts v true n ks None lets (Some c) p = refl
claims_parts v true n ks None (q ∷ lets) None p = refl
claims_parts v true n ks None [] None p = refl

pub closed_claims : (f : Frame) (p : Place) → frame_claims (closed f) p ≡ claim_at f.claim p
closed_claims f p = claims_parts f.forming f.answered f.at_byte f.keys f.receipt f.lets f.claim p

in_range : (xs : List Tasked) (i : ℕ) (f : Frame) → (get_or xs i idle).frame ≡ Some f → suc i ≤ length xs
in_range [] i f e = cc
in_range (x ∷ xs) zero f e = omega arith
in_range (x ∷ xs) (suc i) f e = let h : suc i ≤ length xs = in_range xs i f e in omega arith

-- a task with a frame is one of the list
pub among : (xs : List Tasked) (t : ℕ) (f : Frame) → (at_task xs t idle).frame ≡ Some f → IsAmong t xs
among xs zero f e = absurd (none e)
  where
    none : None ≡ Some f → ⊥
    none e = cc
among xs (suc i) f e = (omega arith, in_range xs i f e)
