-- All claims of the machine are changed alike, and keep their places and answers: the parts stand for what they stood for,
-- and the claims of a picture are changed alike.
use Rattle.std.proofs.Common.{◌≡◌, ℕ, ◌==◌, ◌&&◌, not, Bool, true, false, cond, List, [], ◌∷◌, ◌++◌, refl, sym, ap, ◌∙◌, map, subst, Option, Some, None}
use Rattle.std.specs.Prelude.{is_some}
use Rattle.std.specs.List.{flat_map}
use Rattle.std.proofs.lemmas.List.{length-map}
use Rattle.vch_base.specs.declared.key.Key.{Key}
use Rattle.vch_value.specs.Picture.{Claimed, bring, race}
use Rattle.vch_model.specs.declared.lists.Scenario.{Scenario}
use Rattle.vch_machine.specs.State as machine
use Rattle.vch_machine.specs.State.{Claim, Place, same_place, Machine, Tasked, tasked, idle}
use Rattle.vch_machine.specs.Making.{race_claim, back_claim, on_claim, on_frame, on_task, on_claims}
use Rattle.vch_legal.proofs.CallerLemmas.{flat_map_map}
use Rattle.vch_legal.proofs.CallerLemmas.{claims_task}
use Rattle.vch_parts.specs.declared.frame.Frame.{Frame}
use Rattle.vch_frame.specs.declared.frame.Claiming.{Claiming}
use Rattle.vch_parts.specs.Plain.{Plain, Part, part_of}
use Rattle.vch_frame.specs.Pairs.{Optional}
use Rattle.vch_values.specs.Parts.{KeyParts}
use Rattle.vch_parts.specs.Shape.{Shape, IsClaim, IsFrame, IsTask}
use Rattle.vch_frame.specs.Claims.{claimed, sync_of}
use Rattle.vch_parts.specs.Pictures.{Both, both, picture_of, task_holds, frame_holds, frame_claimed, claimed_of, both_claimed, task_vouchers}
use Rattle.vch_base.specs.Keys.{same_key}
use Rattle.vch_base.specs.Keyed.{Keyed}

-- the place and the answer stay
pub record Keeps (g : Claim → Claim) : Type 0 where
  pub place : (y : Claim) → (g y).place ≡ y.place
  pub answer : (y : Claim) → (g y).answer ≡ y.answer

-- a claim of the picture is changed as the machine's is
abbrev pub Shows : Key → (Claim → Claim) → (Claimed → Claimed) → Type 0
Shows k g f = (sync : ℕ) (y : Claim) → same_key y.place.key k ≡ true → claimed sync (g y) ≡ f (claimed sync y)

-- the two changes there are

pub back_keeps : (p : Place) → Keeps (back_claim p)
back_keeps p = record { place = λ y. by_place (same_place y.place p) y; answer = λ y. by_answer (same_place y.place p) y }
  where
    by_place : (b : Bool) (y : Claim) → (cond b (record y { back = true }) y).place ≡ y.place
    by_place true y = refl
    by_place false y = refl

    by_answer : (b : Bool) (y : Claim) → (cond b (record y { back = true }) y).answer ≡ y.answer
    by_answer true y = refl
    by_answer false y = refl

pub race_keeps : (p : Place) → Keeps (race_claim p)
race_keeps p = record { place = λ y. by_place (same_place y.place p && not (is_some y.answer)) y; answer = λ y. by_answer (same_place y.place p && not (is_some y.answer)) y }
  where
    by_place : (b : Bool) (y : Claim) → (cond b (record y { raced = true }) y).place ≡ y.place
    by_place true y = refl
    by_place false y = refl

    by_answer : (b : Bool) (y : Claim) → (cond b (record y { raced = true }) y).answer ≡ y.answer
    by_answer true y = refl
    by_answer false y = refl

pub back_shows : (k : Key) (h : ℕ) → Shows k (back_claim (record { key = k; handle = h })) (bring h)
back_shows k h sync y e = rw e (by (y.place.handle == h))
  where
    by : (b : Bool) → claimed sync (cond b (record y { back = true }) y) ≡ cond b (record (claimed sync y) { back = true }) (claimed sync y)
    by true = refl
    by false = refl

pub race_shows : (k : Key) (h : ℕ) → Shows k (race_claim (record { key = k; handle = h })) (race h)
race_shows k h sync y e = rw e (by (y.place.handle == h) y)
  where
    answered : (a : Option Bool) (y : Claim) → y.answer ≡ a
        → claimed sync (cond (not (is_some a)) (record y { raced = true }) y) ≡ elim a as (λ _. Claimed) [ None ↦ record (claimed sync y) { raced = true } | Some b ↦ claimed sync y ]
    answered None y e = refl
    answered (Some b) y e = refl

    by : (b : Bool) (y : Claim) → claimed sync (cond (b && not (is_some y.answer)) (record y { raced = true }) y) ≡ cond b (elim y.answer as (λ _. Claimed) [ None ↦ record (claimed sync y) { raced = true } | Some b ↦ claimed sync y ]) (claimed sync y)
    by true y = answered y.answer y refl
    by false y = refl

module _ (g : Claim → Claim) (keeps : Keeps g) where
  -- Names, queues and frames.

  claim_on : (x : Keyed KeyParts) (a : Claiming) (y : Option Claim) → IsClaim x a y → IsClaim x a (on_claim g y)
  claim_on x Claiming.Nothing None p = tt
  claim_on x (Claiming.Claimed k a) (Some y) p = rw (keeps.place y, keeps.answer y) p
  claim_on x (Claiming.Answered k a) (Some y) p = rw (keeps.place y, keeps.answer y) p
  claim_on x Claiming.Nothing (Some y) p = absurd p
  claim_on x (Claiming.Claimed k a) None p = absurd p
  claim_on x (Claiming.Answered k a) None p = absurd p

  frame_on : (x : Keyed KeyParts) (f : Option Frame) (o : Option machine.Frame) → Optional (IsFrame x) f o → Optional (IsFrame x) f (on_frame g o)
  frame_on x None None p = tt
  frame_on x (Some f) (Some o) p = record { forming = p.forming; answered = p.answered; at_byte = p.at_byte; keys = p.keys; receipt = p.receipt; lets = p.lets; claim = claim_on x f.claim o.claim p.claim }
  frame_on x None (Some o) p = absurd p
  frame_on x (Some f) None p = absurd p

  task_on : (x : Keyed KeyParts) (a : Part) (y : Tasked) → IsTask x a y → IsTask x a (on_task g y)
  task_on x a y p = record { names = p.names; next = p.next; queue = p.queue; begun = p.begun; frame = frame_on x a.frame y.frame p.frame }

  pub shape_on : (sc : Scenario) (c : Plain) (m : Machine) → Shape sc c m → Shape sc c (on_claims g m)
  shape_on sc c m s = record {
    long = s.long ∙ sym (length-map m.tasks (on_task g));
    tasks = λ u p i. subst (λ (y : Tasked). IsTask c.keyed (part_of c u) y) (sym (claims_task m g u)) (task_on c.keyed (part_of c u) (tasked m u) (s.tasks u p i));
    limits = s.limits;
  }

  -- The picture of a key.

  same_holds : (k : Key) (xs : List Tasked) → flat_map (task_holds k) (map (on_task g) xs) ≡ flat_map (task_holds k) xs
  same_holds k [] = refl
  same_holds k (x ∷ xs) = let a : flat_map (task_holds k) (map (on_task g) xs) ≡ flat_map (task_holds k) xs = same_holds k xs in rw (a, one x.frame) refl
    where
      one : (o : Option machine.Frame) → frame_holds k (on_frame g o) ≡ frame_holds k o
      one None = refl
      one (Some f) = refl

  same_vouchers : (xs : List Tasked) → flat_map task_vouchers (map (on_task g) xs) ≡ flat_map task_vouchers xs
  same_vouchers [] = refl
  same_vouchers (x ∷ xs) = ap (λ vs. task_vouchers x ++ vs) (same_vouchers xs)

  abbrev both_on : Both → Both
  both_on b = record b { task = on_task g b.task }

  both_map : (xs : List Part) (ys : List Tasked) → both xs (map (on_task g) ys) ≡ map both_on (both xs ys)
  both_map [] ys = refl
  both_map (x ∷ xs) [] = refl
  both_map (x ∷ xs) (y ∷ ys) = ap (λ bs. record { part = x; task = on_task g y } ∷ bs) (both_map xs ys)

  module _ (k : Key) (f : Claimed → Claimed) (shows : Shows k g f) where
    claim_shown : (x : Claiming) (o : Option Claim) → claimed_of k x (on_claim g o) ≡ map f (claimed_of k x o)
    claim_shown x None = refl
    claim_shown x (Some y) = rw (keeps.place y) (by (same_key y.place.key k) refl)
      where
        by : (b : Bool) → same_key y.place.key k ≡ b → cond b (claimed (sync_of x) (record (g y) { place = y.place }) ∷ []) [] ≡ map f (cond b (claimed (sync_of x) y ∷ []) [])
        by true e = ap (λ z. z ∷ []) (subst (λ p. claimed (sync_of x) (record (g y) { place = p }) ≡ f (claimed (sync_of x) y)) (keeps.place y) (shows (sync_of x) y e))
        by false e = refl

    frame_shown : (x : Option Frame) (y : Option machine.Frame) → frame_claimed k x (on_frame g y) ≡ map f (frame_claimed k x y)
    frame_shown None None = refl
    frame_shown None (Some y) = refl
    frame_shown (Some x) None = refl
    frame_shown (Some x) (Some y) = claim_shown x.claim y.claim

    pub picture_on : (c : Plain) (m : Machine) → picture_of k c (on_claims g m) ≡ record (picture_of k c m) { claims = map f (picture_of k c m).claims }
    picture_on c m = rw (same_holds k m.tasks, same_vouchers m.tasks, both_map c.tasks m.tasks, flat_map_map (both_claimed k) both_on f (λ b. frame_shown b.part.frame b.task.frame) (both c.tasks m.tasks)) refl
