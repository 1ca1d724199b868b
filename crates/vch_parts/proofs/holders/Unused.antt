-- What a task stands for stays where one handle has no index any more, if the task does not use it.
use Rattle.vch_values.proofs.CallerLemmas.{same_key_refl}
use Rattle.vch_values.proofs.CallerLemmas.{key_cases}
use Rattle.std.proofs.Common.{◌≡◌, ◌≢◌, ℕ, zero, suc, ◌==◌, ◌&&◌, ◌||◌, Bool, true, false, cond, List, [], ◌∷◌, ◌++◌, refl, sym, ap, ◌∙◌, subst, get_or, Option, Some, None, inl, inr}
use Rattle.std.specs.List.{list_any, flat_map}
use Rattle.vch_base.specs.declared.key.Key.{Key}
use Rattle.vch_machine.specs.State as machine
use Rattle.vch_base.specs.Keyed.{Keyed, of_key}
use Rattle.vch_machine.specs.State.{Handles, Place, Named, Message, Tasked, same_place, has_place, option_has, is_handle, frame_holds, task_holds, claim_at, frame_claims}
use Rattle.vch_base.specs.Keys.{every_key}
use Rattle.vch_legal.proofs.CallerLemmas.{before, behind}
use Rattle.vch_base.specs.Tasks.{at_task}
use Rattle.vch_values.specs.Parts.{KeyParts}
use Rattle.vch_parts.specs.declared.frame.Frame.{Frame}
use Rattle.vch_frame.specs.declared.frame.Claiming.{Claiming}
use Rattle.vch_frame.specs.declared.frame.KeyIndex.{KeyIndex}
use Rattle.vch_parts.specs.Plain.{Indices, Part}
use Rattle.vch_vouchers.specs.Desks as desks
use Rattle.vch_vouchers.specs.declared.answers.Message as answers
use Rattle.vch_frame.specs.Pairs.{Pairwise, Optional}
use Rattle.vch_frame.specs.Indices.{index_of}
use Rattle.vch_parts.specs.Shape.{IsIndexOf, AreIndices, IsMap, IsName, IsMessage, IsLet, IsClaim, IsFrame, IsTask}
use Rattle.vch_base.specs.Keys.{same_key}

pub either_false : (a b : Bool) → (a || b) ≡ false → (a ≡ false) × (b ≡ false)
either_false false b e = (refl, e)
either_false true b e = absurd (cc)

other_place : (q g : Key) (h : ℕ) (w : Handles) (j : ℕ) → of_key q w ≡ Some j → is_handle (of_key g w) h ≡ false → (same_key q g && (j == h)) ≡ false
other_place q g h w j e n = elim (key_cases q g) [
  | inl same ↦ ap (λ b. b && (j == h)) (subst (λ k. same_key q k ≡ true) same (same_key_refl q)) ∙ (sym (ap (λ o. is_handle o h) e) ∙ subst (λ k. is_handle (of_key k w) h ≡ false) (sym same) n)
  | inr other ↦ ap (λ b. b && (j == h)) other
]

module _ (x y : Keyed KeyParts) (gone : Place) (stable : (q : Key) (i j : ℕ) → same_place (record { key = q; handle = j }) gone ≡ false → IsIndexOf x q i j → IsIndexOf y q i j) where
  index_stays : (q : Key) (w : Handles) (i o : Option ℕ) → has_place w gone ≡ false → of_key q w ≡ o → Optional (IsIndexOf x q) i o → Optional (IsIndexOf y q) i o
  index_stays q w None None n e p = tt
  index_stays q w (Some i) (Some j) n e p = stable q i j (other_place q gone.key gone.handle w j e n) p
  index_stays q w None (Some j) n e p = absurd p
  index_stays q w (Some i) None n e p = absurd p

  indices_stay : (ks : List Key) (v : Indices) (w : Handles) → has_place w gone ≡ false → AreIndices x ks v w → AreIndices y ks v w
  indices_stay [] v w n p = tt
  indices_stay (k ∷ ks) v w n p = (index_stays k w (index_of k v) (of_key k w) n refl p.0, indices_stay ks v w n p.1)

  map_stays : (v : Indices) (w : Handles) → has_place w gone ≡ false → IsMap x v w → IsMap y v w
  map_stays v w n p = (indices_stay every_key v w n p.0, p.1)

  names_stay : (ns : List desks.Named) (os : List Named) → list_any (λ (n : Named). has_place n.voucher gone) os ≡ false → Pairwise (IsName x) ns os → Pairwise (IsName y) ns os
  names_stay [] [] n p = tt
  names_stay (a ∷ ns) (o ∷ os) n p =
      let e = either_false (has_place o.voucher gone) (list_any (λ (n : Named). has_place n.voucher gone) os) n in
      ((p.0.0, p.0.1, map_stays a.voucher o.voucher e.0 p.0.2), names_stay ns os e.1 p.1)
  names_stay [] (o ∷ os) n p = absurd p
  names_stay (a ∷ ns) [] n p = absurd p

  option_stays : (v : Option Indices) (w : Option Handles) → option_has w gone ≡ false → Optional (IsMap x) v w → Optional (IsMap y) v w
  option_stays None None n p = tt
  option_stays (Some v) (Some w) n p = map_stays v w n p
  option_stays None (Some w) n p = absurd p
  option_stays (Some v) None n p = absurd p

  queue_stays : (ns : List answers.Message) (os : List Message) → list_any (λ (q : Message). option_has q.voucher gone) os ≡ false → Pairwise (IsMessage x) ns os → Pairwise (IsMessage y) ns os
  queue_stays [] [] n p = tt
  queue_stays (a ∷ ns) (o ∷ os) n p =
      let e = either_false (option_has o.voucher gone) (list_any (λ (q : Message). option_has q.voucher gone) os) n in
      ((p.0.0, p.0.1, option_stays a.voucher o.voucher e.0 p.0.2), queue_stays ns os e.1 p.1)
  queue_stays [] (o ∷ os) n p = absurd p
  queue_stays (a ∷ ns) [] n p = absurd p

  lets_stay : (ls : List KeyIndex) (ps : List Place) → list_any (λ q. same_place q gone) ps ≡ false → Pairwise (IsLet x) ls ps → Pairwise (IsLet y) ls ps
  lets_stay [] [] n p = tt
  lets_stay (l ∷ ls) (q ∷ ps) n p =
      let e = either_false (same_place q gone) (list_any (λ q. same_place q gone) ps) n in
      let here : same_place (record { key = l.key; handle = q.handle }) gone ≡ false = rw p.0.0 e.0 in
      ((p.0.0, stable l.key l.index q.handle here p.0.1), lets_stay ls ps e.1 p.1)
  lets_stay [] (q ∷ ps) n p = absurd p
  lets_stay (l ∷ ls) [] n p = absurd p

  not_here : (b : machine.Claim) → claim_at (Some b) gone ≡ [] → same_place b.place gone ≡ false
  not_here b e = by (same_place b.place gone) e
    where
      by : (z : Bool) → cond z (b ∷ []) [] ≡ [] → z ≡ false
      by true e = absurd (cc)
      by false e = refl

  claim_stays : (a : Claiming) (b : Option machine.Claim) → claim_at b gone ≡ [] → IsClaim x a b → IsClaim y a b
  claim_stays Claiming.Nothing None n p = tt
  claim_stays (Claiming.Claimed k a) (Some b) n p = let e : same_place (record { key = k; handle = b.place.handle }) gone ≡ false = rw p.0 (not_here b n) in (p.0, stable k a.index b.place.handle e p.1, p.2)
  claim_stays (Claiming.Answered k a) (Some b) n p = let e : same_place (record { key = k; handle = b.place.handle }) gone ≡ false = rw p.0 (not_here b n) in (p.0, stable k a.index b.place.handle e p.1, p.2)
  claim_stays Claiming.Nothing (Some b) n p = absurd p
  claim_stays (Claiming.Claimed k a) None n p = absurd p
  claim_stays (Claiming.Answered k a) None n p = absurd p

  pub frame_unused : (f : Frame) (g : machine.Frame) → frame_holds (Some g) gone ≡ false → claim_at g.claim gone ≡ [] → IsFrame x f g → IsFrame y f g
  frame_unused f g n u p =
      let e = either_false (option_has g.forming gone) (list_any (λ q. same_place q gone) g.lets) n in record {
        forming = option_stays f.forming g.forming e.0 p.forming;
        answered = p.answered;
        at_byte = p.at_byte;
        keys = p.keys;
        receipt = p.receipt;
        lets = lets_stay f.lets g.lets e.1 p.lets;
        claim = claim_stays f.claim g.claim u p.claim;
      }

  option_frame : (f : Option Frame) (g : Option machine.Frame) → frame_holds g gone ≡ false → frame_claims g gone ≡ [] → Optional (IsFrame x) f g → Optional (IsFrame y) f g
  option_frame None None n u p = tt
  option_frame (Some f) (Some g) n u p = frame_unused f g n u p
  option_frame None (Some g) n u p = absurd p
  option_frame (Some f) None n u p = absurd p

  pub task_unused : (a : Part) (b : Tasked) → task_holds gone b ≡ false → frame_claims b.frame gone ≡ [] → IsTask x a b → IsTask y a b
  task_unused a b n u p =
      let e = either_false (list_any (λ (n : Named). has_place n.voucher gone) b.names) (list_any (λ (q : Message). option_has q.voucher gone) b.queue || frame_holds b.frame gone) n in
      let r = either_false (list_any (λ (q : Message). option_has q.voucher gone) b.queue) (frame_holds b.frame gone) e.1 in record {
        names = names_stay a.names b.names e.0 p.names;
        next = p.next;
        queue = queue_stays a.queue b.queue r.0 p.queue;
        begun = p.begun;
        frame = option_frame a.frame b.frame r.1 u p.frame;
      }

-- a test that nobody passes, and pieces that are all empty but one

pub none_passes : {X : Type 0} (p : X → Bool) (d : X) → p d ≡ false → (xs : List X) (i : ℕ) → list_any p xs ≡ false → p (get_or xs i d) ≡ false
none_passes p d n [] i e = n
none_passes p d n (x ∷ xs) zero e = (either_false (p x) (list_any p xs) e).0
none_passes p d n (x ∷ xs) (suc i) e = none_passes p d n xs i (either_false (p x) (list_any p xs) e).1

both_empty : {A : Type 0} (a b : List A) → a ++ b ≡ [] → (a ≡ []) × (b ≡ [])
both_empty [] b e = (refl, e)
both_empty (x ∷ a) b e = absurd (cc)

flat_empty : {X A : Type 0} (f : X → List A) (d : X) → f d ≡ [] → (xs : List X) (j : ℕ) → flat_map f xs ≡ [] → f (get_or xs j d) ≡ []
flat_empty f d n [] j e = n
flat_empty f d n (x ∷ xs) zero e = (both_empty (f x) (flat_map f xs) e).0
flat_empty f d n (x ∷ xs) (suc j) e = flat_empty f d n xs j (both_empty (f x) (flat_map f xs) e).1

pub others_empty : {X A : Type 0} (f : X → List A) (d : X) → f d ≡ [] → (xs : List X) (t u : ℕ) → before f xs t ≡ [] → behind f xs t ≡ [] → u ≢ t → f (at_task xs u d) ≡ []
others_empty f d n xs zero zero a b q = absurd (q refl)
others_empty f d n xs zero (suc j) a b q = flat_empty f d n xs j b
others_empty f d n xs (suc i) zero a b q = n
others_empty f d n [] (suc i) (suc j) a b q = n
others_empty f d n (x ∷ xs) (suc zero) (suc zero) a b q = absurd (q refl)
others_empty f d n (x ∷ xs) (suc zero) (suc (suc j)) a b q = flat_empty f d n xs j b
others_empty f d n (x ∷ xs) (suc (suc i)) (suc zero) a b q = (both_empty (f x) (before f xs (suc i)) a).0
others_empty f d n (x ∷ xs) (suc (suc i)) (suc (suc j)) a b q = others_empty f d n xs (suc i) (suc j) (both_empty (f x) (before f xs (suc i)) a).1 b (λ e. q (ap suc e))

-- a list with one element that one of three pieces gives
pub lone : {A : Type 0} (a b : List A) (x y : A) → a ++ (x ∷ b) ≡ y ∷ [] → (a ≡ []) × (b ≡ [])
lone [] b x y e = let z : b ≡ [] = cc in (refl, z)
lone (z ∷ []) b x y e = absurd (cc)
lone (z ∷ w ∷ a) b x y e = absurd (cc)
