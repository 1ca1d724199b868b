-- What a task stands for stays while the indices keep their handles.
use Rattle.std.proofs.Common.{ℕ, List, [], ◌∷◌, Option, Some, None}
use Rattle.vch_base.specs.declared.key.Key.{Key}
use Rattle.vch_base.specs.Keys.{every_key}
use Rattle.vch_base.specs.Keyed.{Keyed, of_key}
use Rattle.vch_machine.specs.State as machine
use Rattle.vch_machine.specs.State.{Handles, Place, Tasked}
use Rattle.vch_frame.specs.declared.frame.Claiming.{Claiming}
use Rattle.vch_frame.specs.declared.frame.KeyIndex.{KeyIndex}
use Rattle.vch_frame.specs.Indices.{index_of}
use Rattle.vch_frame.proofs.CallerLemmas.{pairwise, optional}
use Rattle.vch_values.specs.Parts.{KeyParts}
use Rattle.vch_parts.specs.declared.frame.Frame.{Frame}
use Rattle.vch_parts.specs.Plain.{Indices, Part}
use Rattle.vch_parts.specs.Shape.{IsIndexOf, AreIndices, IsMap, IsName, IsMessage, IsLet, IsClaim, IsFrame, IsTask}

-- each index keeps its handle
abbrev pub Keeps : Keyed KeyParts → Keyed KeyParts → Type 0
Keeps x y = (k : Key) (i h : ℕ) → IsIndexOf x k i h → IsIndexOf y k i h

module _ (x y : Keyed KeyParts) (stable : Keeps x y) where
  indices_stay : (ks : List Key) (v : Indices) (w : Handles) → AreIndices x ks v w → AreIndices y ks v w
  indices_stay [] v w p = tt
  indices_stay (k ∷ ks) v w p = (optional (IsIndexOf x k) (IsIndexOf y k) (stable k) (index_of k v) (of_key k w) p.0, indices_stay ks v w p.1)

  pub map_stays : (v : Indices) (w : Handles) → IsMap x v w → IsMap y v w
  map_stays v w p = (indices_stay every_key v w p.0, p.1)

  pub let_stays : (l : KeyIndex) (p : Place) → IsLet x l p → IsLet y l p
  let_stays l p q = (q.0, stable l.key l.index p.handle q.1)

  claim_stays : (a : Claiming) (b : Option machine.Claim) → IsClaim x a b → IsClaim y a b
  claim_stays Claiming.Nothing None p = tt
  claim_stays Claiming.Nothing (Some b) p = absurd p
  claim_stays (Claiming.Claimed k a) None p = absurd p
  claim_stays (Claiming.Claimed k a) (Some b) p = (p.0, stable k a.index b.place.handle p.1, p.2)
  claim_stays (Claiming.Answered k a) None p = absurd p
  claim_stays (Claiming.Answered k a) (Some b) p = (p.0, stable k a.index b.place.handle p.1, p.2)

  pub frame_stays : (f : Frame) (g : machine.Frame) → IsFrame x f g → IsFrame y f g
  frame_stays f g p = record {
    forming = optional (IsMap x) (IsMap y) map_stays f.forming g.forming p.forming;
    answered = p.answered;
    at_byte = p.at_byte;
    keys = p.keys;
    receipt = p.receipt;
    lets = pairwise (IsLet x) (IsLet y) let_stays f.lets g.lets p.lets;
    claim = claim_stays f.claim g.claim p.claim;
  }

  pub task_stays : (a : Part) (b : Tasked) → IsTask x a b → IsTask y a b
  task_stays a b p = record {
    names = pairwise (IsName x) (IsName y) (λ n o q. (q.0, q.1, map_stays n.voucher o.voucher q.2)) a.names b.names p.names;
    next = p.next;
    queue = pairwise (IsMessage x) (IsMessage y) (λ n o q. (q.0, q.1, optional (IsMap x) (IsMap y) map_stays n.voucher o.voucher q.2)) a.queue b.queue p.queue;
    begun = p.begun;
    frame = optional (IsFrame x) (IsFrame y) frame_stays a.frame b.frame p.frame;
  }
