-- When names, queues and frames of a core are those of a state of the event machine. The core has indices of entries where the
-- machine has handles.
use Rattle.std.specs.Prelude.{◌≡◌, ℕ, ◌-◌, ◌<◌, List, [], ◌∷◌, length, Some, None, Option}
use Rattle.vch_base.specs.declared.key.Key.{Key}
use Rattle.vch_base.specs.Keys.{every_key}
use Rattle.vch_base.specs.Keyed.{Keyed, of_key}
use Rattle.vch_entry.specs.declared.table.Entry.{Entry}
use Rattle.vch_entry.specs.Entries.{handle_at}
use Rattle.vch_model.specs.Store.{limit_of}
use Rattle.vch_model.specs.declared.lists.Scenario.{Scenario}
use Rattle.vch_machine.specs.State as machine
use Rattle.vch_machine.specs.State.{Handles, Place, Tasked, Machine, tasked}
use Rattle.vch_frame.specs.Pairs.{Pairwise, Optional}
use Rattle.vch_frame.specs.Indices.{IsKeyed, index_of}
use Rattle.vch_frame.specs.declared.frame.Claiming.{Claiming}
use Rattle.vch_frame.specs.declared.frame.KeyIndex.{KeyIndex}
use Rattle.vch_frame.specs.declared.frame.KeyReceipt.{KeyReceipt}
use Rattle.vch_values.specs.Parts.{KeyParts}
use Rattle.vch_parts.specs.declared.frame.Frame.{Frame}
use Rattle.vch_vouchers.specs.Desks.{Named}
use Rattle.vch_vouchers.specs.declared.answers.Message.{Message}
use Rattle.vch_parts.specs.Plain.{Indices, Part, Plain, part_of}

-- Indices and handles.

-- the entries of a key
abbrev pub slots_of : Keyed KeyParts → Key → List (Option Entry)
slots_of x k = (of_key k x).entries.slots

-- the entry at an index has the handle
abbrev pub IsIndexOf : Keyed KeyParts → Key → ℕ → ℕ → Type 0
IsIndexOf x k index handle = handle_at (slots_of x k) index ≡ Some handle

-- at each of these keys the indices are those of the handles
abbrev pub AreIndices : Keyed KeyParts → List Key → Indices → Handles → Type 0
AreIndices x [] v w = Unit {0}
AreIndices x (k ∷ ks) v w = Optional (IsIndexOf x k) (index_of k v) (of_key k w) × AreIndices x ks v w

-- it has the handles at the keys of managers, and no other key
abbrev pub IsMap : Keyed KeyParts → Indices → Handles → Type 0
IsMap x v w = AreIndices x every_key v w × IsKeyed v

-- Names and queues.

abbrev pub IsName : Keyed KeyParts → Named → machine.Named → Type 0
IsName x n o = (n.name ≡ o.name) × (n.refs ≡ o.refs) × IsMap x n.voucher o.voucher

abbrev pub IsMessage : Keyed KeyParts → Message → machine.Message → Type 0
IsMessage x q o = (q.sender ≡ o.sender) × (q.id ≡ o.id) × Optional (IsMap x) q.voucher o.voucher

-- Frames.

abbrev pub IsReceipt : KeyReceipt → Place → Type 0
IsReceipt r p = (r.key ≡ p.key) × (r.receipt.handle ≡ p.handle)

abbrev pub IsLet : Keyed KeyParts → KeyIndex → Place → Type 0
IsLet x l p = (l.key ≡ p.key) × IsIndexOf x l.key l.index p.handle

abbrev pub IsClaim : Keyed KeyParts → Claiming → Option machine.Claim → Type 0
IsClaim x Claiming.Nothing None = Unit {0}
IsClaim x (Claiming.Claimed k a) (Some y) = (k ≡ y.place.key) × IsIndexOf x k a.index y.place.handle × (y.answer ≡ None)
IsClaim x (Claiming.Answered k a) (Some y) = (k ≡ y.place.key) × IsIndexOf x k a.index y.place.handle × (y.answer ≡ Some a.agreed)
IsClaim x a y = ⊥

pub record IsFrame (x : Keyed KeyParts) (f : Frame) (g : machine.Frame) : Type 0 where
  pub forming : Optional (IsMap x) f.forming g.forming
  pub answered : f.answered ≡ g.answered
  pub at_byte : f.at ≡ g.at_byte
  pub keys : f.keys ≡ g.keys
  pub receipt : Optional IsReceipt f.receipt g.receipt
  pub lets : Pairwise (IsLet x) f.lets g.lets
  pub claim : IsClaim x f.claim g.claim

pub record IsTask (x : Keyed KeyParts) (p : Part) (y : Tasked) : Type 0 where
  pub names : Pairwise (IsName x) p.names y.names
  pub next : p.next ≡ y.next
  pub queue : Pairwise (IsMessage x) p.queue y.queue
  pub begun : p.begun ≡ y.begun
  pub frame : Optional (IsFrame x) p.frame y.frame

-- names, queues and frames are the state's, and each queue has the scenario's limit. Between the two halves of an event this
-- stands, and the counts do not
pub record Shape (sc : Scenario) (c : Plain) (m : Machine) : Type 0 where
  pub long : length c.tasks ≡ length m.tasks
  pub tasks : (t : ℕ) → 0 < t → t - 1 < length c.tasks → IsTask c.keyed (part_of c t) (tasked m t)
  pub limits : (t : ℕ) → 0 < t → t - 1 < length c.tasks → (part_of c t).limit ≡ limit_of sc t
