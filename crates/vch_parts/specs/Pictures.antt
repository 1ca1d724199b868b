-- The picture of a key: what holds its handles, by the machine's state alone; the receipts of the core, which know whether
-- their value is Default; and the claims with the machine's marks and the core's made counts.
use Rattle.std.specs.Prelude.{ℕ, if◌then◌else◌, List, [], ◌∷◌, ◌++◌, map, Option, Some, None}
use Rattle.std.specs.List.{flat_map, list_any}
use Rattle.vch_base.specs.declared.key.Key.{Key}
use Rattle.vch_base.specs.Keys.{same_key}
use Rattle.vch_base.specs.Keyed.{of_key}
use Rattle.vch_value.specs.Flight.{Receipt}
use Rattle.vch_value.specs.Picture.{Picture, Claimed}
use Rattle.vch_machine.specs.Naming.{same_handles}
use Rattle.vch_machine.specs.State as machine
use Rattle.vch_machine.specs.State.{Handles, Place, Tasked, Machine}
use Rattle.vch_frame.specs.declared.frame.Claiming.{Claiming}
use Rattle.vch_frame.specs.declared.frame.KeyReceipt.{KeyReceipt}
use Rattle.vch_frame.specs.Indices.{listed}
use Rattle.vch_frame.specs.Claims.{sync_of, claimed}
use Rattle.vch_parts.specs.declared.frame.Frame.{Frame}
use Rattle.vch_parts.specs.Plain.{Plain, Part}

-- Vouchers of names and messages.

-- the voucher of a message, where it has one
abbrev pub option_handles : Option Handles → List Handles
option_handles None = []
option_handles (Some v) = v ∷ []

-- the vouchers of the names and of the messages of a task
abbrev pub task_vouchers : Tasked → List Handles
task_vouchers x = map (λ (n : machine.Named). n.voucher) x.names ++ flat_map (λ (q : machine.Message). option_handles q.voucher) x.queue

-- each voucher once, where it stands last
abbrev pub different : List Handles → List Handles
different [] = []
different (v ∷ vs) = if list_any (same_handles v) vs then different vs else v ∷ different vs

-- each different voucher that a name or a message has
abbrev pub known_vouchers : List Tasked → List Handles
known_vouchers tasks = different (flat_map task_vouchers tasks)

-- Holders.

abbrev pub voucher_holds : Key → Handles → List ℕ
voucher_holds k v = listed (of_key k v)

abbrev pub let_holds : Key → Place → List ℕ
let_holds k p = if same_key p.key k then p.handle ∷ [] else []

abbrev pub forming_holds : Key → Option Handles → List ℕ
forming_holds k None = []
forming_holds k (Some v) = voucher_holds k v

abbrev pub frame_holds : Key → Option machine.Frame → List ℕ
frame_holds k None = []
frame_holds k (Some f) = forming_holds k f.forming ++ flat_map (let_holds k) f.lets

abbrev pub task_holds : Key → Tasked → List ℕ
task_holds k x = frame_holds k x.frame

-- Receipts and claims.

abbrev pub receipt_of : Key → Option KeyReceipt → List Receipt
receipt_of k None = []
receipt_of k (Some r) = if same_key r.key k then r.receipt ∷ [] else []

abbrev pub receipts_of : Key → Option Frame → List Receipt
receipts_of k None = []
receipts_of k (Some f) = receipt_of k f.receipt

abbrev pub part_expects : Key → Part → List Receipt
part_expects k x = receipts_of k x.frame

abbrev pub claimed_of : Key → Claiming → Option machine.Claim → List Claimed
claimed_of k x None = []
claimed_of k x (Some y) = if same_key y.place.key k then claimed (sync_of x) y ∷ [] else []

abbrev pub frame_claimed : Key → Option Frame → Option machine.Frame → List Claimed
frame_claimed k (Some f) (Some g) = claimed_of k f.claim g.claim
frame_claimed k f g = []

-- a task of the core beside its twin in the state
pub record Both : Type 0 where
  pub part : Part
  pub task : Tasked

abbrev pub both : List Part → List Tasked → List Both
both (x ∷ xs) (y ∷ ys) = record { part = x; task = y } ∷ both xs ys
both xs ys = []

abbrev pub both_claimed : Key → Both → List Claimed
both_claimed k b = frame_claimed k b.part.frame b.task.frame

-- a handle is held by each frame that forms a voucher with it or has to let it go, and by each different voucher of names and
-- messages
abbrev pub picture_of : Key → Plain → Machine → Picture
picture_of k c m = record {
  holders = flat_map (task_holds k) m.tasks ++ flat_map (voucher_holds k) (known_vouchers m.tasks);
  receipts = flat_map (part_expects k) c.tasks;
  claims = flat_map (both_claimed k) (both c.tasks m.tasks);
}
