-- A call changes the voucher that it forms at some keys: which index stands there then, and what is to be let go of.
use Rattle.std.specs.Prelude.{◌≡◌, ℕ, ◌<◌, if◌then◌else◌, false, List, [], ◌∷◌, ◌++◌, Option, Some, None}
use Rattle.vch_base.specs.declared.key.Key.{Key}
use Rattle.vch_base.specs.Keyed.{Keyed, of_key}
use Rattle.vch_base.specs.Keys.{number_of, same_key}
use Rattle.vch_table.specs.Indices.{Bounded, SetsIndex}
use Rattle.vch_base.specs.Managers.{count}
use Rattle.vch_machine.specs.Frames as frames
use Rattle.vch_machine.specs.Naming.{same_handle}
use Rattle.vch_machine.specs.State as machine
use Rattle.vch_machine.specs.State.{Handles, Machine}
use Rattle.vch_machine.specs.Working.{WorkDone}
use Rattle.vch_frame.specs.declared.frame.KeyIndex.{KeyIndex}
use Rattle.vch_frame.specs.Pairs.{Optional}
use Rattle.vch_frame.specs.Indices.{index_of}
use Rattle.vch_frame.specs.Releases.{let_at}
use Rattle.vch_values.specs.Parts.{KeyParts}
use Rattle.vch_parts.specs.declared.frame.Frame.{Frame}
use Rattle.vch_parts.specs.Plain.{Indices, Plain, part_of, with_frame}
use Rattle.vch_parts.specs.Pictures.{picture_of}
use Rattle.vch_parts.specs.Shape.{IsIndexOf, IsMap}
use Rattle.vch_moves.specs.Shares.{SharesAt}
use Rattle.vch_moves.specs.Steps.{stepped}

-- the keys, a voucher, and what is to be let go of
pub record Workspace : Type 0 where
  pub keyed : Keyed KeyParts
  pub map : Indices
  pub lets : List KeyIndex

-- a key gets an index, whose entry has one reference more, or none; what was there is to be let go of
pub record Puts (old : Workspace) (k : Key) (i : Option ℕ) (new : Workspace) : Type 0 where
  pub shares : SharesAt (of_key k old.keyed) i (of_key k new.keyed)
  pub others : (q : Key) → same_key k q ≡ false → of_key q new.keyed ≡ of_key q old.keyed
  pub map : SetsIndex old.map new.map (number_of k) i
  pub bounded : Bounded new.map
  pub lets : new.lets ≡ old.lets ++ let_at k (index_of k old.map)

-- a key stays as it is, or gets an index or none
abbrev pub Changes : Workspace → Key → Option (Option ℕ) → Workspace → Type 0
Changes old k None new = new ≡ old
Changes old k (Some i) new = Puts old k i new

-- each key of a list is changed, one after the other; `becomes` tells what becomes of a key of a voucher
abbrev pub ChangesEach : (Indices → Key → Option (Option ℕ)) → List Key → Workspace → Workspace → Type 0
ChangesEach becomes [] old new = new ≡ old
ChangesEach becomes (k ∷ ks) old new = (mid : Workspace) × Changes old k (becomes old.map k) mid × ChangesEach becomes ks mid new

-- What becomes of a key: by COPY of a voucher, by REMOVE, and by REMOVE of what a voucher has.

abbrev pub copies : Indices → Indices → Key → Option (Option ℕ)
copies from map k = Some (index_of k from)

abbrev pub removes : Option Indices → Indices → Key → Option (Option ℕ)
removes None map k = Some None
removes (Some from) map k = if same_handle (index_of k from) (index_of k map) then Some None else None

-- a frame forms another voucher, is at another place with these keys, and has more to let go of
abbrev pub formed : Plain → ℕ → Frame → ℕ → List Key → Workspace → Plain
formed c t f at ks w = record (stepped c t (with_frame (part_of c t) (Some (record f { forming = Some w.map; at = at; keys = ks; lets = f.lets ++ w.lets }))) None) { keyed = w.keyed }

-- The machine's side.

-- a key is none of some, and some are all different
abbrev pub NotIn : Key → List Key → Type 0
NotIn q [] = Unit {0}
NotIn q (k ∷ ks) = (same_key k q ≡ false) × NotIn q ks

abbrev pub KeysDiffer : List Key → Type 0
KeysDiffer [] = Unit {0}
KeysDiffer (k ∷ ks) = NotIn k ks × KeysDiffer ks

-- what becomes of a key, by indices and by handles
abbrev pub Becomes : Keyed KeyParts → Key → Option (Option ℕ) → Option (Option ℕ) → Type 0
Becomes x k None None = Unit {0}
Becomes x k (Some i) (Some h) = Optional (IsIndexOf x k) i h
Becomes x k a b = ⊥

-- Some keys of a voucher are changed, on both sides by indices and by handles: each key once, and a handle that is given is held
pub record Alters (c : Plain) (m : Machine) (w : Handles) (becomes : Indices → Key → Option (Option ℕ)) (to : Key → Option (Option ℕ)) (ks : List Key) : Type 0 where
  pub differ : KeysDiffer ks
  pub agrees : (k : Key) (a : Indices) (b : Handles) → IsMap c.keyed a b → of_key k b ≡ of_key k w → Becomes c.keyed k (becomes a k) (to k)
  pub held : (k : Key) (h : ℕ) → to k ≡ Some (Some h) → 0 < count h (picture_of k c m).holders

abbrev pub machine_formed : Machine → ℕ → machine.Frame → ℕ → List Key → WorkDone → Machine
machine_formed m t g at ks done = frames.with_frame m t (Some (record g { forming = Some done.forming; at_byte = at; keys = ks; lets = g.lets ++ done.left }))
