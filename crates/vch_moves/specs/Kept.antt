-- What an event that moves vouchers leaves as it was.
use Rattle.std.specs.Prelude.{◌≡◌, ℕ, ◌+◌, List, ◌∷◌, ◌++◌, length, Option, Some, None, option_to_list}
use Rattle.vch_base.specs.declared.key.Key.{Key}
use Rattle.vch_base.specs.Keyed.{of_key}
use Rattle.vch_entry.specs.Entries.{entry_at, made_of}
use Rattle.vch_value.specs.Picture.{Picture, Depicts, shared_picture}
use Rattle.vch_model.specs.declared.entry.Entry.{Entry}
use Rattle.vch_model.specs.declared.lists.Scenario.{Scenario}
use Rattle.vch_model.specs.Lines.{phases_in}
use Rattle.vch_machine.specs.State.{Machine}
use Rattle.vch_legal.specs.ValueAmounts.{IsUncounted}
use Rattle.vch_parts.specs.Plain.{Plain}
use Rattle.vch_parts.specs.Shape.{Shape}
use Rattle.vch_parts.specs.Pictures.{picture_of}
use Rattle.vch_bounds.specs.Rooms.{made_in}

-- An entry that adds up to nothing: no amount, no ledger, no phase and no value made
pub record AddsNothing (sc : Scenario) (past : List Entry) (e : Entry) : Type 0 where
  pub uncounted : IsUncounted sc past e
  pub phases : phases_in (e ∷ past) ≡ phases_in past
  pub made : made_in (e ∷ past) ≡ made_in past

-- such an entry is noted, or none is; the history has room for it
abbrev pub IsQuiet : Scenario → List Entry → Option Entry → Type 0
IsQuiet sc past None = Unit {0}
IsQuiet sc past (Some e) = AddsNothing sc past e

pub record Notes (sc : Scenario) (o : Option Entry) (c d : Plain) (m n : Machine) : Type 0 where
  pub past : n.past ≡ option_to_list o ++ m.past
  pub history : d.history ≡ c.history ++ option_to_list o
  pub spare : c.spare ≡ d.spare + length (option_to_list o)
  pub quiet : IsQuiet sc m.past o

-- At a key: the manager, the numbers of Made entries and the made counts are as they were, and who holds what fits again
pub record StillKey (k : Key) (c d : Plain) (m n : Machine) : Type 0 where
  pub kept : (of_key k d.keyed).kept ≡ (of_key k c.keyed).kept
  pub numbers : (of_key k d.keyed).numbers ≡ (of_key k c.keyed).numbers
  pub made : (i : ℕ) → made_of (entry_at (of_key k d.keyed).entries.slots i) ≡ made_of (entry_at (of_key k c.keyed).entries.slots i)
  pub counts : Depicts (picture_of k d n) (of_key k d.keyed).entries (of_key k d.keyed).kept

-- the whole
pub record Moved (sc : Scenario) (o : Option Entry) (c d : Plain) (m n : Machine) : Type 0 where
  pub keyed : (k : Key) → StillKey k c d m n
  pub live : n.live ≡ m.live
  pub pools : n.pools ≡ m.pools
  pub tally : n.tally ≡ m.tally
  pub core_tally : d.tally ≡ c.tally
  pub phase : d.phase ≡ c.phase
  pub shape : Shape sc d n
  pub notes : Notes sc o c d m n

-- the receipts and claims of a key are as they were
pub record SameFlight (k : Key) (c d : Plain) (m n : Machine) : Type 0 where
  pub receipts : (picture_of k d n).receipts ≡ (picture_of k c m).receipts
  pub claims : (picture_of k d n).claims ≡ (picture_of k c m).claims

-- the picture with one holder more of a handle, or as it was
abbrev pub shared_by : Option ℕ → Picture → Picture
shared_by None p = p
shared_by (Some h) p = shared_picture h p

-- At a key an entry got one reference more, or none did
pub record Shared (k : Key) (o : Option ℕ) (c d : Plain) (m : Machine) : Type 0 where
  pub kept : (of_key k d.keyed).kept ≡ (of_key k c.keyed).kept
  pub numbers : (of_key k d.keyed).numbers ≡ (of_key k c.keyed).numbers
  pub made : (i : ℕ) → made_of (entry_at (of_key k d.keyed).entries.slots i) ≡ made_of (entry_at (of_key k c.keyed).entries.slots i)
  pub counts : Depicts (shared_by o (picture_of k c m)) (of_key k d.keyed).entries (of_key k d.keyed).kept
