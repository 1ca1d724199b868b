-- A voucher is copied: each of its entries gets one reference more.
use Rattle.std.specs.Prelude.{◌≡◌, ℕ, ◌<◌, Option, Some, None, IfSome}
use Rattle.vch_base.specs.declared.key.Key.{Key}
use Rattle.vch_base.specs.Keyed.{Keyed, of_key}
use Rattle.vch_base.specs.Managers.{Kept, count}
use Rattle.vch_entry.specs.Entries.{entry_at, handle_at, Writes, more_refs}
use Rattle.vch_value.specs.Picture.{Picture, Depicts, shared_picture}
use Rattle.vch_frame.specs.Indices.{index_of}
use Rattle.vch_values.specs.Parts.{KeyParts}
use Rattle.vch_parts.specs.Plain.{Indices}

-- the entry at an index has one reference more, and all else at the key is as it was
pub record OneShared (old : KeyParts) (i : ℕ) (new : KeyParts) : Type 0 where
  pub entry : IfSome (entry_at old.entries.slots i) (λ e. Writes old.entries.slots new.entries.slots i (Some (more_refs e)))
  pub kept : new.kept ≡ old.kept
  pub numbers : new.numbers ≡ old.numbers
  pub stands : (p : Picture) (kept : Kept) (h : ℕ) → handle_at old.entries.slots i ≡ Some h → 0 < count h p.holders
      → Depicts p old.entries kept → Depicts (shared_picture h p) new.entries kept

abbrev pub SharesAt : KeyParts → Option ℕ → KeyParts → Type 0
SharesAt old None new = new ≡ old
SharesAt old (Some i) new = OneShared old i new

-- so at each key, where there is an index to be shared
abbrev pub SharesEach : Keyed KeyParts → (Key → Option ℕ) → Keyed KeyParts → Type 0
SharesEach old more new = (k : Key) → SharesAt (of_key k old) (more k) (of_key k new)

-- of a voucher that is copied as a whole
abbrev pub SharesAll : Keyed KeyParts → Indices → Keyed KeyParts → Type 0
SharesAll old v new = SharesEach old (λ k. index_of k v) new
