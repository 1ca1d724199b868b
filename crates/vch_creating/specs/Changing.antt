-- What a record of a create does to the voucher that is formed, by indices.
use Rattle.std.specs.Prelude.{◌≡◌, ℕ, ◌<◌, ◌^◌, false, List, [], ◌∷◌, Option, IfSome, IsSome}
use Rattle.vch_base.specs.declared.key.Key.{Key}
use Rattle.vch_base.specs.Keys.{managed, same_key}
use Rattle.vch_base.specs.Keyed.{Keyed, of_key}
use Rattle.vch_entry.specs.Entries.{entry_at, refs_of}
use Rattle.vch_frame.specs.Indices.{index_of}
use Rattle.vch_values.specs.Parts.{KeyParts}
use Rattle.vch_parts.specs.Plain.{Indices}
use Rattle.vch_moves.specs.Shares.{SharesAt}
use Rattle.vch_moves.specs.Works.{copies, removes}
use Rattle.vch_creating.specs.declared.change.Deed.{Deed}
use Rattle.vch_creating.specs.declared.change.Deed.TheVariants as deeds
use Rattle.vch_creating.specs.declared.change.AtKeys.{AtKeys}
use Rattle.vch_creating.specs.declared.change.AtKeys.TheVariants as at

-- the keys of a change, in the order in which they are changed
abbrev pub keys_in : ℕ → AtKeys → List Key
keys_in version (at.One k) = k ∷ []
keys_in version at.All = managed version

-- what becomes of a key: nothing where it stays, else the index that it gets, or none
abbrev pub becomes : Deed → Indices → Key → Option (Option ℕ)
becomes (deeds.Copy v) map k = copies v map k
becomes (deeds.Remove v) map k = removes v map k

-- one reference more may be taken of an entry that is there
abbrev pub MayShare : KeyParts → Option ℕ → Type 0
MayShare x i = IfSome i (λ i. IsSome (entry_at x.entries.slots i) × (refs_of (entry_at x.entries.slots i) < 2 ^ 63))

-- so of what a deed copies at a key, and at each key
abbrev pub MayDo : Key → Keyed KeyParts → Deed → Type 0
MayDo k x (deeds.Copy v) = MayShare (of_key k x) (index_of k v)
MayDo k x (deeds.Remove v) = Unit {0}

abbrev pub MayDoAll : Keyed KeyParts → Deed → Type 0
MayDoAll x deed = (k : Key) → MayDo k x deed

-- one key has a reference more of an entry, or is as it was, and the other keys are as they were
pub record SharesIn (k : Key) (i : Option ℕ) (old new : Keyed KeyParts) : Type 0 where
  pub here : SharesAt (of_key k old) i (of_key k new)
  pub others : (q : Key) → same_key k q ≡ false → of_key q new ≡ of_key q old
