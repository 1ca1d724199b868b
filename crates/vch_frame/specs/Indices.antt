-- A voucher by the indices of its entries.
use Rattle.std.specs.Prelude.{◌≡◌, ℕ, List, [], ◌∷◌, Option, Some, None}
use Rattle.vch_base.specs.declared.key.Key.{Key}
use Rattle.vch_base.specs.Keys.{number_of, key_numbered}
use Rattle.vch_table.specs.declared.indices.KeyedIndex.{KeyedIndex}
use Rattle.vch_table.specs.Indices.{index_at, Bounded}

-- a voucher of the table
abbrev pub Indices : Type 0
Indices = List KeyedIndex

-- its index at a key
abbrev pub index_of : Key → Indices → Option ℕ
index_of k v = index_at v (number_of k)

-- what there is at a key, as a list
abbrev pub listed : Option ℕ → List ℕ
listed None = []
listed (Some h) = h ∷ []

-- the keys of a voucher are of managers, in rising order
pub record IsKeyed (v : Indices) : Type 0 where
  pub bounded : Bounded v
  pub managed : (n : ℕ) → key_numbered n ≡ None → index_at v n ≡ None
