-- The index that finds the name for a slot, and the places that are kept for names.
use Rattle.std.specs.Prelude.{◌≡◌, ℕ, ◌+◌, ◌≤◌, nat_eq, List, length, option_map}
use Rattle.indexmap.specs.IndexMap as map
use Rattle.indexmap.specs.IndexMap.{IndexMap, get}
use Rattle.vch_ports.specs.declared.space.Named.{Named}
use Rattle.vch_ports.specs.Names.{Spaced, IsOrdered, by_slot, name_of}

-- the index has the name for each slot, and for no other one
abbrev pub IsIndex : {S : Type 0} → IndexMap ℕ ℕ S → List Named → Type 0
IsIndex index names = (slot : ℕ) → get nat_eq index slot ≡ option_map name_of (by_slot names slot)

-- what is true of the names, the index, the next name and the places that are kept: both have room for so many names
pub record IsSpace {S : Type 0} (names : List Named) (capacity : ℕ) (index : IndexMap ℕ ℕ S) (next : ℕ) (spare : ℕ) : Type 0 where
  pub spaced : Spaced names next
  pub ordered : IsOrdered names
  pub indexed : IsIndex index names
  pub room : length names + spare ≤ capacity
  pub index_room : spare ≤ map.spare index
