-- The index that finds the name of a voucher.
use Rattle.std.specs.Prelude.{◌≡◌, ℕ, if◌then◌else◌, List, [], ◌∷◌, Option, Some, None}
use Rattle.indexmap.specs.IndexMap.{IndexMap, get}
use Rattle.vch_books.specs.declared.numbers.Numbers.{Numbers}
use Rattle.vch_books.specs.declared.rows.Named.{Named}
use Rattle.vch_books.specs.Desks.{same_numbers, name_with}

-- no two names have one voucher
abbrev pub AreDifferent : List Named → Type 0
AreDifferent [] = Unit {0}
AreDifferent (n ∷ names) = (name_with names n.voucher ≡ None) × AreDifferent names

-- the index has the name of each voucher, and no two names have one
pub record IsNamed {S : Type 0} (index : IndexMap Numbers ℕ S) (names : List Named) : Type 0 where
  pub finds : (v : Numbers) → get same_numbers index v ≡ name_with names v
  pub different : AreDifferent names

-- the name of a voucher once the name of a voucher is gone, or of none
abbrev pub once_gone : Option Numbers → Numbers → Option ℕ → Option ℕ
once_gone None v name = name
once_gone (Some u) v name = if same_numbers u v then None else name
