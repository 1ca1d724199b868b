-- Where a name stands among the names of a task.
use Rattle.std.specs.Prelude.{◌≡◌, ◌<◌, ℕ, zero, suc, ◌==◌, true, false, List, [], ◌∷◌, length, Option, Some, None}
use Rattle.vch_machine.specs.State.{Named}

-- the first entry with the name stands at the place, counted from 0
abbrev pub StandsAt : List Named → ℕ → ℕ → Type 0
StandsAt [] name i = ⊥
StandsAt (n ∷ names) name zero = (n.name == name) ≡ true
StandsAt (n ∷ names) name (suc i) = ((n.name == name) ≡ false) × StandsAt names name i

-- no entry has the name
abbrev pub HasNone : List Named → ℕ → Type 0
HasNone [] name = Unit {0}
HasNone (n ∷ names) name = ((n.name == name) ≡ false) × HasNone names name

abbrev pub IsPosition : List Named → ℕ → Option ℕ → Type 0
IsPosition names name None = HasNone names name
IsPosition names name (Some i) = (i < length names) × StandsAt names name i
