-- The references that a frame has still to let go of, and the entry of a value that is gone.
use Rattle.std.specs.Prelude.{ℕ, ◌-◌, Bool, if◌then◌else◌, List, [], ◌∷◌, ◌++◌, Option, Some, None}
use Rattle.vch_base.specs.declared.key.Key.{Key}
use Rattle.vch_base.specs.declared.kind.Kind.{Kind}
use Rattle.vch_base.specs.declared.kind.Kind.TheVariants as kinds
use Rattle.vch_model.specs.declared.entry.Entry.{Entry}
use Rattle.vch_model.specs.declared.entry.Entry.TheVariants.{Released}
use Rattle.vch_frame.specs.declared.frame.KeyIndex.{KeyIndex}

-- what stood at a key, where it is to be let go of
abbrev pub let_at : Key → Option ℕ → List KeyIndex
let_at k None = []
let_at k (Some i) = record { key = k; index = i } ∷ []

-- a reference that is left is let go of
abbrev pub lets_kind : List KeyIndex → Option Kind
lets_kind [] = None
lets_kind (l ∷ lets) = Some kinds.LetGo

-- a Released entry, where the manager agreed
abbrev pub noted_release : Bool → ℕ → List Entry → List Entry
noted_release agreed made past = if agreed then past ++ Released made ∷ [] else past

-- and its room
abbrev pub less_room : Bool → ℕ → ℕ
less_room agreed spare = if agreed then spare - 1 else spare
