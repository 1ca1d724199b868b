-- The recipe of a voucher that a task names.
use Rattle.std.specs.Prelude.{ℕ, ◌==◌, Bool, false, List, [], ◌∷◌}
use Rattle.vch_model.specs.Replies.{recipes_of}
use Rattle.vch_model.specs.declared.entry.Reply.{Reply}
use Rattle.vch_parts.specs.declared.parts.Parts.{Parts}
use Rattle.vch_parts.specs.Reached.{plain_of}
use Rattle.vch_replies.specs.Told.{values_by}

-- the list has the task alone
abbrev pub is_own : ℕ → List ℕ → Bool
is_own t [] = false
is_own t (x ∷ []) = x == t
is_own t (x ∷ y ∷ list) = false

-- what is replied where there is memory
abbrev pub recipes_told : Parts → ℕ → ℕ → Reply
recipes_told p t name = recipes_of t (values_by (plain_of p) t name)
