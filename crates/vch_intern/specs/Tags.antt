-- What a value is found by, and the index of tags.
use Rattle.std.specs.Prelude.{◌≡◌, ℕ, nat_eq, Bool, false, List, [], ◌∷◌, Option}
use Rattle.std.specs.Cmp.Lexicographic.{pointwise}
use Rattle.indexmap.specs.IndexMap.{IndexMap, get}
use Rattle.vch_base.specs.declared.value.Value.{Value}
use Rattle.vch_base.specs.declared.value.Value.TheVariants as values
use Rattle.vch_base.specs.declared.places.Live.{Live}
use Rattle.vch_base.specs.Managers.{is_user}
use Rattle.vch_base.specs.Places.{AllLive}
use Rattle.vch_shelf.specs.Finds.{Finds, named}

-- a number for the kind of a value, and the tasks that it names; user data has none of its own
abbrev pub tag : Value → List ℕ
tag (values.User bytes) = []
tag (values.Chain list) = 1 ∷ list
tag values.Default = 2 ∷ []
tag (values.Task t) = 3 ∷ t ∷ []
tag (values.Account holder merchant) = 4 ∷ holder ∷ merchant ∷ []

abbrev pub tag_of : Live → List ℕ
tag_of l = tag l.value

-- a value that was handed out so many times
abbrev pub live_of : Value → ℕ → Live
live_of x n = record { value = x; made = n; due = 0 }

abbrev pub tags_eq : List ℕ → List ℕ → Bool
tags_eq = pointwise nat_eq

-- the handle that the index has for a tag
abbrev pub found : {S : Type 0} → IndexMap (List ℕ) ℕ S → List ℕ → Option ℕ
found index t = get tags_eq index t

-- the index has exactly the tags of the live values, each with its handle, and none of these is user data
pub record Indexed {S : Type 0} (index : IndexMap (List ℕ) ℕ S) (slots : List (Option Live)) : Type 0 where
  pub finds : Finds (found index) (named tag_of slots)
  pub tagged : AllLive (λ l. is_user l.value ≡ false) slots
