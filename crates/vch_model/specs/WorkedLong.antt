-- Worked scenarios of long arrays, each with a history.
use Rattle.std.specs.Prelude.{false, [], ◌∷◌, ◌++◌, true}
use Rattle.vch_base.specs.declared.codes.TheConstants.{MIG_ARRAY_TOO_LARGE}
use Rattle.vch_model.specs.declared.call.Call.TheVariants as calls
use Rattle.vch_model.specs.declared.call.Word.TheVariants as words
use Rattle.vch_model.specs.declared.entry.Entry.TheVariants as entries
use Rattle.vch_model.specs.declared.entry.Reply.TheVariants as replies
use Rattle.vch_model.specs.Replies.{refused}
use Rattle.vch_model.specs.Examples.{Example, copy_all, by, plain, scenario, scenario_2, zeros_at, made_zeros}

-- an array of 5,120 bytes is carried out, and one of 5,121 is refused
abbrev pub longest_array : Example
longest_array = record {
  scenario = scenario (plain ∷ []) (
      by 1 (calls.Create (zeros_at 7 5104))
      ∷ by 1 (calls.Create (zeros_at 7 5104 ++ 0 ∷ [])) ∷ []);
  history =
      made_zeros 7 5104
      ∷ entries.Call 1 1 words.Create (replies.Created 1)
      ∷ entries.Call 1 2 words.Create (refused MIG_ARRAY_TOO_LARGE)
      ∷ entries.Phase ∷ [];
}

-- a recipe of more than 5,120 bytes is a part
abbrev pub long_recipe : Example
long_recipe = record {
  scenario = scenario_2 (5 ∷ []) (
      by 1 (calls.Create (zeros_at 7 3000))
      ∷ by 1 (calls.Create (copy_all ++ zeros_at 8 3000))
      ∷ by 1 (calls.Recipes 2) ∷ []);
  history =
      made_zeros 7 3000
      ∷ entries.Call 1 1 words.Create (replies.Created 1)
      ∷ made_zeros 8 3000
      ∷ entries.Call 1 2 words.Create (replies.Created 2)
      ∷ entries.Call 1 3 words.Recipes (replies.Recipe false (zeros_at 7 3000 ++ zeros_at 8 3000))
      ∷ entries.Phase ∷ [];
}

-- a recipe of 5,120 bytes is whole
abbrev pub largest_recipe : Example
largest_recipe = record {
  scenario = scenario (plain ∷ []) (
      by 1 (calls.Create (zeros_at 7 5104))
      ∷ by 1 (calls.Recipes 1) ∷ []);
  history =
      made_zeros 7 5104
      ∷ entries.Call 1 1 words.Create (replies.Created 1)
      ∷ entries.Call 1 2 words.Recipes (replies.Recipe true (zeros_at 7 5104))
      ∷ entries.Phase ∷ [];
}
