-- Legal histories that are not whole: something is left to do at their end.
use Rattle.std.specs.Prelude.{[], ◌∷◌, reverse}
use Rattle.vch_model.specs.declared.call.Call.TheVariants as calls
use Rattle.vch_model.specs.declared.call.Word.TheVariants as words
use Rattle.vch_model.specs.declared.entry.Entry.TheVariants as entries
use Rattle.vch_model.specs.declared.entry.Reply.TheVariants as replies
use Rattle.vch_model.specs.Legal.{Legal, Ended}
use Rattle.vch_model.specs.Examples.{Example, by, plain, scenario, made_ab}

abbrev pub IsUnended : Example → Type 0
IsUnended e = Legal e.history e.scenario × (Ended e.scenario (reverse e.history) → ⊥)

-- a call is left out
abbrev pub call_left_out : Example
call_left_out = record {
  scenario = scenario (plain ∷ []) (
      by 1 calls.Live
      ∷ by 1 calls.Live ∷ []);
  history = entries.Call 1 1 words.Live (replies.Live 0 1) ∷ [];
}

-- the last end of a phase is left out
abbrev pub phase_left_out : Example
phase_left_out = record {
  scenario = scenario (plain ∷ []) (by 1 calls.Live ∷ []);
  history = entries.Call 1 1 words.Live (replies.Live 0 1) ∷ [];
}

-- a value is made behind it
abbrev pub made_behind : Example
made_behind = record {
  scenario = scenario (plain ∷ []) (by 1 calls.Live ∷ []);
  history =
      entries.Call 1 1 words.Live (replies.Live 0 1)
      ∷ entries.Phase
      ∷ made_ab ∷ [];
}

pub record AreUnended : Type 0 where
  pub call_left_out : IsUnended call_left_out
  pub phase_left_out : IsUnended phase_left_out
  pub made_behind : IsUnended made_behind
