-- How many entries of each kind a history has, and the room that it takes at most. A history is given with its newest entry
-- first.
use Rattle.std.specs.Prelude.{◌≡◌, ℕ, ◌+◌, ◌*◌, ◌≤◌, Bool, true, false, List, length}
use Rattle.vch_model.specs.declared.entry.Entry.{Entry}
use Rattle.vch_model.specs.declared.entry.Entry.TheVariants as entries
use Rattle.vch_model.specs.declared.lists.Scenario.{Scenario}
use Rattle.vch_model.specs.After.{store_of}
use Rattle.vch_model.specs.Lines.{phases_in}
use Rattle.vch_model.specs.Store.{member}
use Rattle.vch_model.specs.Scenarios.{line_count}
use Rattle.vch_legal.specs.Facts.{times}
use Rattle.vch_bounds.specs.Owned.{things_in, references_in}

-- the number of calls of a scenario
abbrev pub calls_of : Scenario → ℕ
calls_of sc = line_count sc.phases

abbrev pub is_answer : Entry → Bool
is_answer (entries.Call t n word reply) = true
is_answer entry = false

abbrev pub is_made : Entry → Bool
is_made (entries.Made k x) = true
is_made entry = false

abbrev pub is_released : Entry → Bool
is_released (entries.Released e) = true
is_released entry = false

-- a name or a message that an exit gives up
abbrev pub is_given_up : Entry → Bool
is_given_up (entries.Gone t name) = true
is_given_up (entries.Lost t) = true
is_given_up entry = false

abbrev pub answers_in : List Entry → ℕ
answers_in past = times is_answer past

abbrev pub made_in : List Entry → ℕ
made_in past = times is_made past

abbrev pub released_in : List Entry → ℕ
released_in past = times is_released past

abbrev pub given_up_in : List Entry → ℕ
given_up_in past = times is_given_up past

-- room for an answer and for a name or a message given up of each call, for the end of each phase, and for each Made entry and
-- the release of its value
abbrev pub room_of : Scenario → List Entry → ℕ
room_of sc past = 2 * calls_of sc + length sc.phases + 2 * made_in past

-- how many entries of each kind there are: answers of the scenario's calls, ends of its phases, and a release of each value made
-- that is not live. Each answer gives one name or one message at most, which an exit may give up, and one user reference;
-- and the next name of a task rises by one with an answer at most
pub record Counted (sc : Scenario) (past : List Entry) : Type 0 where
  pub entries : length past ≡ answers_in past + made_in past + released_in past + given_up_in past + phases_in past
  pub answers : answers_in past ≤ calls_of sc
  pub phases : phases_in past ≤ length sc.phases
  pub released : released_in past + length (store_of sc past).live ≡ made_in past
  pub given_up : given_up_in past + things_in (store_of sc past) ≤ answers_in past
  pub references : references_in (store_of sc past) ≤ answers_in past
  pub nexts : (t : ℕ) → (member (store_of sc past) t).next ≤ answers_in past + 1
