-- What bounds a state of a run: by the calls that were begun, and in numbers.
use Rattle.std.specs.Prelude.{ℕ, ◌+◌, ◌*◌, ◌<◌, ◌≤◌, ◌^◌, List, length}
use Rattle.std.specs.List.{sum_by, AllByRecursion}
use Rattle.vch_base.specs.declared.key.Key.{Key}
use Rattle.vch_base.specs.declared.limits.TheConstants.{MOST_TASKS, MOST_PHASES}
use Rattle.vch_base.specs.Keyed.{of_key}
use Rattle.vch_model.specs.Grammar.{IsSmall}
use Rattle.vch_model.specs.declared.call.Line.{Line}
use Rattle.vch_model.specs.declared.lists.Scenario.{Scenario}
use Rattle.vch_machine.specs.State.{Named, Tasked, Machine, tasked}
use Rattle.vch_script.specs.Places.{AreOfTasks}
use Rattle.vch_legal.specs.Facts.{bit}
use Rattle.vch_legal.specs.Tie.{is_answering}
use Rattle.vch_bounds.specs.Rooms.{calls_of, made_in}
use Rattle.vch_bounds.specs.Spent.{begun_in, flying_in, in_all}

-- the calls that a core can run: more than a text may have, since lines may be added while it runs
abbrev pub most_core_calls : ℕ
most_core_calls = 1048576

-- each number of each call is small
abbrev pub AreSmall : List (List Line) → Type 0
AreSmall phases = AllByRecursion (λ lines. AllByRecursion (λ (l : Line). IsSmall l.call) lines) phases

-- at most so many tasks, phases and calls; each line is of a task, and its numbers are small
pub record Limited (sc : Scenario) : Type 0 where
  pub tasks : length sc.flags ≤ MOST_TASKS
  pub phases : length sc.phases ≤ MOST_PHASES
  pub calls : calls_of sc ≤ most_core_calls
  pub lines : AreOfTasks (length sc.flags) sc.phases
  pub numbers : AreSmall sc.phases

-- 1 where a task has a call that is not answered
abbrev pub open_in : ℕ → Tasked → ℕ
open_in t x = bit (is_answering x.frame)

-- a task's names and messages
abbrev pub things_in : ℕ → Tasked → ℕ
things_in t x = length x.names + length x.queue

-- the user references of its names, and its messages
abbrev pub owned_in : ℕ → Tasked → ℕ
owned_in t x = sum_by (λ (n : Named). n.refs) x.names + length x.queue

-- the calls begun, the receipts in flight, the tally, the values made, the handles ever used of a key, what tasks have, and the
-- next name of a task. A call takes 1,280 references at most, four for each sixteen bytes of its array. It claims as many
-- handles, and twelve more: of two vouchers when it is answered, and of the one in the name or the message that it may give
pub record Bounded (sc : Scenario) (m : Machine) : Type 0 where
  pub begun : in_all begun_in m ≤ calls_of sc
  pub flying : in_all flying_in m ≤ length sc.flags
  pub refers : m.tally.refers + in_all flying_in m ≤ 1280 * in_all begun_in m
  pub claims : m.tally.claims ≤ 1292 * in_all begun_in m
  pub asks : m.tally.asks ≤ m.tally.refers
  pub made : made_in m.past ≤ m.tally.refers + in_all flying_in m
  pub used : (k : Key) → (of_key k m.pools).used ≤ m.tally.refers + in_all flying_in m + 1
  pub things : in_all things_in m + in_all open_in m ≤ in_all begun_in m
  pub owned : in_all owned_in m + in_all open_in m ≤ in_all begun_in m
  pub nexts : (t : ℕ) → (tasked m t).next + in_all open_in m ≤ in_all begun_in m + 1

-- the same in numbers; each is below 2 ^ 32
pub record InNumbers (m : Machine) : Type 0 where
  pub begun : in_all begun_in m ≤ 1048576
  pub refers : m.tally.refers ≤ 1342177280
  pub claims : m.tally.claims + m.tally.refers ≤ 2696937472
  pub asks : m.tally.asks ≤ 1342177280
  pub made : made_in m.past ≤ 1342177280
  pub used : (k : Key) → (of_key k m.pools).used ≤ 1342177281
  pub things : in_all things_in m ≤ 1048576
  pub owned : in_all owned_in m ≤ 1048576
  pub nexts : (t : ℕ) → (tasked m t).next ≤ 1048577
  pub past : length m.past < 2 ^ 32
