-- What schedules give of the worked scenarios.
use Rattle.std.specs.Prelude.{◌≡◌, ℕ, ◌-◌, Bool, true, false, List, [], ◌∷◌, ◌++◌, length, map, drop, Some, pos}
use Rattle.vch_model.specs.declared.call.Call.TheVariants as calls
use Rattle.vch_model.specs.declared.call.Line.{Line}
use Rattle.vch_model.specs.declared.call.Word.TheVariants as words
use Rattle.vch_model.specs.declared.entry.Entry.{Entry}
use Rattle.vch_model.specs.declared.entry.Entry.TheVariants as entries
use Rattle.vch_model.specs.declared.entry.Reply.TheVariants as replies
use Rattle.vch_model.specs.declared.lists.Scenario.{Scenario}
use Rattle.vch_model.specs.Replies.{refused}
use Rattle.vch_machine.specs.State.{start}
use Rattle.vch_machine.specs.Schedules.{Move, in_turn, by_seed, history_of}
use Rattle.vch_model.specs.Worked as examples
use Rattle.vch_model.specs.WorkedTwo as two
use Rattle.vch_model.specs.Examples.{self, bank, by, plain, both, scenario}

abbrev pub ample : ℕ → Bool
ample n = false

-- the history in turn, by seed, and of tasks in an order with the end of the phase after them; all with ample memory. The
-- bounds are above the numbers of moves
abbrev pub turn : ℕ → Scenario → List Entry
turn n sc = history_of sc (in_turn n ample sc (Some (start sc)))

abbrev pub seeded : ℕ → ℕ → Scenario → List Entry
seeded n seed sc = history_of sc (by_seed n seed ample sc (Some (start sc)))

abbrev pub order : List ℕ → Scenario → List Entry
order tasks sc = history_of sc (map (λ t. Move.Of t false) tasks ++ Move.EndPhase ∷ [])

-- the last entries of a history
abbrev pub last : ℕ → List Entry → List Entry
last n history = drop (length history - n) history

-- from each task to the next, up to a number: send and recv of name 1
abbrev pub passed_on : List Line
passed_on =
    by 1 (calls.Send 2 false 1 1) ∷ by 2 calls.Recv ∷ by 2 (calls.Send 3 false 1 1) ∷ by 3 calls.Recv ∷ by 3
    (calls.Send 4 false 1 1) ∷ by 4 calls.Recv
    ∷ by 4 (calls.Send 5 false 1 1) ∷ by 5 calls.Recv ∷ by 5 (calls.Send 6 false 1 1) ∷ by 6 calls.Recv ∷ by 6
    (calls.Send 7 false 1 1) ∷ by 7 calls.Recv
    ∷ by 7 (calls.Send 8 false 1 1) ∷ by 8 calls.Recv ∷ by 8 (calls.Send 9 false 1 1) ∷ by 9 calls.Recv ∷ []

-- nine tasks, and what the last four calls give: the ninth gets a list of eight, of which it is not the last
abbrev pub nine_tasks : Scenario
nine_tasks = scenario (both ∷ both ∷ both ∷ both ∷ both ∷ both ∷ both ∷ both ∷ both ∷ []) (
    by 1 (calls.Create self) ∷ passed_on ++ by 9 (calls.Extract 1 2) ∷ by 9
    (calls.Extern 1 true 1) ∷ by 9 calls.Assertions ∷ by 8 calls.Assertions ∷ [])

abbrev pub full_list_end : List Entry
full_list_end =
    entries.Call 9 2 words.Extract (replies.Content (1 ∷ 0 ∷ 0 ∷ 0 ∷ 2 ∷ 0 ∷ 0 ∷ 0 ∷ 3 ∷ 0 ∷ 0 ∷ 0 ∷ 4 ∷ 0 ∷ 0 ∷ 0 ∷ 5
    ∷ 0 ∷ 0 ∷ 0 ∷ 6 ∷ 0 ∷ 0 ∷ 0 ∷ 7 ∷ 0 ∷ 0 ∷ 0 ∷ 8 ∷ 0 ∷ 0 ∷ 0 ∷ []))
    ∷ entries.Call 9 3 words.Extern (refused (pos 4)) ∷ entries.Call 9 4 words.Assertions (replies.Assertions 0 0)
    ∷ entries.Call 8 3 words.Assertions (replies.Assertions 1 0) ∷ entries.Phase ∷ []

-- each schedule gives the history that is written beside the scenario
pub record Worked : Type 0 where
  pub last_name : turn 20 examples.last_name.scenario ≡ examples.last_name.history
  pub empty_array : turn 20 examples.empty_array.scenario ≡ examples.empty_array.history
  pub equal_vouchers : turn 40 examples.equal_vouchers.scenario ≡ examples.equal_vouchers.history
  pub copied_all : turn 60 examples.copied_all.scenario ≡ examples.copied_all.history
  pub cut_record : turn 40 examples.cut_record.scenario ≡ examples.cut_record.history
  pub without_manager : turn 40 examples.without_manager.scenario ≡ examples.without_manager.history
  pub made_before_ask : order (1 ∷ 1 ∷ 1 ∷ 1 ∷ 1 ∷ 1 ∷ 2 ∷ 2 ∷ 1 ∷ 1 ∷ 2 ∷ 2 ∷ []) examples.made_before_ask.scenario ≡ examples.made_before_ask.history
  pub made_after_ask : order (1 ∷ 1 ∷ 1 ∷ 1 ∷ 1 ∷ 1 ∷ 1 ∷ 2 ∷ 2 ∷ 2 ∷ 1 ∷ 2 ∷ 2 ∷ 2 ∷ 2 ∷ 2 ∷ []) examples.made_after_ask.scenario ≡ examples.made_after_ask.history
  pub claimed_again : order (1 ∷ 1 ∷ 1 ∷ 1 ∷ 1 ∷ 1 ∷ 1 ∷ 2 ∷ 2 ∷ 2 ∷ 2 ∷ 2 ∷ 1 ∷ 1 ∷ 1 ∷ []) examples.claimed_again.scenario ≡ examples.claimed_again.history
  pub assertions : turn 60 examples.assertions.scenario ≡ examples.assertions.history
  pub charges : turn 80 examples.charges.scenario ≡ examples.charges.history
  pub own_ledger : turn 60 examples.own_ledger.scenario ≡ examples.own_ledger.history
  pub full_queue : turn 80 examples.full_queue.scenario ≡ examples.full_queue.history
  pub seed_0 : seeded 20 0 examples.seed_0.scenario ≡ examples.seed_0.history
  pub seed_0_create : seeded 20 0 examples.seed_0_create.scenario ≡ examples.seed_0_create.history
  pub turn_create : turn 20 examples.turn_create.scenario ≡ examples.turn_create.history
  pub client_and_service : turn 80 examples.client_and_service.scenario ≡ examples.client_and_service.history
  pub removed_where_equal : turn 60 examples.removed_where_equal.scenario ≡ examples.removed_where_equal.history
  pub redeemed_all : turn 60 examples.redeemed_all.scenario ≡ examples.redeemed_all.history
  pub replaced : turn 40 examples.replaced.scenario ≡ examples.replaced.history
  pub moved_name : turn 60 examples.moved_name.scenario ≡ examples.moved_name.history
  -- version 2
  pub test_key : turn 80 two.test_key.scenario ≡ two.test_key.history
  pub test_key_in_version_1 : turn 40 two.test_key_in_version_1.scenario ≡ two.test_key_in_version_1.history
  pub limited_queue : turn 60 two.limited_queue.scenario ≡ two.limited_queue.history
  -- a list of eight grows no more; the last four calls
  pub full_list : last 5 (turn 120 nine_tasks) ≡ full_list_end
  -- two charges of the largest number; the last call
  pub large_charges : last 2 (turn 60 (scenario (plain ∷ plain ∷ []) (
      by 1 (calls.Create bank) ∷ by 1 (calls.Send 2 false 1 1) ∷ by 2 calls.Recv ∷ by 2 (calls.Charge 1 4294967295)
      ∷ by 2 (calls.Charge 1 4294967295) ∷ by 2 (calls.GiveUp 1) ∷ by 1 calls.Ledger ∷ [])))
      ≡ entries.Call 1 3 words.Ledger (replies.Ledger 8589934590) ∷ entries.Phase ∷ []
