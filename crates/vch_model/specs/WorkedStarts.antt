-- Legal histories that are not whole, each of its scenario.
use Rattle.std.specs.Prelude.{true, false, [], ◌∷◌, pos, ◌++◌}
use Rattle.std.specs.List.{repeat}
use Rattle.vch_model.specs.declared.call.Call.TheVariants as calls
use Rattle.vch_model.specs.declared.call.Word.TheVariants as words
use Rattle.vch_model.specs.declared.entry.Entry.TheVariants as entries
use Rattle.vch_model.specs.declared.entry.Reply.TheVariants as replies
use Rattle.vch_model.specs.Replies.{refused}
use Rattle.vch_model.specs.Examples.{Example, ab, bank, by, chain, donor, made_ab, of_all, of_task, plain, receiver, record_of, scenario, scenario_2, self}

-- memory may run out in each of these
abbrev pub wants_of_creates : Example
wants_of_creates = record {
  scenario = scenario (plain ∷ []) (
      by 1 (calls.Create (7 ∷ 0 ∷ 0 ∷ 0 ∷ 211 ∷ 0 ∷ 0 ∷ 0 ∷ 0 ∷ 0 ∷ 0 ∷ 0 ∷ 240 ∷ 19 ∷ repeat 5106 (0 ∷ [])))
      ∷ by 1 (calls.Create (of_all 1 0 []))
      ∷ by 1 (calls.Create (record_of 7 10 0 (97 ∷ [])))
      ∷ by 1 (calls.Create (record_of 7 6 0 []))
      ∷ by 1 (calls.Create (of_all 10 0 []))
      ∷ by 1 (calls.Create ab)
      ∷ by 1 (calls.Create (255 ∷ 255 ∷ 255 ∷ 255 ∷ 1 ∷ 0 ∷ 0 ∷ 0 ∷ 1 ∷ 0 ∷ 0 ∷ 0 ∷ 0 ∷ 0 ∷ 0 ∷ 0 ∷ 7 ∷ 0 ∷ 0 ∷ 0 ∷
      211 ∷ 0 ∷ 0 ∷ 0 ∷ 1 ∷ 0 ∷ 0 ∷ 0 ∷ 0 ∷ 0 ∷ 0 ∷ 0 ∷ 99 ∷ []))
      ∷ by 1 (calls.Extract 1 2)
      ∷ by 1 (calls.Recipes 1) ∷ []);
  history =
      entries.Call 1 1 words.Create (refused (pos 6))
      ∷ entries.Call 1 2 words.Create (refused (pos 6))
      ∷ entries.Call 1 3 words.Create (refused (pos 6))
      ∷ entries.Call 1 4 words.Create (refused (pos 6))
      ∷ entries.Call 1 5 words.Create (refused (pos 6))
      ∷ made_ab
      ∷ entries.Call 1 6 words.Create (replies.Created 1)
      ∷ entries.Call 1 7 words.Create (refused (pos 6))
      ∷ entries.Call 1 8 words.Extract (refused (pos 6))
      ∷ entries.Call 1 9 words.Recipes (refused (pos 6)) ∷ [];
}

-- and at the key of tests
abbrev pub want_of_test_key : Example
want_of_test_key = record {
  scenario = scenario_2 (5 ∷ []) (
      by 1 (calls.Create (record_of 8 200 0 [])) ∷ []);
  history =
      entries.Call 1 1 words.Create (refused (pos 6)) ∷ [];
}

-- and in a send to a full queue, where the bank is asked
abbrev pub want_of_full_queue : Example
want_of_full_queue = record {
  scenario = scenario_2 (5 ∷ 1 ∷ []) (
      by 1 (calls.Create bank)
      ∷ by 1 (calls.Send 1 true 1 0)
      ∷ by 1 calls.Recv
      ∷ by 1 (calls.Send 2 false 0 1)
      ∷ by 1 (calls.Send 2 false 2 2) ∷ []);
  history =
      entries.Call 1 1 words.Create (replies.Created 1)
      ∷ of_task 1
      ∷ entries.Call 1 2 words.Send replies.Done
      ∷ entries.Call 1 3 words.Recv (replies.Received 1 0 2)
      ∷ entries.Call 1 4 words.Send replies.Done
      ∷ entries.Call 1 5 words.Send (refused (pos 6)) ∷ [];
}

-- a send to a full queue is refused whether its value was made or not
abbrev pub unmade_to_full : Example
unmade_to_full = record {
  scenario = scenario_2 (1 ∷ []) (
      by 1 (calls.Create bank)
      ∷ by 1 (calls.Send 1 false 0 1)
      ∷ by 1 (calls.Send 1 false 1 2) ∷ []);
  history =
      entries.Call 1 1 words.Create (replies.Created 1)
      ∷ entries.Call 1 2 words.Send replies.Done
      ∷ entries.Call 1 3 words.Send (refused (pos 268435460)) ∷ [];
}

-- a made value counts before its call is answered
abbrev pub live_between : Example
live_between = record {
  scenario = scenario (plain ∷ plain ∷ []) (
      by 1 (calls.Create ab)
      ∷ by 2 calls.Live ∷ []);
  history =
      made_ab
      ∷ entries.Call 2 1 words.Live (replies.Live 0 2)
      ∷ entries.Call 1 1 words.Create (replies.Created 1) ∷ [];
}

-- a voucher that a message alone has counts
abbrev pub live_in_queue : Example
live_in_queue = record {
  scenario = scenario (plain ∷ plain ∷ []) (
      by 1 (calls.Create ab)
      ∷ by 1 (calls.Send 2 true 1 1)
      ∷ by 2 calls.Live ∷ []);
  history =
      made_ab
      ∷ entries.Call 1 1 words.Create (replies.Created 1)
      ∷ entries.Call 1 2 words.Send replies.Done
      ∷ entries.Call 2 1 words.Live (replies.Live 1 2) ∷ [];
}

-- a list counts until it is released
abbrev pub held_until_released : Example
held_until_released = record {
  scenario = scenario (donor ∷ receiver ∷ []) (
      by 1 (calls.Create self)
      ∷ by 1 (calls.Send 2 false 1 5)
      ∷ by 2 calls.Recv
      ∷ by 2 (calls.Extern 1 true 3)
      ∷ by 2 (calls.GiveUp 1)
      ∷ by 2 calls.Assertions ∷ []);
  history =
      chain (1 ∷ [])
      ∷ entries.Call 1 1 words.Create (replies.Created 1)
      ∷ entries.Call 1 2 words.Send replies.Done
      ∷ chain (1 ∷ 2 ∷ [])
      ∷ entries.Call 2 1 words.Recv (replies.Received 1 5 1)
      ∷ entries.Call 2 2 words.Extern replies.Done
      ∷ entries.Call 2 3 words.GiveUp replies.Done
      ∷ entries.Call 2 4 words.Assertions (replies.Assertions 4 0) ∷ [];
}

-- a call without memory gives no name
abbrev pub made_before_want : Example
made_before_want = record {
  scenario = scenario (plain ∷ plain ∷ []) (
      by 1 (calls.Create ab)
      ∷ by 1 (calls.Create ab)
      ∷ by 1 (calls.GiveUp 1)
      ∷ by 1 (calls.GiveUp 1) ∷ []);
  history =
      made_ab
      ∷ entries.Call 1 1 words.Create (refused (pos 6))
      ∷ entries.Call 1 2 words.Create (replies.Created 1)
      ∷ entries.Call 1 3 words.GiveUp replies.Done
      ∷ entries.Call 1 4 words.GiveUp (refused (pos 15)) ∷ [];
}

-- a record that asks is reached before a header that is cut
abbrev pub want_before_cut : Example
want_before_cut = record {
  scenario = scenario (plain ∷ []) (by 1 (calls.Create (of_all 10 0 [] ++ 0 ∷ [])) ∷ []);
  history = entries.Call 1 1 words.Create (refused (pos 6)) ∷ [];
}
