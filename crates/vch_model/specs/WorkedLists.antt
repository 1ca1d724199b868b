-- Worked scenarios of lists and accounts, each with a history.
use Rattle.std.specs.Prelude.{true, false, [], ◌∷◌, ◌++◌, pos}
use Rattle.vch_model.specs.declared.call.Call.TheVariants as calls
use Rattle.vch_model.specs.declared.call.Word.TheVariants as words
use Rattle.vch_model.specs.declared.entry.Entry.TheVariants as entries
use Rattle.vch_model.specs.declared.entry.Reply.TheVariants as replies
use Rattle.vch_model.specs.Replies.{refused}
use Rattle.vch_model.specs.Examples.{Example, account, bank, both, by, chain, donor, of_task, plain, receiver, scenario, self}

-- what `extract` gives of a list, an account, a task and Default, at all keys and of an unknown name
abbrev pub extracted_values : Example
extracted_values = record {
  scenario = scenario (donor ∷ receiver ∷ []) (
      by 1 (calls.Create (bank ++ self))
      ∷ by 1 (calls.Send 2 false 1 1)
      ∷ by 2 calls.Recv
      ∷ by 2 (calls.Extract 1 2)
      ∷ by 2 (calls.Extract 1 3)
      ∷ by 1 (calls.Extract 1 3)
      ∷ by 1 (calls.Send 1 false 1 2)
      ∷ by 1 calls.Recv
      ∷ by 1 (calls.Extract 2 3)
      ∷ by 1 (calls.Extract 1 4294967295)
      ∷ by 1 (calls.Extract 1 1)
      ∷ by 1 (calls.Extract 9 99) ∷ []);
  history =
      chain (1 ∷ [])
      ∷ entries.Call 1 1 words.Create (replies.Created 1)
      ∷ of_task 1
      ∷ entries.Call 1 2 words.Send replies.Done
      ∷ chain (1 ∷ 2 ∷ [])
      ∷ account 1 2
      ∷ entries.Call 2 1 words.Recv (replies.Received 1 1 1)
      ∷ entries.Released 3
      ∷ entries.Call 2 2 words.Extract (replies.Content (1 ∷ 0 ∷ 0 ∷ 0 ∷ 2 ∷ 0 ∷ 0 ∷ 0 ∷ []))
      ∷ entries.Call 2 3 words.Extract (replies.Content (1 ∷ 0 ∷ 0 ∷ 0 ∷ 2 ∷ 0 ∷ 0 ∷ 0 ∷ []))
      ∷ entries.Call 1 3 words.Extract (replies.Content [])
      ∷ of_task 1
      ∷ entries.Call 1 4 words.Send replies.Done
      ∷ entries.Call 1 5 words.Recv (replies.Received 1 2 2)
      ∷ entries.Call 1 6 words.Extract (replies.Content (1 ∷ 0 ∷ 0 ∷ 0 ∷ []))
      ∷ entries.Call 1 7 words.Extract (refused (pos 4))
      ∷ entries.Call 1 8 words.Extract (refused (pos 4))
      ∷ entries.Call 1 9 words.Extract (refused (pos 20))
      ∷ entries.Phase ∷ [];
}

-- a list grows to eight tasks, and a task that is the last already is not added again
abbrev pub list_of_eight : Example
list_of_eight = record {
  scenario = scenario (both ∷ both ∷ []) (
      by 1 (calls.Create self)
      ∷ by 1 (calls.Send 1 true 1 0)
      ∷ by 1 calls.Recv
      ∷ by 1 (calls.Send 2 true 2 0)
      ∷ by 2 calls.Recv
      ∷ by 2 (calls.Send 1 true 1 1)
      ∷ by 1 calls.Recv
      ∷ by 1 (calls.Send 2 true 3 2)
      ∷ by 2 calls.Recv
      ∷ by 2 (calls.Send 1 true 2 3)
      ∷ by 1 calls.Recv
      ∷ by 1 (calls.Send 2 true 4 4)
      ∷ by 2 calls.Recv
      ∷ by 2 (calls.Send 1 true 3 5)
      ∷ by 1 calls.Recv
      ∷ by 1 (calls.Send 2 true 5 6)
      ∷ by 2 calls.Recv
      ∷ by 2 (calls.Send 1 true 4 7)
      ∷ by 1 calls.Recv
      ∷ by 1 (calls.Send 2 true 6 8)
      ∷ by 2 calls.Recv
      ∷ by 2 (calls.Extract 5 2)
      ∷ by 1 calls.Assertions
      ∷ by 2 calls.Assertions
      ∷ by 2 (calls.Extern 5 true 1)
      ∷ by 2 calls.Assertions
      ∷ by 1 calls.Assertions ∷ []);
  history =
      chain (1 ∷ [])
      ∷ entries.Call 1 1 words.Create (replies.Created 1)
      ∷ entries.Call 1 2 words.Send replies.Done
      ∷ entries.Call 1 3 words.Recv (replies.Received 1 0 2)
      ∷ entries.Call 1 4 words.Send replies.Done
      ∷ chain (1 ∷ 2 ∷ [])
      ∷ entries.Call 2 1 words.Recv (replies.Received 1 0 1)
      ∷ entries.Released 1
      ∷ entries.Call 2 2 words.Send replies.Done
      ∷ chain (1 ∷ 2 ∷ 1 ∷ [])
      ∷ entries.Call 1 5 words.Recv (replies.Received 2 1 3)
      ∷ entries.Released 6
      ∷ entries.Call 1 6 words.Send replies.Done
      ∷ chain (1 ∷ 2 ∷ 1 ∷ 2 ∷ [])
      ∷ entries.Call 2 3 words.Recv (replies.Received 1 2 2)
      ∷ entries.Released 10
      ∷ entries.Call 2 4 words.Send replies.Done
      ∷ chain (1 ∷ 2 ∷ 1 ∷ 2 ∷ 1 ∷ [])
      ∷ entries.Call 1 7 words.Recv (replies.Received 2 3 4)
      ∷ entries.Released 14
      ∷ entries.Call 1 8 words.Send replies.Done
      ∷ chain (1 ∷ 2 ∷ 1 ∷ 2 ∷ 1 ∷ 2 ∷ [])
      ∷ entries.Call 2 5 words.Recv (replies.Received 1 4 3)
      ∷ entries.Released 18
      ∷ entries.Call 2 6 words.Send replies.Done
      ∷ chain (1 ∷ 2 ∷ 1 ∷ 2 ∷ 1 ∷ 2 ∷ 1 ∷ [])
      ∷ entries.Call 1 9 words.Recv (replies.Received 2 5 5)
      ∷ entries.Released 22
      ∷ entries.Call 1 10 words.Send replies.Done
      ∷ chain (1 ∷ 2 ∷ 1 ∷ 2 ∷ 1 ∷ 2 ∷ 1 ∷ 2 ∷ [])
      ∷ entries.Call 2 7 words.Recv (replies.Received 1 6 4)
      ∷ entries.Released 26
      ∷ entries.Call 2 8 words.Send replies.Done
      ∷ entries.Call 1 11 words.Recv (replies.Received 2 7 6)
      ∷ entries.Call 1 12 words.Send replies.Done
      ∷ entries.Call 2 9 words.Recv (replies.Received 1 8 5)
      ∷ entries.Call 2 10 words.Extract (replies.Content (1 ∷ 0 ∷ 0 ∷ 0 ∷ 2 ∷ 0 ∷ 0 ∷ 0 ∷ 1 ∷ 0 ∷ 0 ∷ 0 ∷ 2 ∷ 0 ∷ 0 ∷
      0 ∷ 1 ∷ 0 ∷ 0 ∷ 0 ∷ 2 ∷ 0 ∷ 0 ∷ 0 ∷ 1 ∷ 0 ∷ 0 ∷ 0 ∷ 2 ∷ 0 ∷ 0 ∷ 0 ∷ []))
      ∷ entries.Call 1 13 words.Assertions (replies.Assertions 0 1)
      ∷ entries.Call 2 11 words.Assertions (replies.Assertions 1 0)
      ∷ entries.Call 2 12 words.Extern replies.Done
      ∷ entries.Call 2 13 words.Assertions (replies.Assertions 2 0)
      ∷ entries.Call 1 14 words.Assertions (replies.Assertions 0 2)
      ∷ entries.Phase ∷ [];
}

-- external counts are of the last task of a list, and a donor counts as one more
abbrev pub counted_by_last : Example
counted_by_last = record {
  scenario = scenario (plain ∷ receiver ∷ donor ∷ receiver ∷ []) (
      by 1 (calls.Create self)
      ∷ by 1 (calls.Send 2 false 1 1)
      ∷ by 2 calls.Recv
      ∷ by 2 (calls.Extern 1 true 3)
      ∷ by 2 calls.Assertions
      ∷ by 1 calls.Assertions
      ∷ by 3 (calls.Create self)
      ∷ by 3 (calls.Send 2 false 1 2)
      ∷ by 2 calls.Recv
      ∷ by 2 (calls.Extern 2 true 5)
      ∷ by 2 calls.Assertions
      ∷ by 3 calls.Assertions
      ∷ by 2 (calls.Send 1 false 1 3)
      ∷ by 1 calls.Recv
      ∷ by 1 (calls.Extern 2 true 1)
      ∷ by 2 (calls.Extern 1 true 0)
      ∷ by 2 (calls.Send 4 false 1 4)
      ∷ by 4 calls.Recv
      ∷ by 2 (calls.Extern 2 false 6)
      ∷ by 4 (calls.Extern 1 true 1)
      ∷ by 4 calls.Assertions
      ∷ by 1 calls.Assertions
      ∷ by 2 calls.Assertions ∷ []);
  history =
      chain (1 ∷ [])
      ∷ entries.Call 1 1 words.Create (replies.Created 1)
      ∷ entries.Call 1 2 words.Send replies.Done
      ∷ chain (1 ∷ 2 ∷ [])
      ∷ entries.Call 2 1 words.Recv (replies.Received 1 1 1)
      ∷ entries.Call 2 2 words.Extern replies.Done
      ∷ entries.Call 2 3 words.Assertions (replies.Assertions 3 0)
      ∷ entries.Call 1 3 words.Assertions (replies.Assertions 0 3)
      ∷ chain (3 ∷ [])
      ∷ entries.Call 3 1 words.Create (replies.Created 1)
      ∷ entries.Call 3 2 words.Send replies.Done
      ∷ chain (3 ∷ 2 ∷ [])
      ∷ entries.Call 2 4 words.Recv (replies.Received 3 2 2)
      ∷ entries.Call 2 5 words.Extern replies.Done
      ∷ entries.Call 2 6 words.Assertions (replies.Assertions 9 0)
      ∷ entries.Call 3 3 words.Assertions (replies.Assertions 0 6)
      ∷ entries.Call 2 7 words.Send replies.Done
      ∷ entries.Call 1 4 words.Recv (replies.Received 2 3 2)
      ∷ entries.Call 1 5 words.Extern (refused (pos 4))
      ∷ entries.Call 2 8 words.Extern replies.Done
      ∷ entries.Call 2 9 words.Send replies.Done
      ∷ chain (1 ∷ 2 ∷ 4 ∷ [])
      ∷ entries.Call 4 1 words.Recv (replies.Received 2 4 1)
      ∷ entries.Call 2 10 words.Extern (refused (pos 5))
      ∷ entries.Call 4 2 words.Extern replies.Done
      ∷ entries.Call 4 3 words.Assertions (replies.Assertions 1 0)
      ∷ entries.Call 1 6 words.Assertions (replies.Assertions 0 4)
      ∷ entries.Call 2 11 words.Assertions (replies.Assertions 9 0)
      ∷ entries.Phase ∷ [];
}

-- an account is charged, released, made again and charged
abbrev pub due_again : Example
due_again = record {
  scenario = scenario (plain ∷ plain ∷ []) (
      by 1 (calls.Create bank)
      ∷ by 1 (calls.Send 2 false 1 1)
      ∷ by 2 calls.Recv
      ∷ by 2 (calls.Charge 1 70)
      ∷ by 2 (calls.GiveUp 1)
      ∷ by 1 calls.Ledger
      ∷ by 1 (calls.Send 2 false 1 2)
      ∷ by 2 calls.Recv
      ∷ by 2 (calls.Charge 2 5)
      ∷ by 2 (calls.Charge 2 0)
      ∷ by 2 calls.Ledger
      ∷ by 1 calls.Ledger
      ∷ by 2 (calls.GiveUp 2)
      ∷ by 1 calls.Ledger
      ∷ by 1 (calls.Send 1 false 1 3)
      ∷ by 1 calls.Recv
      ∷ by 1 (calls.Charge 2 9)
      ∷ by 1 calls.Ledger ∷ []);
  history =
      entries.Call 1 1 words.Create (replies.Created 1)
      ∷ of_task 1
      ∷ entries.Call 1 2 words.Send replies.Done
      ∷ account 1 2
      ∷ entries.Call 2 1 words.Recv (replies.Received 1 1 1)
      ∷ entries.Released 2
      ∷ entries.Call 2 2 words.Charge replies.Done
      ∷ entries.Call 2 3 words.GiveUp replies.Done
      ∷ entries.Released 4
      ∷ entries.Call 1 3 words.Ledger (replies.Ledger 70)
      ∷ of_task 1
      ∷ entries.Call 1 4 words.Send replies.Done
      ∷ account 1 2
      ∷ entries.Call 2 4 words.Recv (replies.Received 1 2 2)
      ∷ entries.Released 11
      ∷ entries.Call 2 5 words.Charge replies.Done
      ∷ entries.Call 2 6 words.Charge replies.Done
      ∷ entries.Call 2 7 words.Ledger (replies.Ledger 0)
      ∷ entries.Call 1 5 words.Ledger (replies.Ledger 70)
      ∷ entries.Call 2 8 words.GiveUp replies.Done
      ∷ entries.Released 13
      ∷ entries.Call 1 6 words.Ledger (replies.Ledger 75)
      ∷ of_task 1
      ∷ entries.Call 1 7 words.Send replies.Done
      ∷ entries.Call 1 8 words.Recv (replies.Received 1 3 2)
      ∷ entries.Call 1 9 words.Charge replies.Done
      ∷ entries.Call 1 10 words.Ledger (replies.Ledger 84)
      ∷ entries.Phase ∷ [];
}

-- a donor that is not the first task of a list gives nothing
abbrev pub donor_that_is_last : Example
donor_that_is_last = record {
  scenario = scenario (plain ∷ both ∷ []) (
      by 1 (calls.Create self)
      ∷ by 1 (calls.Send 2 false 1 1)
      ∷ by 2 calls.Recv
      ∷ by 2 calls.Assertions
      ∷ by 1 calls.Assertions ∷ []);
  history =
      chain (1 ∷ [])
      ∷ entries.Call 1 1 words.Create (replies.Created 1)
      ∷ entries.Call 1 2 words.Send replies.Done
      ∷ chain (1 ∷ 2 ∷ [])
      ∷ entries.Call 2 1 words.Recv (replies.Received 1 1 1)
      ∷ entries.Call 2 2 words.Assertions (replies.Assertions 0 0)
      ∷ entries.Call 1 3 words.Assertions (replies.Assertions 0 0)
      ∷ entries.Phase ∷ [];
}
