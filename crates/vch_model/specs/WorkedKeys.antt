-- Worked scenarios of records, key by key, each with a history.
use Rattle.std.specs.Prelude.{false, [], ◌∷◌, ◌++◌, pos}
use Rattle.vch_base.specs.declared.value.Value.TheVariants as values
use Rattle.vch_model.specs.declared.call.Call.TheVariants as calls
use Rattle.vch_model.specs.declared.call.Word.TheVariants as words
use Rattle.vch_model.specs.declared.entry.Entry.TheVariants as entries
use Rattle.vch_model.specs.declared.entry.Reply.TheVariants as replies
use Rattle.vch_model.specs.Replies.{refused}
use Rattle.vch_model.specs.Examples.{Example, ab, bank, by, chain, clear, copy_all, made_ab, made_tab, of_all, plain, record_of, scenario, scenario_2, self, tab}

-- COPY of nothing, REMOVE and REDEEM of one key and of all, NOOP, and the codes of records, in version 1
abbrev pub records_in_version_1 : Example
records_in_version_1 = record {
  scenario = scenario (plain ∷ []) (
      by 1 (calls.Create ab)
      ∷ by 1 (calls.Create self)
      ∷ by 1 (calls.Create (ab ++ of_all 1 2 []))
      ∷ by 1 (calls.Create (ab ++ record_of 7 1 2 []))
      ∷ by 1 (calls.Create (self ++ record_of 2 2 0 []))
      ∷ by 1 (calls.Create (bank ++ record_of 3 2 0 []))
      ∷ by 1 (calls.Create (record_of 7 0 1 []))
      ∷ by 1 (calls.Create (of_all 0 1 []))
      ∷ by 1 (calls.Create (record_of 8 0 0 []))
      ∷ by 1 (calls.Create (record_of 8 1 1 []))
      ∷ by 1 (calls.Create (record_of 99 2 1 []))
      ∷ by 1 (calls.Create (record_of 2 10 2 []))
      ∷ by 1 (calls.Create (record_of 3 10 1 []))
      ∷ by 1 (calls.Create (ab ++ record_of 7 10 2 []))
      ∷ by 1 (calls.Create (ab ++ of_all 10 0 []))
      ∷ by 1 (calls.Create (record_of 7 1 9 []))
      ∷ by 1 (calls.Create (record_of 7 10 9 []))
      ∷ by 1 (calls.Create (7 ∷ 0 ∷ 0 ∷ 0 ∷ 211 ∷ 0 ∷ 0 ∷ 0 ∷ 255 ∷ 255 ∷ 255 ∷ 255 ∷ 0 ∷ 0 ∷ 0 ∷ 0 ∷ []))
      ∷ by 1 (calls.Create (record_of 7 6 0 []))
      ∷ by 1 (calls.Create (record_of 7 9 0 []))
      ∷ by 1 (calls.Create (record_of 99 6 0 []))
      ∷ by 1 (calls.Create (record_of 7 610 0 []))
      ∷ by 1 (calls.Create (record_of 3 211 0 []))
      ∷ by 1 (calls.Create (record_of 3 200 0 []))
      ∷ by 1 (calls.Create (record_of 2 610 0 []))
      ∷ by 1 (calls.Create (record_of 0 0 0 []))
      ∷ by 1 (calls.Create bank)
      ∷ by 1 (calls.Create (record_of 3 1 4 []))
      ∷ by 1 (calls.Create (record_of 7 211 1 (120 ∷ [])))
      ∷ by 1 (calls.Create (record_of 8 211 0 [])) ∷ []);
  history =
      made_ab
      ∷ entries.Call 1 1 words.Create (replies.Created 1)
      ∷ chain (1 ∷ [])
      ∷ entries.Call 1 2 words.Create (replies.Created 2)
      ∷ entries.Call 1 3 words.Create (replies.Created 2)
      ∷ entries.Call 1 4 words.Create (replies.Created 3)
      ∷ entries.Call 1 5 words.Create (replies.Created 3)
      ∷ entries.Call 1 6 words.Create (replies.Created 3)
      ∷ entries.Call 1 7 words.Create (replies.Created 3)
      ∷ entries.Call 1 8 words.Create (replies.Created 3)
      ∷ entries.Call 1 9 words.Create (replies.Created 3)
      ∷ entries.Call 1 10 words.Create (refused (pos 4))
      ∷ entries.Call 1 11 words.Create (refused (pos 4))
      ∷ entries.Call 1 12 words.Create (replies.Created 2)
      ∷ entries.Call 1 13 words.Create (replies.Created 3)
      ∷ entries.Call 1 14 words.Create (replies.Created 3)
      ∷ entries.Call 1 15 words.Create (replies.Created 1)
      ∷ entries.Call 1 16 words.Create (refused (pos 20))
      ∷ entries.Call 1 17 words.Create (refused (pos 20))
      ∷ entries.Call 1 18 words.Create (refused (pos 20))
      ∷ entries.Call 1 19 words.Create (refused (pos 4))
      ∷ entries.Call 1 20 words.Create (refused (pos 4))
      ∷ entries.Call 1 21 words.Create (refused (pos 4))
      ∷ entries.Call 1 22 words.Create (refused (pos 4))
      ∷ entries.Call 1 23 words.Create (refused (pos 4))
      ∷ entries.Call 1 24 words.Create (refused (pos 4))
      ∷ entries.Call 1 25 words.Create (refused (pos 4))
      ∷ entries.Call 1 26 words.Create (replies.Created 3)
      ∷ entries.Call 1 27 words.Create (replies.Created 4)
      ∷ entries.Call 1 28 words.Create (replies.Created 4)
      ∷ entries.Made 7 (values.User (120 ∷ []))
      ∷ entries.Call 1 29 words.Create (replies.Created 5)
      ∷ entries.Call 1 30 words.Create (refused (pos 4))
      ∷ entries.Phase ∷ [];
}

-- the same at the key of tests
abbrev pub records_in_version_2 : Example
records_in_version_2 = record {
  scenario = scenario_2 (5 ∷ 5 ∷ []) (
      by 1 (calls.Create (tab ++ ab))
      ∷ by 1 (calls.Create copy_all)
      ∷ by 1 (calls.Create (tab ++ clear))
      ∷ by 1 (calls.Create (tab ++ record_of 8 2 0 []))
      ∷ by 1 (calls.Create (record_of 8 10 1 []))
      ∷ by 1 (calls.Create (record_of 8 1 1 []))
      ∷ by 1 (calls.Create (tab ++ of_all 2 1 []))
      ∷ by 1 (calls.Create (record_of 8 200 0 []))
      ∷ by 1 (calls.Create (record_of 8 610 0 []))
      ∷ by 1 (calls.Send 2 false 1 1)
      ∷ by 2 calls.Recv
      ∷ by 2 (calls.Extract 1 8)
      ∷ by 2 (calls.Extract 1 7) ∷ []);
  history =
      made_tab
      ∷ made_ab
      ∷ entries.Call 1 1 words.Create (replies.Created 1)
      ∷ entries.Call 1 2 words.Create (replies.Created 1)
      ∷ entries.Call 1 3 words.Create (replies.Created 2)
      ∷ entries.Call 1 4 words.Create (replies.Created 2)
      ∷ entries.Call 1 5 words.Create (replies.Created 3)
      ∷ entries.Call 1 6 words.Create (replies.Created 3)
      ∷ entries.Call 1 7 words.Create (replies.Created 2)
      ∷ entries.Call 1 8 words.Create (refused (pos 4))
      ∷ entries.Call 1 9 words.Create (refused (pos 4))
      ∷ entries.Call 1 10 words.Send replies.Done
      ∷ entries.Call 2 1 words.Recv (replies.Received 1 1 1)
      ∷ entries.Call 2 2 words.Extract (replies.Content (97 ∷ 98 ∷ []))
      ∷ entries.Call 2 3 words.Extract (replies.Content (97 ∷ 98 ∷ []))
      ∷ entries.Phase ∷ [];
}
