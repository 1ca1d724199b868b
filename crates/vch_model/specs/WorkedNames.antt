-- Worked scenarios of names, queues and counts, each with a history.
use Rattle.std.specs.Prelude.{true, false, [], ◌∷◌, ◌++◌, pos, negsuc}
use Rattle.std.specs.List.{repeat}
use Rattle.vch_base.specs.declared.value.Value.TheVariants as values
use Rattle.vch_model.specs.declared.call.Call.TheVariants as calls
use Rattle.vch_model.specs.declared.call.Word.TheVariants as words
use Rattle.vch_model.specs.declared.entry.Entry.TheVariants as entries
use Rattle.vch_model.specs.declared.entry.Reply.TheVariants as replies
use Rattle.vch_model.specs.Replies.{refused}
use Rattle.vch_model.specs.Examples.{Example, ab, account, bank, both, by, cd, chain, donor, made_ab, made_cd, of_task, plain, receiver, record_of, scenario, scenario_2, self}

-- equal vouchers count as one, and messages and Default count
abbrev pub counted_live : Example
counted_live = record {
  scenario = scenario (plain ∷ plain ∷ []) (
      by 1 (calls.Create (ab ++ bank))
      ∷ by 2 (calls.Create (ab ++ bank))
      ∷ by 1 (calls.Send 2 false 1 1)
      ∷ by 1 (calls.Send 2 false 0 2)
      ∷ by 1 calls.Live
      ∷ by 2 calls.Live ∷ []);
  history =
      made_ab
      ∷ entries.Call 1 1 words.Create (replies.Created 1)
      ∷ entries.Call 2 1 words.Create (replies.Created 1)
      ∷ of_task 1
      ∷ entries.Call 1 2 words.Send replies.Done
      ∷ entries.Call 1 3 words.Send replies.Done
      ∷ entries.Call 1 4 words.Live (replies.Live 2 3)
      ∷ entries.Call 2 2 words.Live (replies.Live 2 3)
      ∷ entries.Phase ∷ [];
}

-- a name lives as long as its references: creates, moves, receives and drops
abbrev pub counted_references : Example
counted_references = record {
  scenario = scenario (plain ∷ plain ∷ []) (
      by 1 (calls.Create ab)
      ∷ by 1 (calls.Create ab)
      ∷ by 1 (calls.Create cd)
      ∷ by 1 (calls.Send 2 true 1 1)
      ∷ by 1 (calls.Extract 1 7)
      ∷ by 1 (calls.Send 1 false 1 2)
      ∷ by 1 calls.Recv
      ∷ by 1 (calls.GiveUp 1)
      ∷ by 1 (calls.GiveUp 1)
      ∷ by 1 (calls.GiveUp 1)
      ∷ by 1 (calls.Send 1 true 2 3)
      ∷ by 1 (calls.GiveUp 2)
      ∷ by 1 calls.Recv
      ∷ by 1 (calls.GiveUp 3)
      ∷ by 1 (calls.Send 1 true 0 4)
      ∷ by 1 (calls.GiveUp 1)
      ∷ by 2 (calls.GiveUp 7)
      ∷ by 2 calls.Recv
      ∷ by 2 (calls.Extract 1 7) ∷ []);
  history =
      made_ab
      ∷ entries.Call 1 1 words.Create (replies.Created 1)
      ∷ entries.Call 1 2 words.Create (replies.Created 1)
      ∷ made_cd
      ∷ entries.Call 1 3 words.Create (replies.Created 2)
      ∷ entries.Call 1 4 words.Send replies.Done
      ∷ entries.Call 1 5 words.Extract (replies.Content (97 ∷ 98 ∷ []))
      ∷ entries.Call 1 6 words.Send replies.Done
      ∷ entries.Call 1 7 words.Recv (replies.Received 1 2 1)
      ∷ entries.Call 1 8 words.GiveUp replies.Done
      ∷ entries.Call 1 9 words.GiveUp replies.Done
      ∷ entries.Call 1 10 words.GiveUp (refused (pos 15))
      ∷ entries.Call 1 11 words.Send replies.Done
      ∷ entries.Call 1 12 words.GiveUp (refused (pos 15))
      ∷ entries.Call 1 13 words.Recv (replies.Received 1 3 3)
      ∷ entries.Call 1 14 words.GiveUp replies.Done
      ∷ entries.Released 4
      ∷ entries.Call 1 15 words.Send replies.Done
      ∷ entries.Call 1 16 words.GiveUp (refused (pos 15))
      ∷ entries.Call 2 1 words.GiveUp (refused (pos 15))
      ∷ entries.Call 2 2 words.Recv (replies.Received 1 1 1)
      ∷ entries.Call 2 3 words.Extract (replies.Content (97 ∷ 98 ∷ []))
      ∷ entries.Phase ∷ [];
}

-- an unknown name is refused before a full queue, and a refused move takes nothing
abbrev pub unknown_to_full : Example
unknown_to_full = record {
  scenario = scenario_2 (5 ∷ 1 ∷ []) (
      by 1 (calls.Send 2 false 0 1)
      ∷ by 1 (calls.Send 2 false 9 2)
      ∷ by 1 (calls.Create ab)
      ∷ by 1 (calls.Send 2 true 1 3)
      ∷ by 1 (calls.Extract 1 7) ∷ []);
  history =
      entries.Call 1 1 words.Send replies.Done
      ∷ entries.Call 1 2 words.Send (refused (pos 268435461))
      ∷ made_ab
      ∷ entries.Call 1 3 words.Create (replies.Created 1)
      ∷ entries.Call 1 4 words.Send (refused (pos 268435460))
      ∷ entries.Call 1 5 words.Extract (replies.Content (97 ∷ 98 ∷ []))
      ∷ entries.Phase ∷ [];
}

-- a report with all that a text of version 1 can tell: no bytes, part recipes, a negative code, sums of assertions
abbrev pub told_of_four : Example
told_of_four = record {
  scenario = scenario (donor ∷ receiver ∷ plain ∷ both ∷ []) (
      by 2 (calls.Create [])
      ∷ by 2 (calls.Create ab)
      ∷ by 2 (calls.Send 1 true 1 8)
      ∷ by 1 calls.Recv
      ∷ by 2 calls.Recv
      ∷ by 3 (calls.Create (record_of 7 211 0 []))
      ∷ by 3 (calls.Extract 1 7)
      ∷ by 1 calls.Live
      ∷ by 4 (calls.Create (self ++ bank))
      ∷ by 4 (calls.Send 2 false 1 3)
      ∷ by 2 calls.Recv
      ∷ by 2 (calls.Extern 2 true 2)
      ∷ by 2 (calls.Extern 2 false 1)
      ∷ by 2 (calls.Recipes 2)
      ∷ by 4 (calls.Create (7 ∷ 0 ∷ 0 ∷ 0 ∷ 211 ∷ 0 ∷ 0 ∷ 0 ∷ 0 ∷ 0 ∷ 0 ∷ 0 ∷ 2 ∷ 0 ∷ 0 ∷ 0 ∷ 97 ∷ 98 ∷ repeat 5121
      (0 ∷ [])))
      ∷ by 3 (calls.Send 1 false 0 6) ∷ []);
  history =
      entries.Call 2 1 words.Create (replies.Created 0)
      ∷ made_ab
      ∷ entries.Call 2 2 words.Create (replies.Created 1)
      ∷ entries.Call 2 3 words.Send replies.Done
      ∷ entries.Call 1 1 words.Recv (replies.Received 2 8 1)
      ∷ entries.Call 2 4 words.Recv (refused (pos 268451843))
      ∷ entries.Made 7 (values.User [])
      ∷ entries.Call 3 1 words.Create (replies.Created 1)
      ∷ entries.Call 3 2 words.Extract (replies.Content [])
      ∷ entries.Call 1 2 words.Live (replies.Live 2 3)
      ∷ chain (4 ∷ [])
      ∷ entries.Call 4 1 words.Create (replies.Created 1)
      ∷ of_task 4
      ∷ entries.Call 4 2 words.Send replies.Done
      ∷ chain (4 ∷ 2 ∷ [])
      ∷ account 4 2
      ∷ entries.Call 2 5 words.Recv (replies.Received 4 3 2)
      ∷ entries.Released 13
      ∷ entries.Call 2 6 words.Extern replies.Done
      ∷ entries.Call 2 7 words.Extern replies.Done
      ∷ entries.Call 2 8 words.Recipes (replies.Recipe false [])
      ∷ entries.Call 4 3 words.Create (refused (negsuc 306))
      ∷ entries.Call 3 3 words.Send replies.Done
      ∷ entries.Phase ∷ [];
}

-- a report of an exit
abbrev pub told_of_exit : Example
told_of_exit = record {
  scenario = record {
    version = 2;
    flags = plain ∷ both ∷ [];
    queues = 7 ∷ 2 ∷ [];
    phases = (by 2 (calls.Create ab) ∷ by 2 (calls.Create cd) ∷ by 2 (calls.GiveUp 1) ∷ by 2 calls.Exit ∷ []) ∷ [];
  };
  history =
      made_ab
      ∷ entries.Call 2 1 words.Create (replies.Created 1)
      ∷ made_cd
      ∷ entries.Call 2 2 words.Create (replies.Created 2)
      ∷ entries.Call 2 3 words.GiveUp replies.Done
      ∷ entries.Released 1
      ∷ entries.Gone 2 2
      ∷ entries.Released 3
      ∷ entries.Call 2 4 words.Exit replies.Done
      ∷ entries.Phase ∷ [];
}

-- an exit of the second task gives up its first name
abbrev pub told_of_gone : Example
told_of_gone = record {
  scenario = scenario_2 (5 ∷ 5 ∷ []) (
      by 2 (calls.Create ab)
      ∷ by 2 calls.Exit ∷ []);
  history =
      made_ab
      ∷ entries.Call 2 1 words.Create (replies.Created 1)
      ∷ entries.Gone 2 1
      ∷ entries.Released 1
      ∷ entries.Call 2 2 words.Exit replies.Done
      ∷ entries.Phase ∷ [];
}
