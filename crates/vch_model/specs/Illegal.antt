-- Histories that are not legal: a legal one, and an entry that may not follow it.
use Rattle.std.specs.Prelude.{true, false, List, [], ◌∷◌}
use Rattle.std.specs.List.{repeat}
use Rattle.vch_base.specs.declared.value.Value.TheVariants as values
use Rattle.vch_base.specs.declared.codes.TheConstants.{KERN_RESOURCE_SHORTAGE}
use Rattle.vch_model.specs.declared.call.Call.TheVariants as calls
use Rattle.vch_model.specs.declared.call.Word.TheVariants as words
use Rattle.vch_model.specs.declared.entry.Entry.TheVariants as entries
use Rattle.vch_model.specs.declared.entry.Entry.{Entry}
use Rattle.vch_model.specs.declared.lists.Scenario.{Scenario}
use Rattle.vch_model.specs.declared.entry.Reply.TheVariants as replies
use Rattle.vch_model.specs.Replies.{refused}
use Rattle.vch_model.specs.Examples.{record_of, ab, cd, tab, self, bank, by, plain, donor, receiver, scenario, scenario_2, made_ab, made_cd, made_tab, chain, of_task, phased}

pub record Wrong : Type 0 where
  pub scenario : Scenario
  pub history : List Entry
  pub entry : Entry

-- a release while a name has the value
abbrev pub released_while_named : Wrong
released_while_named = record {
  scenario = scenario (plain ∷ []) (
      by 1 (calls.Create ab)
      ∷ by 1 (calls.GiveUp 1) ∷ []);
  history =
      made_ab
      ∷ entries.Call 1 1 words.Create (replies.Created 1) ∷ [];
  entry = entries.Released 1;
}

-- a release while a queued message has the value
abbrev pub released_while_queued : Wrong
released_while_queued = record {
  scenario = scenario (plain ∷ plain ∷ []) (
      by 1 (calls.Create ab)
      ∷ by 1 (calls.Send 2 true 1 1)
      ∷ by 2 calls.Recv ∷ []);
  history =
      made_ab
      ∷ entries.Call 1 1 words.Create (replies.Created 1)
      ∷ entries.Call 1 2 words.Send replies.Done ∷ [];
  entry = entries.Released 1;
}

-- a second release of one Made entry
abbrev pub released_twice : Wrong
released_twice = record {
  scenario = scenario (plain ∷ []) (
      by 1 (calls.Create ab)
      ∷ by 1 (calls.GiveUp 1)
      ∷ by 1 calls.Live ∷ []);
  history =
      made_ab
      ∷ entries.Call 1 1 words.Create (replies.Created 1)
      ∷ entries.Call 1 2 words.GiveUp replies.Done
      ∷ entries.Released 1 ∷ [];
  entry = entries.Released 1;
}

-- a release of an entry that made no value
abbrev pub released_call : Wrong
released_call = record {
  scenario = scenario (plain ∷ []) (
      by 1 (calls.Create ab)
      ∷ by 1 (calls.GiveUp 1)
      ∷ by 1 calls.Live ∷ []);
  history =
      made_ab
      ∷ entries.Call 1 1 words.Create (replies.Created 1) ∷ [];
  entry = entries.Released 2;
}

-- a second Made of a live value
abbrev pub made_twice : Wrong
made_twice = record {
  scenario = scenario (plain ∷ []) (
      by 1 (calls.Create ab) ∷ []);
  history =
      made_ab ∷ [];
  entry = made_ab;
}

-- a Made of Default, which is live always
abbrev pub made_default : Wrong
made_default = record {
  scenario = scenario (plain ∷ []) (
      by 1 (calls.Create bank) ∷ []);
  history = [];
  entry = entries.Made 3 values.Default;
}

-- a list with a task that the scenario doesn't have
abbrev pub made_of_no_task : Wrong
made_of_no_task = record {
  scenario = scenario (plain ∷ plain ∷ []) (
      by 1 (calls.Create self) ∷ []);
  history = [];
  entry = chain (3 ∷ []);
}

-- a list of nine tasks
abbrev pub made_of_nine : Wrong
made_of_nine = record {
  scenario = scenario (plain ∷ []) (
      by 1 (calls.Create self) ∷ []);
  history = [];
  entry = chain (1 ∷ 1 ∷ 1 ∷ 1 ∷ 1 ∷ 1 ∷ 1 ∷ 1 ∷ 1 ∷ []);
}

-- user data at the key of the bank
abbrev pub made_at_other_key : Wrong
made_at_other_key = record {
  scenario = scenario (plain ∷ []) (
      by 1 (calls.Create ab) ∷ []);
  history = [];
  entry = entries.Made 3 (values.User []);
}

-- a value at key 8 in version 1
abbrev pub made_8_in_version_1 : Wrong
made_8_in_version_1 = record {
  scenario = scenario (plain ∷ []) (
      by 1 (calls.Create tab) ∷ []);
  history = [];
  entry = made_tab;
}

-- a Phase while a live value isn't held
abbrev pub phase_with_unheld : Wrong
phase_with_unheld = record {
  scenario = scenario (plain ∷ []) (
      by 1 (calls.Create ab)
      ∷ by 1 (calls.GiveUp 1) ∷ []);
  history =
      made_ab
      ∷ entries.Call 1 1 words.Create (replies.Created 1)
      ∷ entries.Call 1 2 words.GiveUp replies.Done ∷ [];
  entry = entries.Phase;
}

-- a Phase before a call of the phase
abbrev pub phase_before_call : Wrong
phase_before_call = record {
  scenario = scenario (plain ∷ []) (
      by 1 (calls.Create []) ∷ []);
  history = [];
  entry = entries.Phase;
}

-- a Phase where all phases have ended
abbrev pub phase_too_many : Wrong
phase_too_many = record {
  scenario = scenario (plain ∷ []) (
      by 1 (calls.Create []) ∷ []);
  history =
      entries.Call 1 1 words.Create (replies.Created 0)
      ∷ entries.Phase ∷ [];
  entry = entries.Phase;
}

-- a call of a phase that hasn't begun
abbrev pub call_of_next_phase : Wrong
call_of_next_phase = record {
  scenario = phased (plain ∷ []) (
      (by 1 (calls.Create []) ∷ [])
      ∷ (by 1 calls.Live ∷ []) ∷ []);
  history =
      entries.Call 1 1 words.Create (replies.Created 0) ∷ [];
  entry = entries.Call 1 2 words.Live (replies.Live 0 1);
}

-- the first call of a task for a second time
abbrev pub call_twice : Wrong
call_twice = record {
  scenario = scenario (plain ∷ []) (
      by 1 (calls.Create [])
      ∷ by 1 calls.Live ∷ []);
  history =
      entries.Call 1 1 words.Create (replies.Created 0) ∷ [];
  entry = entries.Call 1 1 words.Create (replies.Created 0);
}

-- a call with another word
abbrev pub other_word : Wrong
other_word = record {
  scenario = scenario (plain ∷ []) (
      by 1 calls.Live ∷ []);
  history = [];
  entry = entries.Call 1 1 words.Ledger (replies.Ledger 0);
}

-- a drop that is out of memory
abbrev pub drop_out_of_memory : Wrong
drop_out_of_memory = record {
  scenario = scenario (plain ∷ []) (
      by 1 (calls.Create ab)
      ∷ by 1 (calls.GiveUp 1) ∷ []);
  history =
      made_ab
      ∷ entries.Call 1 1 words.Create (replies.Created 1) ∷ [];
  entry = entries.Call 1 2 words.GiveUp (refused KERN_RESOURCE_SHORTAGE);
}

-- an exit that is out of memory
abbrev pub exit_out_of_memory : Wrong
exit_out_of_memory = record {
  scenario = scenario_2 (5 ∷ []) (
      by 1 calls.Exit ∷ []);
  history = [];
  entry = entries.Call 1 1 words.Exit (refused KERN_RESOURCE_SHORTAGE);
}

-- a create of 5,121 bytes that is out of memory
abbrev pub long_create_out_of_memory : Wrong
long_create_out_of_memory = record {
  scenario = scenario (plain ∷ []) (
      by 1 (calls.Create (repeat 5121 (0 ∷ []))) ∷ []);
  history = [];
  entry = entries.Call 1 1 words.Create (refused KERN_RESOURCE_SHORTAGE);
}

-- a create that is refused before a manager is asked, and is out of memory
abbrev pub refused_create_out_of_memory : Wrong
refused_create_out_of_memory = record {
  scenario = scenario (plain ∷ []) (
      by 1 (calls.Create (record_of 7 3 0 [])) ∷ []);
  history = [];
  entry = entries.Call 1 1 words.Create (refused KERN_RESOURCE_SHORTAGE);
}

-- a send to a full queue, of a voucher without a bank value, that is out of memory
abbrev pub full_send_out_of_memory : Wrong
full_send_out_of_memory = record {
  scenario = scenario_2 (1 ∷ []) (
      by 1 (calls.Create ab)
      ∷ by 1 (calls.Send 1 false 0 1)
      ∷ by 1 (calls.Send 1 false 1 2) ∷ []);
  history =
      made_ab
      ∷ entries.Call 1 1 words.Create (replies.Created 1)
      ∷ entries.Call 1 2 words.Send replies.Done ∷ [];
  entry = entries.Call 1 3 words.Send (refused KERN_RESOURCE_SHORTAGE);
}

-- a receive of a message without a voucher that is out of memory
abbrev pub bare_receive_out_of_memory : Wrong
bare_receive_out_of_memory = record {
  scenario = scenario (plain ∷ []) (
      by 1 (calls.Send 1 false 0 1)
      ∷ by 1 calls.Recv ∷ []);
  history =
      entries.Call 1 1 words.Send replies.Done ∷ [];
  entry = entries.Call 1 2 words.Recv (refused KERN_RESOURCE_SHORTAGE);
}

-- a send without a voucher that is out of memory
abbrev pub bare_send_out_of_memory : Wrong
bare_send_out_of_memory = record {
  scenario = scenario (plain ∷ []) (
      by 1 (calls.Send 1 false 0 1) ∷ []);
  history = [];
  entry = entries.Call 1 1 words.Send (refused KERN_RESOURCE_SHORTAGE);
}

-- an extract of an unknown name that is out of memory
abbrev pub unknown_extract_out_of_memory : Wrong
unknown_extract_out_of_memory = record {
  scenario = scenario (plain ∷ []) (
      by 1 (calls.Extract 1 7) ∷ []);
  history = [];
  entry = entries.Call 1 1 words.Extract (refused KERN_RESOURCE_SHORTAGE);
}

-- a receive of the second message
abbrev pub received_out_of_order : Wrong
received_out_of_order = record {
  scenario = scenario (plain ∷ []) (
      by 1 (calls.Send 1 false 0 1)
      ∷ by 1 (calls.Send 1 false 0 2)
      ∷ by 1 calls.Recv ∷ []);
  history =
      entries.Call 1 1 words.Send replies.Done
      ∷ entries.Call 1 2 words.Send replies.Done ∷ [];
  entry = entries.Call 1 3 words.Recv (replies.Received 1 2 0);
}

-- a send that goes past the limit of a queue
abbrev pub sent_past_limit : Wrong
sent_past_limit = record {
  scenario = scenario_2 (1 ∷ []) (
      by 1 (calls.Send 1 false 0 1)
      ∷ by 1 (calls.Send 1 false 0 2) ∷ []);
  history =
      entries.Call 1 1 words.Send replies.Done ∷ [];
  entry = entries.Call 1 2 words.Send replies.Done;
}

-- an external count above the largest number of four bytes
abbrev pub counted_past_bound : Wrong
counted_past_bound = record {
  scenario = scenario (donor ∷ receiver ∷ []) (
      by 1 (calls.Create self)
      ∷ by 1 (calls.Send 2 false 1 5)
      ∷ by 2 calls.Recv
      ∷ by 2 (calls.Extern 1 true 4294967295)
      ∷ by 2 (calls.Extern 1 true 1) ∷ []);
  history =
      chain (1 ∷ [])
      ∷ entries.Call 1 1 words.Create (replies.Created 1)
      ∷ entries.Call 1 2 words.Send replies.Done
      ∷ chain (1 ∷ 2 ∷ [])
      ∷ entries.Call 2 1 words.Recv (replies.Received 1 5 1)
      ∷ entries.Call 2 2 words.Extern replies.Done ∷ [];
  entry = entries.Call 2 3 words.Extern replies.Done;
}

-- a second name for an equal voucher
abbrev pub second_name : Wrong
second_name = record {
  scenario = scenario (plain ∷ []) (
      by 1 (calls.Create ab)
      ∷ by 1 (calls.Create ab) ∷ []);
  history =
      made_ab
      ∷ entries.Call 1 1 words.Create (replies.Created 1) ∷ [];
  entry = entries.Call 1 2 words.Create (replies.Created 2);
}

-- a voucher of a value that isn't live
abbrev pub created_unmade : Wrong
created_unmade = record {
  scenario = scenario (plain ∷ []) (
      by 1 (calls.Create ab) ∷ []);
  history = [];
  entry = entries.Call 1 1 words.Create (replies.Created 1);
}

-- a charge on Default, which is of no task
abbrev pub charged_default : Wrong
charged_default = record {
  scenario = scenario (plain ∷ plain ∷ plain ∷ []) (
      by 1 (calls.Create bank)
      ∷ by 1 (calls.Send 2 false 1 1)
      ∷ by 1 (calls.Charge 1 1) ∷ []);
  history =
      entries.Call 1 1 words.Create (replies.Created 1)
      ∷ of_task 1
      ∷ entries.Call 1 2 words.Send replies.Done ∷ [];
  entry = entries.Call 1 3 words.Charge replies.Done;
}

-- an exit gives up a name that isn't the lowest
abbrev pub gone_not_lowest : Wrong
gone_not_lowest = record {
  scenario = scenario_2 (5 ∷ []) (
      by 1 (calls.Create ab)
      ∷ by 1 (calls.Create cd)
      ∷ by 1 calls.Exit ∷ []);
  history =
      made_ab
      ∷ entries.Call 1 1 words.Create (replies.Created 1)
      ∷ made_cd
      ∷ entries.Call 1 2 words.Create (replies.Created 2) ∷ [];
  entry = entries.Gone 1 2;
}

-- an exit gives up a name that isn't there
abbrev pub gone_unknown : Wrong
gone_unknown = record {
  scenario = scenario_2 (5 ∷ []) (
      by 1 calls.Exit ∷ []);
  history = [];
  entry = entries.Gone 1 1;
}

-- a name is given up where the next line is no exit
abbrev pub gone_without_exit : Wrong
gone_without_exit = record {
  scenario = scenario_2 (5 ∷ []) (
      by 1 (calls.Create ab)
      ∷ by 1 (calls.GiveUp 1) ∷ []);
  history =
      made_ab
      ∷ entries.Call 1 1 words.Create (replies.Created 1) ∷ [];
  entry = entries.Gone 1 1;
}

-- a message is given up while a name is left
abbrev pub lost_while_named : Wrong
lost_while_named = record {
  scenario = scenario_2 (5 ∷ []) (
      by 1 (calls.Create ab)
      ∷ by 1 (calls.Send 1 false 0 1)
      ∷ by 1 calls.Exit ∷ []);
  history =
      made_ab
      ∷ entries.Call 1 1 words.Create (replies.Created 1)
      ∷ entries.Call 1 2 words.Send replies.Done ∷ [];
  entry = entries.Lost 1;
}

-- a message is given up where there is none
abbrev pub lost_of_none : Wrong
lost_of_none = record {
  scenario = scenario_2 (5 ∷ []) (
      by 1 calls.Exit ∷ []);
  history = [];
  entry = entries.Lost 1;
}

-- an exit is answered while a name is left
abbrev pub left_with_name : Wrong
left_with_name = record {
  scenario = scenario_2 (5 ∷ []) (
      by 1 (calls.Create ab)
      ∷ by 1 calls.Exit ∷ []);
  history =
      made_ab
      ∷ entries.Call 1 1 words.Create (replies.Created 1) ∷ [];
  entry = entries.Call 1 2 words.Exit replies.Done;
}

-- an exit is answered while a message is left
abbrev pub left_with_message : Wrong
left_with_message = record {
  scenario = scenario_2 (5 ∷ []) (
      by 1 (calls.Create ab)
      ∷ by 1 (calls.Send 1 false 0 1)
      ∷ by 1 calls.Exit ∷ []);
  history =
      made_ab
      ∷ entries.Call 1 1 words.Create (replies.Created 1)
      ∷ entries.Call 1 2 words.Send replies.Done
      ∷ entries.Gone 1 1
      ∷ entries.Released 1 ∷ [];
  entry = entries.Call 1 3 words.Exit replies.Done;
}
