-- Calls that may not be answered out of memory.
use Rattle.std.specs.Prelude.{true, false, [], ◌∷◌, ◌++◌}
use Rattle.vch_model.specs.declared.call.Call.TheVariants as calls
use Rattle.vch_model.specs.declared.call.Word.TheVariants as words
use Rattle.vch_model.specs.declared.entry.Entry.TheVariants as entries
use Rattle.vch_model.specs.declared.entry.Reply.TheVariants as replies
use Rattle.vch_model.specs.Examples.{ab, bank, by, chain, cut, cut_content, made_ab, of_all, plain, record_of, scenario, scenario_2, self, tab}
use Rattle.vch_model.specs.Wants.{Want}

-- no bytes
abbrev pub no_bytes : Want
no_bytes = record {
  scenario = scenario (plain ∷ []) (
      by 1 (calls.Create []) ∷ []);
  history = [];
  task = 1;
  call = (calls.Create []);
}

-- a header that is cut
abbrev pub cut_header : Want
cut_header = record {
  scenario = scenario (plain ∷ []) (
      by 1 (calls.Create cut) ∷ []);
  history = [];
  task = 1;
  call = (calls.Create cut);
}

-- a content that is cut
abbrev pub cut_record : Want
cut_record = record {
  scenario = scenario (plain ∷ []) (
      by 1 (calls.Create (cut_content 0)) ∷ []);
  history = [];
  task = 1;
  call = (calls.Create (cut_content 0));
}

-- an unknown previous voucher
abbrev pub unknown_previous : Want
unknown_previous = record {
  scenario = scenario (plain ∷ []) (
      by 1 (calls.Create (record_of 7 211 9 [])) ∷ []);
  history = [];
  task = 1;
  call = (calls.Create (record_of 7 211 9 []));
}

-- a key without a manager
abbrev pub key_without_manager : Want
key_without_manager = record {
  scenario = scenario (plain ∷ []) (
      by 1 (calls.Create (record_of 99 211 0 [])) ∷ []);
  history = [];
  task = 1;
  call = (calls.Create (record_of 99 211 0 []));
}

-- the key of tests in version 1
abbrev pub test_key_in_version_1 : Want
test_key_in_version_1 = record {
  scenario = scenario (plain ∷ []) (
      by 1 (calls.Create tab) ∷ []);
  history = [];
  task = 1;
  call = (calls.Create tab);
}

-- REDEEM of all keys with content
abbrev pub redeem_all_with_content : Want
redeem_all_with_content = record {
  scenario = scenario (plain ∷ []) (
      by 1 (calls.Create (of_all 10 0 (97 ∷ []))) ∷ []);
  history = [];
  task = 1;
  call = (calls.Create (of_all 10 0 (97 ∷ [])));
}

-- a store at all keys
abbrev pub store_at_all : Want
store_at_all = record {
  scenario = scenario (plain ∷ []) (
      by 1 (calls.Create (of_all 211 0 [])) ∷ []);
  history = [];
  task = 1;
  call = (calls.Create (of_all 211 0 []));
}

-- COPY with content
abbrev pub copy_with_content : Want
copy_with_content = record {
  scenario = scenario (plain ∷ []) (
      by 1 (calls.Create (record_of 7 1 0 (97 ∷ []))) ∷ []);
  history = [];
  task = 1;
  call = (calls.Create (record_of 7 1 0 (97 ∷ [])));
}

-- COPY of a key without a manager
abbrev pub copy_at_key_99 : Want
copy_at_key_99 = record {
  scenario = scenario (plain ∷ []) (
      by 1 (calls.Create ab)
      ∷ by 1 (calls.Create (record_of 99 1 1 [])) ∷ []);
  history =
      made_ab
      ∷ entries.Call 1 1 words.Create (replies.Created 1) ∷ [];
  task = 1;
  call = (calls.Create (record_of 99 1 1 []));
}

-- a code before a record that asks
abbrev pub code_before_asking : Want
code_before_asking = record {
  scenario = scenario (plain ∷ []) (
      by 1 (calls.Create (record_of 7 3 0 [] ++ ab)) ∷ []);
  history = [];
  task = 1;
  call = (calls.Create (record_of 7 3 0 [] ++ ab));
}

-- `extract` at an unmanaged key
abbrev pub extract_unmanaged : Want
extract_unmanaged = record {
  scenario = scenario (plain ∷ []) (
      by 1 (calls.Create ab)
      ∷ by 1 (calls.Extract 1 8) ∷ []);
  history =
      made_ab
      ∷ entries.Call 1 1 words.Create (replies.Created 1) ∷ [];
  task = 1;
  call = (calls.Extract 1 8);
}

-- `recipes` of an unknown name
abbrev pub recipes_of_unknown : Want
recipes_of_unknown = record {
  scenario = scenario (plain ∷ []) (
      by 1 (calls.Recipes 1) ∷ []);
  history = [];
  task = 1;
  call = (calls.Recipes 1);
}

-- a send to no task
abbrev pub send_to_no_task : Want
send_to_no_task = record {
  scenario = scenario (plain ∷ []) (
      by 1 (calls.Create bank)
      ∷ by 1 (calls.Send 2 false 1 1) ∷ []);
  history =
      entries.Call 1 1 words.Create (replies.Created 1) ∷ [];
  task = 1;
  call = (calls.Send 2 false 1 1);
}

-- a send of an unknown name
abbrev pub send_of_unknown : Want
send_of_unknown = record {
  scenario = scenario (plain ∷ []) (
      by 1 (calls.Send 1 false 1 1) ∷ []);
  history = [];
  task = 1;
  call = (calls.Send 1 false 1 1);
}

-- a send of a list to a full queue
abbrev pub send_of_list_to_full : Want
send_of_list_to_full = record {
  scenario = scenario_2 (1 ∷ []) (
      by 1 (calls.Create self)
      ∷ by 1 (calls.Send 1 false 0 1)
      ∷ by 1 (calls.Send 1 false 1 2) ∷ []);
  history =
      chain (1 ∷ [])
      ∷ entries.Call 1 1 words.Create (replies.Created 1)
      ∷ entries.Call 1 2 words.Send replies.Done ∷ [];
  task = 1;
  call = (calls.Send 1 false 1 2);
}

-- a receive from an empty queue
abbrev pub recv_from_empty : Want
recv_from_empty = record {
  scenario = scenario (plain ∷ []) (
      by 1 calls.Recv ∷ []);
  history = [];
  task = 1;
  call = calls.Recv;
}

-- a receive whose first message has no voucher
abbrev pub recv_of_bare_first : Want
recv_of_bare_first = record {
  scenario = scenario (plain ∷ []) (
      by 1 (calls.Create ab)
      ∷ by 1 (calls.Send 1 false 0 1)
      ∷ by 1 (calls.Send 1 false 1 2)
      ∷ by 1 calls.Recv ∷ []);
  history =
      made_ab
      ∷ entries.Call 1 1 words.Create (replies.Created 1)
      ∷ entries.Call 1 2 words.Send replies.Done
      ∷ entries.Call 1 3 words.Send replies.Done ∷ [];
  task = 1;
  call = calls.Recv;
}

-- `ledger`
abbrev pub ledger : Want
ledger = record {
  scenario = scenario (plain ∷ []) (
      by 1 calls.Ledger ∷ []);
  history = [];
  task = 1;
  call = calls.Ledger;
}

-- `live`
abbrev pub live : Want
live = record {
  scenario = scenario (plain ∷ []) (
      by 1 calls.Live ∷ []);
  history = [];
  task = 1;
  call = calls.Live;
}

-- `assertions`
abbrev pub assertions : Want
assertions = record {
  scenario = scenario (plain ∷ []) (
      by 1 calls.Assertions ∷ []);
  history = [];
  task = 1;
  call = calls.Assertions;
}

-- `charge`
abbrev pub charge : Want
charge = record {
  scenario = scenario (plain ∷ []) (
      by 1 (calls.Charge 1 1) ∷ []);
  history = [];
  task = 1;
  call = (calls.Charge 1 1);
}

-- `extern`
abbrev pub extern : Want
extern = record {
  scenario = scenario (plain ∷ []) (
      by 1 (calls.Extern 1 true 1) ∷ []);
  history = [];
  task = 1;
  call = (calls.Extern 1 true 1);
}
