-- Further histories that are not legal: a legal one, and an entry that may not follow it.
use Rattle.std.specs.Prelude.{false, [], ◌∷◌, ◌++◌}
use Rattle.vch_base.specs.declared.value.Value.TheVariants as values
use Rattle.vch_model.specs.declared.call.Call.TheVariants as calls
use Rattle.vch_model.specs.declared.call.Word.TheVariants as words
use Rattle.vch_model.specs.declared.entry.Entry.TheVariants as entries
use Rattle.vch_model.specs.declared.entry.Reply.TheVariants as replies
use Rattle.vch_model.specs.Examples.{ab, account, bank, by, chain, made_ab, made_tab, of_task, phased, plain, receiver, scenario, scenario_2, self, tab}
use Rattle.vch_model.specs.Illegal.{Wrong}

-- a send whose value was not made
abbrev pub sent_unmade : Wrong
sent_unmade = record {
  scenario = scenario (plain ∷ plain ∷ []) (
      by 1 (calls.Create bank)
      ∷ by 1 (calls.Send 2 false 1 1) ∷ []);
  history =
      entries.Call 1 1 words.Create (replies.Created 1) ∷ [];
  entry = entries.Call 1 2 words.Send replies.Done;
}

-- a receive whose account was not made
abbrev pub received_unmade_account : Wrong
received_unmade_account = record {
  scenario = scenario (plain ∷ plain ∷ []) (
      by 1 (calls.Create bank)
      ∷ by 1 (calls.Send 2 false 1 1)
      ∷ by 2 calls.Recv ∷ []);
  history =
      entries.Call 1 1 words.Create (replies.Created 1)
      ∷ of_task 1
      ∷ entries.Call 1 2 words.Send replies.Done ∷ [];
  entry = entries.Call 2 1 words.Recv (replies.Received 1 1 1);
}

-- a receive whose list was not made
abbrev pub received_unmade_list : Wrong
received_unmade_list = record {
  scenario = scenario (plain ∷ receiver ∷ []) (
      by 1 (calls.Create self)
      ∷ by 1 (calls.Send 2 false 1 1)
      ∷ by 2 calls.Recv ∷ []);
  history =
      chain (1 ∷ [])
      ∷ entries.Call 1 1 words.Create (replies.Created 1)
      ∷ entries.Call 1 2 words.Send replies.Done ∷ [];
  entry = entries.Call 2 1 words.Recv (replies.Received 1 1 1);
}

-- a create whose second value was not made
abbrev pub created_unmade_test : Wrong
created_unmade_test = record {
  scenario = scenario_2 (5 ∷ []) (
      by 1 (calls.Create (tab ++ ab)) ∷ []);
  history =
      made_ab ∷ [];
  entry = entries.Call 1 1 words.Create (replies.Created 1);
}

-- a create whose first value was not made
abbrev pub created_unmade_list : Wrong
created_unmade_list = record {
  scenario = scenario (plain ∷ []) (
      by 1 (calls.Create (self ++ ab)) ∷ []);
  history =
      made_ab ∷ [];
  entry = entries.Call 1 1 words.Create (replies.Created 1);
}

-- a Phase with user data that another key holds
abbrev pub phase_with_unheld_test : Wrong
phase_with_unheld_test = record {
  scenario = scenario_2 (5 ∷ []) (
      by 1 (calls.Create ab)
      ∷ by 1 calls.Live ∷ []);
  history =
      made_ab
      ∷ made_tab
      ∷ entries.Call 1 1 words.Create (replies.Created 1)
      ∷ entries.Call 1 2 words.Live (replies.Live 1 3) ∷ [];
  entry = entries.Phase;
}

-- a list whose second task is none
abbrev pub made_of_no_second : Wrong
made_of_no_second = record {
  scenario = scenario (plain ∷ plain ∷ []) (
      by 1 calls.Live ∷ []);
  history = [];
  entry = chain (1 ∷ 3 ∷ []);
}

-- a list whose first task is none
abbrev pub made_of_no_first : Wrong
made_of_no_first = record {
  scenario = scenario (plain ∷ plain ∷ []) (
      by 1 calls.Live ∷ []);
  history = [];
  entry = chain (3 ∷ 1 ∷ []);
}

-- an account of no merchant
abbrev pub made_of_no_merchant : Wrong
made_of_no_merchant = record {
  scenario = scenario (plain ∷ plain ∷ []) (
      by 1 calls.Live ∷ []);
  history = [];
  entry = account 1 3;
}

-- an account of no holder
abbrev pub made_of_no_holder : Wrong
made_of_no_holder = record {
  scenario = scenario (plain ∷ plain ∷ []) (
      by 1 calls.Live ∷ []);
  history = [];
  entry = account 3 1;
}

-- the bank value of no task
abbrev pub made_of_task_3 : Wrong
made_of_task_3 = record {
  scenario = scenario (plain ∷ plain ∷ []) (
      by 1 calls.Live ∷ []);
  history = [];
  entry = of_task 3;
}

-- a Phase before a call of the last task
abbrev pub phase_before_second : Wrong
phase_before_second = record {
  scenario = scenario (plain ∷ plain ∷ []) (
      by 1 calls.Live
      ∷ by 2 calls.Live ∷ []);
  history =
      entries.Call 1 1 words.Live (replies.Live 0 1) ∷ [];
  entry = entries.Phase;
}

-- a Phase before a call of the first task
abbrev pub phase_before_first : Wrong
phase_before_first = record {
  scenario = scenario (plain ∷ plain ∷ []) (
      by 1 calls.Live
      ∷ by 2 calls.Live ∷ []);
  history =
      entries.Call 2 1 words.Live (replies.Live 0 1) ∷ [];
  entry = entries.Phase;
}

-- a Phase that is not the last, with an unheld value
abbrev pub first_phase_with_unheld : Wrong
first_phase_with_unheld = record {
  scenario = phased (plain ∷ []) (
      (by 1 (calls.Create ab) ∷ by 1 (calls.GiveUp 1) ∷ [])
      ∷ (by 1 calls.Live ∷ []) ∷ []);
  history =
      made_ab
      ∷ entries.Call 1 1 words.Create (replies.Created 1)
      ∷ entries.Call 1 2 words.GiveUp replies.Done ∷ [];
  entry = entries.Phase;
}

-- a call with the number of the one before
abbrev pub number_again : Wrong
number_again = record {
  scenario = scenario (plain ∷ []) (
      by 1 calls.Live
      ∷ by 1 calls.Live ∷ []);
  history =
      entries.Call 1 1 words.Live (replies.Live 0 1) ∷ [];
  entry = entries.Call 1 1 words.Live (replies.Live 0 1);
}

-- a first call with the number 2
abbrev pub number_skipped : Wrong
number_skipped = record {
  scenario = scenario (plain ∷ []) (
      by 1 calls.Live
      ∷ by 1 calls.Live ∷ []);
  history = [];
  entry = entries.Call 1 2 words.Live (replies.Live 0 1);
}

-- a name given up by an exit of the next phase
abbrev pub gone_before_its_phase : Wrong
gone_before_its_phase = record {
  scenario = record {
    version = 2;
    flags = plain ∷ [];
    queues = 5 ∷ [];
    phases = (by 1 (calls.Create ab) ∷ []) ∷ (by 1 calls.Exit ∷ []) ∷ [];
  };
  history =
      made_ab
      ∷ entries.Call 1 1 words.Create (replies.Created 1) ∷ [];
  entry = entries.Gone 1 1;
}

-- a message thrown away by an exit of the next phase
abbrev pub lost_before_its_phase : Wrong
lost_before_its_phase = record {
  scenario = record {
    version = 2;
    flags = plain ∷ [];
    queues = 5 ∷ [];
    phases = (by 1 (calls.Send 1 false 0 1) ∷ []) ∷ (by 1 calls.Exit ∷ []) ∷ [];
  };
  history =
      entries.Call 1 1 words.Send replies.Done ∷ [];
  entry = entries.Lost 1;
}

-- a name of a task of which another exits
abbrev pub gone_of_other : Wrong
gone_of_other = record {
  scenario = scenario_2 (5 ∷ 5 ∷ []) (
      by 1 (calls.Create ab)
      ∷ by 1 calls.Live
      ∷ by 2 calls.Exit ∷ []);
  history =
      made_ab
      ∷ entries.Call 1 1 words.Create (replies.Created 1) ∷ [];
  entry = entries.Gone 1 1;
}

-- a message of a task of which another exits
abbrev pub lost_of_other : Wrong
lost_of_other = record {
  scenario = scenario_2 (5 ∷ 5 ∷ []) (
      by 1 (calls.Send 1 false 0 1)
      ∷ by 1 calls.Live
      ∷ by 2 calls.Exit ∷ []);
  history =
      entries.Call 1 1 words.Send replies.Done ∷ [];
  entry = entries.Lost 1;
}

-- a message thrown away where the task receives
abbrev pub lost_by_recv : Wrong
lost_by_recv = record {
  scenario = scenario_2 (5 ∷ []) (
      by 1 (calls.Send 1 false 0 1)
      ∷ by 1 calls.Recv ∷ []);
  history =
      entries.Call 1 1 words.Send replies.Done ∷ [];
  entry = entries.Lost 1;
}

-- a list of no task
abbrev pub made_of_nobody : Wrong
made_of_nobody = record { scenario = scenario (plain ∷ []) (by 1 calls.Live ∷ []); history = []; entry = chain [] }

-- the bank value of a task at the key of importance
abbrev pub made_task_as_list : Wrong
made_task_as_list = record { scenario = scenario (plain ∷ []) (by 1 calls.Live ∷ []); history = []; entry = entries.Made 2 (values.Task 1) }

-- the bank value of a task at the key of tests
abbrev pub made_task_as_test : Wrong
made_task_as_test = record { scenario = scenario_2 (5 ∷ []) (by 1 calls.Live ∷ []); history = []; entry = entries.Made 8 (values.Task 1) }
