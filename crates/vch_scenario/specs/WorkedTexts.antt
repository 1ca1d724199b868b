-- Texts of scenarios, each with its scenario.
use Rattle.std.specs.Prelude.{true, false, ℕ, List, [], ◌∷◌, ◌++◌, codes}
use Rattle.std.specs.List.{AllByRecursion, repeat}
use Rattle.vch_model.specs.declared.call.Call.TheVariants as calls
use Rattle.vch_model.specs.declared.lists.Scenario.{Scenario}
use Rattle.vch_model.specs.Examples.{ab, by, plain, donor, receiver, both, phased, scenario, scenario_2, tab}
use Rattle.vch_model.specs.Scenarios.{IsScenario}
use Rattle.vch_model.specs.Worked.{last_name, client_and_service}
use Rattle.vch_model.specs.WorkedTwo.{limited_queue}

pub record ScenarioText : Type 0 where
  pub text : List ℕ
  pub scenario : Scenario

-- the text is one of the scenario
abbrev pub IsOfScenario : ScenarioText → Type 0
IsOfScenario t = IsScenario t.text t.scenario

-- one task that makes a voucher and drops it
abbrev pub one_task : ScenarioText
one_task = record {
  text = codes "vouch 1\ntasks 1\ntask 1\nphase\n1 create 07000000d300000000000000020000006162\n1 drop 1\nend\n";
  scenario = last_name.scenario;
}

-- a line of a comment, an empty one, and digits in upper case
abbrev pub passed_over : ScenarioText
passed_over = record {
  text = codes "# first\nvouch 1\n\ntasks 1\ntask 1\nphase\n1 create 07000000D300000000000000020000006162\n1 drop 1\nend\n";
  scenario = last_name.scenario;
}

-- comments hold any bytes, and stand behind any line but the last
abbrev pub any_comments : ScenarioText
any_comments = record {
  text =
      (35 ∷ 0 ∷ 13 ∷ 128 ∷ 255 ∷ []) ++ codes "\nvouch 1\n#\n##\ntasks 1\n# tasks 2\ntask 1\n\n\nphase\n#phase\n1 create 07000000d300000000000000020000006162\n#1 exit\n1 drop 1\n#end\n\nend\n";
  scenario = last_name.scenario;
}

-- flags, two phases, and records of three keys
abbrev pub service : ScenarioText
service = record {
  text =
      codes "vouch 1\ntasks 2\ntask 1 donor\ntask 2 receiver\nphase\n1 create 0300000062020000000000000000000002000000c80000000000000000000000"
      ++ codes "07000000d300000000000000020000006162\n1 send 2 copy 1 9\n1 drop 1\n2 recv\n2 charge 1 1200\n2 assertions\n2 drop 1\nphase\n1 ledger\nend\n";
  scenario = client_and_service.scenario;
}

-- each kind of call of version 1, an empty phase, the largest numbers, and a task that isn't there
abbrev pub each_call : ScenarioText
each_call = record {
  text =
      codes "vouch 1\ntasks 3\ntask 1\ntask 2 donor receiver\ntask 3 receiver\nphase\nphase\n1 create -\n2 create 00ff\n1 drop 4294967295\n1 extract 1 7\n1 recipes 0\n"
      ++ codes "3 send 2 copy 0 0\n3 send 4294967295 move 1 2\n2 recv\n2 extern 1 add 3\n2 extern 1 drop 4\n1 charge 9 70\n1 ledger\n2 assertions\n3 live\nend\n";
  scenario = phased (plain ∷ both ∷ receiver ∷ []) (
      []
      ∷ (by 1 (calls.Create [])
      ∷ by 2 (calls.Create (0 ∷ 255 ∷ []))
      ∷ by 1 (calls.GiveUp 4294967295)
      ∷ by 1 (calls.Extract 1 7)
      ∷ by 1 (calls.Recipes 0)
      ∷ by 3 (calls.Send 2 false 0 0)
      ∷ by 3 (calls.Send 4294967295 true 1 2)
      ∷ by 2 calls.Recv
      ∷ by 2 (calls.Extern 1 true 3)
      ∷ by 2 (calls.Extern 1 false 4)
      ∷ by 1 (calls.Charge 9 70)
      ∷ by 1 calls.Ledger
      ∷ by 2 calls.Assertions
      ∷ by 3 calls.Live ∷ []) ∷ []);
}

-- a phase without calls
abbrev pub no_calls : ScenarioText
no_calls = record {
  text = codes "vouch 1\ntasks 1\ntask 1 donor\nphase\nend\n";
  scenario = scenario (donor ∷ []) [];
}

-- version 2 with no word of its own: each queue has the usual limit
abbrev pub usual_limits : ScenarioText
usual_limits = record {
  text = codes "vouch 2\ntasks 2\ntask 1\ntask 2\nphase\n1 live\nend\n";
  scenario = scenario_2 (5 ∷ 5 ∷ []) (by 1 calls.Live ∷ []);
}

-- the same limits, written
abbrev pub written_limits : ScenarioText
written_limits = record {
  text = codes "vouch 2\ntasks 2\ntask 1 queue 5\ntask 2 queue 5\nphase\n1 live\nend\n";
  scenario = scenario_2 (5 ∷ 5 ∷ []) (by 1 calls.Live ∷ []);
}

-- the least and the largest limit, behind flags and without
abbrev pub other_limits : ScenarioText
other_limits = record {
  text = codes "vouch 2\ntasks 4\ntask 1 queue 1\ntask 2 donor queue 1024\ntask 3 receiver\ntask 4 donor receiver queue 6\nphase\n4 exit\nend\n";
  scenario = record {
    version = 2;
    flags = plain ∷ donor ∷ receiver ∷ both ∷ [];
    queues = 1 ∷ 1024 ∷ 5 ∷ 6 ∷ [];
    phases = (by 4 calls.Exit ∷ []) ∷ [];
  };
}

-- a queue of one message, and exits
abbrev pub exits : ScenarioText
exits = record {
  text = codes "vouch 2\ntasks 2\ntask 1\ntask 2 queue 1\nphase\n1 create 07000000d300000000000000020000006162\n1 send 2 copy 1 1\n1 send 2 copy 1 2\n1 exit\n2 exit\n1 drop 1\nend\n";
  scenario = limited_queue.scenario;
}

-- the key of tests, in both versions
abbrev pub test_key_1 : ScenarioText
test_key_1 = record {
  text = codes "vouch 1\ntasks 1\ntask 1\nphase\n1 create 08000000d30000000000000002000000616207000000d300000000000000020000006162\n1 extract 1 8\nend\n";
  scenario = scenario (plain ∷ []) (by 1 (calls.Create (tab ++ ab)) ∷ by 1 (calls.Extract 1 8) ∷ []);
}

abbrev pub test_key_2 : ScenarioText
test_key_2 = record {
  text = codes "vouch 2\ntasks 1\ntask 1\nphase\n1 create 08000000d30000000000000002000000616207000000d300000000000000020000006162\n1 extract 1 8\nend\n";
  scenario = scenario_2 (5 ∷ []) (by 1 (calls.Create (tab ++ ab)) ∷ by 1 (calls.Extract 1 8) ∷ []);
}

-- as many phases as there may be
abbrev pub most_phases : ScenarioText
most_phases = record {
  text = codes "vouch 1\ntasks 1\ntask 1\n" ++ (repeat 1024 (codes "phase\n") ++ codes "end\n");
  scenario = phased (plain ∷ []) (repeat 1024 ([] ∷ []));
}

-- as many tasks as there may be
abbrev pub most_tasks : ScenarioText
most_tasks = record {
  text =
      codes "vouch 1\ntasks 64\n"
      ++ codes "task 1\ntask 2\ntask 3\ntask 4\ntask 5\ntask 6\ntask 7\ntask 8\ntask 9\ntask 10\ntask 11\ntask 12\ntask 13\ntask 14\ntask 15\ntask 16\n"
      ++ codes "task 17\ntask 18\ntask 19\ntask 20\ntask 21\ntask 22\ntask 23\ntask 24\ntask 25\ntask 26\ntask 27\ntask 28\ntask 29\ntask 30\ntask 31\ntask 32\n"
      ++ codes "task 33\ntask 34\ntask 35\ntask 36\ntask 37\ntask 38\ntask 39\ntask 40\ntask 41\ntask 42\ntask 43\ntask 44\ntask 45\ntask 46\ntask 47\ntask 48\n"
      ++ codes "task 49\ntask 50\ntask 51\ntask 52\ntask 53\ntask 54\ntask 55\ntask 56\ntask 57\ntask 58\ntask 59\ntask 60\ntask 61\ntask 62\ntask 63\ntask 64\n"
      ++ codes "phase\n64 live\nend\n";
  scenario = scenario (repeat 64 (plain ∷ [])) (by 64 calls.Live ∷ []);
}

abbrev pub scenario_texts : List ScenarioText
scenario_texts =
    one_task ∷ passed_over ∷ any_comments ∷ service ∷ each_call ∷ no_calls ∷ usual_limits ∷ written_limits ∷ other_limits ∷ exits ∷ test_key_1 ∷ test_key_2 ∷ most_phases ∷ most_tasks ∷ []

abbrev pub AreOfScenarios : Type 0
AreOfScenarios = AllByRecursion IsOfScenario scenario_texts
