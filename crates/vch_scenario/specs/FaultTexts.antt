-- Texts that are of no scenario, each with its first fault.
use Rattle.std.specs.Prelude.{ℕ, List, [], ◌∷◌, ◌++◌, codes}
use Rattle.std.specs.List.{AllByRecursion, repeat}
use Rattle.vch_model.specs.declared.lists.Scenario.{Scenario}
use Rattle.vch_model.specs.Scenarios.{IsScenario}
use Rattle.vch_model.specs.Text.{newline}
use Rattle.vch_scenario.specs.declared.fault.Why.{Why}
use Rattle.vch_scenario.specs.declared.fault.Why.TheVariants.{Form, Range, Limit, Ending}
use Rattle.vch_scenario.specs.Faults.{IsFault}

pub record FaultText : Type 0 where
  pub text : List ℕ
  pub line : ℕ
  pub why : Why

-- the first line that can't stand is this one, for this reason
abbrev pub HasFault : FaultText → Type 0
HasFault f = IsFault f.text f.line f.why

abbrev pub HasNoScenario : FaultText → Type 0
HasNoScenario f = (sc : Scenario) → IsScenario f.text sc → ⊥

abbrev pub fault : List ℕ → ℕ → Why → FaultText
fault text line why = record { text = text; line = line; why = why }

-- the line in the place of a task's, the first of two, in version 1 and in version 2
abbrev pub as_task : List ℕ → Why → FaultText
as_task line why = fault (codes "vouch 1\ntasks 2\n" ++ line ++ newline) 3 why

abbrev pub as_task_2 : List ℕ → Why → FaultText
as_task_2 line why = fault (codes "vouch 2\ntasks 2\n" ++ line ++ newline) 3 why

-- the line behind the first phase of one task, in version 1 and in version 2
abbrev pub as_call : List ℕ → Why → FaultText
as_call line why = fault (codes "vouch 1\ntasks 1\ntask 1\nphase\n" ++ line ++ newline) 5 why

abbrev pub as_call_2 : List ℕ → Why → FaultText
as_call_2 line why = fault (codes "vouch 2\ntasks 1\ntask 1\nphase\n" ++ line ++ newline) 5 why

-- whole texts: cut ones, bytes behind the end, and each line but a call's
abbrev pub whole_texts : List FaultText
whole_texts =
    fault (codes "") 1 Ending
    ∷ fault (codes "vouch 1") 1 Ending
    ∷ fault (codes "\n#\n") 3 Ending
    ∷ fault (codes "vouch 1\ntasks 1\ntask") 3 Ending
    ∷ fault (codes "vouch 3\n") 1 Form
    ∷ fault (codes "vouch 0\n") 1 Form
    ∷ fault (codes "vouch 01\n") 1 Form
    ∷ fault (codes "vouch 1 \n") 1 Form
    ∷ fault (codes " vouch 1\n") 1 Form
    ∷ fault (codes "vouch 1\r\n") 1 Form
    ∷ fault (codes "Vouch 1\n") 1 Form
    ∷ fault (codes "vouch\n") 1 Form
    ∷ fault (codes "vouch 1 1\n") 1 Form
    ∷ fault (codes "tasks 1\nvouch 3\n") 1 Form
    ∷ fault (codes " #\n") 1 Form
    ∷ fault (codes "vouch 1\nvouch 1\n") 2 Form
    ∷ fault (codes "vouch 1\ntasks 65\n") 2 Range
    ∷ fault (codes "vouch 1\ntasks 0\n") 2 Range
    ∷ fault (codes "vouch 1\ntasks 99999999999999999999999999\n") 2 Range
    ∷ fault (codes "vouch 1\ntasks 1 \n") 2 Form
    ∷ fault (codes "vouch 1\ntasks +1\n") 2 Form
    ∷ fault (codes "vouch 1\ntasks\n") 2 Form
    ∷ fault (codes "vouch 1\ntasks 01\n") 2 Form
    ∷ fault (codes "vouch 1\n\n\ntasks 0\n") 4 Range
    ∷ fault (codes "vouch 1\ntasks 1\nphase\n") 3 Form
    ∷ fault (codes "vouch 1\ntasks 1\ntask 2\n") 3 Range
    ∷ fault (codes "vouch 1\ntasks 1\ntask 0\n") 3 Range
    ∷ fault (codes "vouch 1\ntasks 1\ntask 4294967296\n") 3 Range
    ∷ fault (codes "vouch 1\ntasks 1\ntask 1 receiver donor\n") 3 Form
    ∷ fault (codes "vouch 1\ntasks 1\ntask 1 donor donor\n") 3 Form
    ∷ fault (codes "vouch 1\ntasks 1\ntask 2 giver\n") 3 Form
    ∷ fault (codes "vouch 1\ntasks 1\ntask 1\nend\n") 4 Form
    ∷ fault (codes "vouch 1\ntasks 1\ntask 1\ntask 2\n") 4 Form
    ∷ fault (codes "vouch 1\ntasks 2\ntask 1\nphase\n") 4 Form
    ∷ fault (codes "vouch 1\ntasks 1\ntask 1\n1 live\n") 4 Form
    ∷ fault (codes "vouch 1\ntasks 2\ntask 1\ntask 1\n") 4 Range
    ∷ fault (codes "vouch 1\ntasks 1\ntask 1\nphase\nend") 5 Ending
    ∷ fault (codes "vouch 1\ntasks 1\ntask 1\nphase\n1 drop 01") 5 Ending
    ∷ fault (codes "vouch 1\ntasks 1\ntask 1\nphase\nend\n\n") 6 Ending
    ∷ fault (codes "vouch 1\ntasks 1\ntask 1\nphase\nend\n#") 6 Ending
    ∷ fault (codes "vouch 1\ntasks 1\ntask 1\nphase\nend\nend\n") 6 Ending
    ∷ fault (codes "vouch 1\ntasks 1\ntask 1\nphase\n1 drop 4294967296\n1 drop 01\n") 5 Range ∷ []

-- call lines of version 1
abbrev pub call_lines : List FaultText
call_lines =
    as_call (codes "1 drop 01") Form
    ∷ as_call (codes "1  drop 1") Form
    ∷ as_call (codes "1 drop 1 ") Form
    ∷ as_call (codes " 1 drop 1") Form
    ∷ as_call (codes "1 drop") Form
    ∷ as_call (codes "1 drop 1 1") Form
    ∷ as_call (codes "1 drop -1") Form
    ∷ as_call (codes "1 drop 4294967296") Range
    ∷ as_call (codes "2 drop 1") Range
    ∷ as_call (codes "0 drop 1") Range
    ∷ as_call (codes "01 drop 1") Form
    ∷ as_call (codes "9 drop 4294967296 1") Form
    ∷ as_call (codes "1 Drop 1") Form
    ∷ as_call (codes "1") Form
    ∷ as_call (codes "1 create") Form
    ∷ as_call (codes "1 create abc") Form
    ∷ as_call (codes "1 create 0g") Form
    ∷ as_call (codes "1 create --") Form
    ∷ as_call (codes "1 create - -") Form
    ∷ as_call (codes "1 create 0a\r") Form
    ∷ as_call (codes "1 extract 1") Form
    ∷ as_call (codes "1 extract 1 4294967296") Range
    ∷ as_call (codes "1 recipes") Form
    ∷ as_call (codes "1 recipes 4294967296") Range
    ∷ as_call (codes "1 send 1 keep 1 1") Form
    ∷ as_call (codes "1 send 1 copy 1") Form
    ∷ as_call (codes "1 send copy 1 1 1") Form
    ∷ as_call (codes "1 send 4294967296 copy 1 1") Range
    ∷ as_call (codes "1 send 1 move 4294967296 1") Range
    ∷ as_call (codes "1 send 1 copy 1 4294967296") Range
    ∷ as_call (codes "1 recv 1") Form
    ∷ as_call (codes "1 extern 1 take 1") Form
    ∷ as_call (codes "1 extern 1 add") Form
    ∷ as_call (codes "1 extern 4294967296 add 1") Range
    ∷ as_call (codes "1 extern 1 drop 4294967296") Range
    ∷ as_call (codes "1 charge 1") Form
    ∷ as_call (codes "1 charge 1 4294967296") Range
    ∷ as_call (codes "1 ledger 1") Form
    ∷ as_call (codes "1 assertions 1") Form
    ∷ as_call (codes "1 live 1") Form
    ∷ as_call (codes "1 exit") Form
    ∷ as_call (codes "2 exit") Form
    ∷ as_call (codes "phase 1") Form
    ∷ as_call (codes "end ") Form
    ∷ as_call (codes "tasks 1") Form ∷ []

-- exits
abbrev pub call_lines_2 : List FaultText
call_lines_2 =
    as_call_2 (codes "2 exit") Range
    ∷ as_call_2 (codes "1 exit 1") Form
    ∷ as_call_2 (codes "1 exits") Form
    ∷ as_call_2 (codes "1 Exit") Form
    ∷ as_call_2 (codes "0 exit") Range ∷ []

-- queues in version 1
abbrev pub task_lines : List FaultText
task_lines =
    as_task (codes "task 1 queue 5") Form
    ∷ as_task (codes "task 1 queue 0") Form
    ∷ as_task (codes "task 1 donor queue 6") Form ∷ []

-- queues in version 2
abbrev pub task_lines_2 : List FaultText
task_lines_2 =
    as_task_2 (codes "task 1 queue 0") Range
    ∷ as_task_2 (codes "task 1 queue 1025") Range
    ∷ as_task_2 (codes "task 1 queue 4294967301") Range
    ∷ as_task_2 (codes "task 2 queue 1") Range
    ∷ as_task_2 (codes "task 2 queue 0") Range
    ∷ as_task_2 (codes "task 1 queue 05") Form
    ∷ as_task_2 (codes "task 1 queue 7 donor") Form
    ∷ as_task_2 (codes "task 1 donor queue 7 receiver") Form
    ∷ as_task_2 (codes "task 1 receiver donor") Form
    ∷ as_task_2 (codes "task 1 queue 5 queue 5") Form
    ∷ as_task_2 (codes "task 1 queue") Form
    ∷ as_task_2 (codes "task 1 queue ") Form
    ∷ as_task_2 (codes "task 1 queue 5 ") Form
    ∷ as_task_2 (codes "task 1  queue 5") Form
    ∷ as_task_2 (codes "task 1 queue5") Form
    ∷ as_task_2 (codes "task 1 Queue 5") Form ∷ []

-- one phase more than there may be
abbrev pub phase_too_many : FaultText
phase_too_many = fault (codes "vouch 1\ntasks 1\ntask 1\n" ++ repeat 1025 (codes "phase\n")) 1028 Limit

abbrev pub fault_texts : List FaultText
fault_texts = phase_too_many ∷ whole_texts ++ (call_lines ++ (call_lines_2 ++ (task_lines ++ task_lines_2)))

abbrev pub HaveFaults : Type 0
HaveFaults = AllByRecursion HasFault fault_texts

abbrev pub HaveNoScenario : Type 0
HaveNoScenario = AllByRecursion HasNoScenario fault_texts
