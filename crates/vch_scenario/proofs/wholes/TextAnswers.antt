-- What is read of worked texts computes, and says that each is of its scenario or has its fault.
use Rattle.std.proofs.Common.{◌≡◌, List, [], ◌∷◌, map, Result, Err, refl}
use Rattle.std.specs.List.{AllByRecursion}
use Rattle.hex.specs.Hex.{decode_pairs}
use Rattle.vch_model.specs.declared.lists.Scenario.{Scenario}
use Rattle.vch_model.specs.TextLines.{split_of}
use Rattle.vch_text.specs.Words.{is_word, front_of, word_at, end_of}
use Rattle.vch_text.specs.Numbers.{number_after, number_of, number_at, one_of, two_of}
use Rattle.vch_text.specs.Digits.{bytes_of}
use Rattle.vch_scenario.specs.Calls.{version_of, tasks_of, task_of, number_is, limit_of, tail_of, written_queue, word_is, flag_at, line_of, up_to, call_of, bare_of, charge_of, extern_of, either_of, send_of, recipes_of, extract_of, give_up_of, create_of, verb_of, fit}
use Rattle.vch_scenario.specs.Whole.{At, at_line, read_lines, step_of, title_of, count_of, task_in, phase_in, first_in, next_in, call_in, finish}
use Rattle.vch_scenario.specs.WorkedTexts.{ScenarioText, IsOfScenario, scenario_texts, AreOfScenarios}
use Rattle.vch_scenario.specs.FaultTexts.{FaultText, HasFault, HasNoScenario, fault_texts, HaveFaults, HaveNoScenario}
use Rattle.vch_scenario.proofs.wholes.OneAnswer.{answer, good, scenario_answered, fault_told, never_both}

-- ---- what is read, and what is to be read

abbrev read_all : List ScenarioText → List (Result Scenario At)
read_all texts = map (λ t. answer t.text) texts

abbrev wanted : List ScenarioText → List (Result Scenario At)
wanted texts = map (λ t. good t.scenario) texts

abbrev fault_of : FaultText → Result Scenario At
fault_of f = Err (at_line f.line f.why)

abbrev read_faults : List FaultText → List (Result Scenario At)
read_faults texts = map (λ f. answer f.text) texts

abbrev wanted_faults : List FaultText → List (Result Scenario At)
wanted_faults texts = map fault_of texts

each_scenario : (texts : List ScenarioText) → read_all texts ≡ wanted texts → AllByRecursion IsOfScenario texts
each_scenario [] e = tt
each_scenario (t ∷ texts) e =
    let here : answer t.text ≡ good t.scenario = cc in
    let later : read_all texts ≡ wanted texts = cc in
    (scenario_answered t.text t.scenario here, each_scenario texts later)

each_fault : (texts : List FaultText) → read_faults texts ≡ wanted_faults texts → AllByRecursion HasFault texts
each_fault [] e = tt
each_fault (f ∷ texts) e =
    let here : answer f.text ≡ fault_of f = cc in
    let later : read_faults texts ≡ wanted_faults texts = cc in
    (fault_told f.text f.line f.why here, each_fault texts later)

none_each : (texts : List FaultText) → AllByRecursion HasFault texts → AllByRecursion HasNoScenario texts
none_each [] h = tt
none_each (f ∷ texts) h = (λ sc s. never_both f.text sc f.line f.why s h.0, none_each texts h.1)

-- ---- they compute

scenarios_read : read_all scenario_texts ≡ wanted scenario_texts
unfolding read_lines step_of title_of count_of task_in phase_in first_in next_in call_in finish split_of version_of tasks_of task_of number_is limit_of tail_of written_queue word_is flag_at line_of up_to call_of bare_of charge_of extern_of either_of send_of recipes_of extract_of give_up_of create_of verb_of fit is_word front_of word_at end_of number_after number_of number_at one_of two_of bytes_of decode_pairs
scenarios_read = refl

faults_read : read_faults fault_texts ≡ wanted_faults fault_texts
unfolding read_lines step_of title_of count_of task_in phase_in first_in next_in call_in finish split_of version_of tasks_of task_of number_is limit_of tail_of written_queue word_is flag_at line_of up_to call_of bare_of charge_of extern_of either_of send_of recipes_of extract_of give_up_of create_of verb_of fit is_word front_of word_at end_of number_after number_of number_at one_of two_of bytes_of decode_pairs
faults_read = refl

pub of_scenarios : AreOfScenarios
of_scenarios = each_scenario scenario_texts scenarios_read

pub have_faults : HaveFaults
have_faults = each_fault fault_texts faults_read

pub have_no_scenario : HaveNoScenario
have_no_scenario = none_each fault_texts have_faults
