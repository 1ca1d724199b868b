-- No input is both in a command's grammar and refused by the command.
use Rattle.std.proofs.Common.{◌≤◌, ◌<◌, ◌⊎◌, ℕ, List, length, Ok, Err, arith, inl, inr}
use Rattle.vch_recipe.specs.declared.recipe.Recipe.{Recipe}
use Rattle.vch_recipe.specs.declared.fault.RecipeFault.{RecipeFault}
use Rattle.vch_recipe.specs.declared.fault.RecipeFault.TheVariants as recipe_faults
use Rattle.vch_recipe.specs.Recipes.{Recipes}
use Rattle.vch_recipe.specs.Cuts.{IsOutcome, IsOutOfMemory, IsUnlessMemory}
use Rattle.vch_recipe.proofs.CallerLemmas.{one_outcome}
use Rattle.vch_model.specs.declared.lists.Scenario.{Scenario}
use Rattle.vch_model.specs.Scenarios.{IsScenario}
use Rattle.vch_header.proofs.CallerLemmas as translations
use Rattle.vch_scenario.proofs.CallerLemmas.{never_both}
use Rattle.vch_report.proofs.CallerLemmas as reports
use Rattle.vch_replay.specs.declared.command.Command.{Command}
use Rattle.vch_replay.specs.declared.command.Command.TheVariants as commands
use Rattle.vch_replay.specs.Judged.{IsPair, IsUncertified}
use Rattle.vch_replay.specs.TwoTexts.{scenario_part, report_part}
use Rattle.vch_replay.specs.Run.{IsIn, Refuses, IsScenarioFault, IsArray, IsArrayFault}

scenario_apart : (input line : List ℕ) (sc : Scenario) → IsScenario input sc → IsScenarioFault input line → ⊥
scenario_apart input line sc is f = never_both input sc f.0 f.1 is f.2

differs : (input : List ℕ) (records : List Recipe) (fault : RecipeFault) → (IsOutOfMemory (Err fault) → ⊥) → Recipes input records → IsOutcome input (Err fault) → ⊥
differs input records fault other is f = by (one_outcome input (Ok records) (Err fault) is f other)
  where
    by : IsUnlessMemory (Ok records) (Err fault) → ⊥
    by (inl e) = cc
    by (inr e) = e

array_apart : (input : List ℕ) (records : List Recipe) (fault : RecipeFault) → IsArray input records → IsArrayFault input fault → ⊥
array_apart input records (recipe_faults.TooLarge size) is f = let short : length input ≤ 5120 = is.0 in let long : 5120 < length input = f.0 in omega arith
array_apart input records (recipe_faults.HeaderCut at left) is f = differs input records (recipe_faults.HeaderCut at left) (λ e. e) is.1 f.1
array_apart input records (recipe_faults.ContentCut at wanted left) is f = differs input records (recipe_faults.ContentCut at wanted left) (λ e. e) is.1 f.1
array_apart input records (recipe_faults.NoMemory cause) is f = f

certified_apart : (input line : List ℕ) → IsPair input → IsScenarioFault (scenario_part input) line ⊎ IsUncertified input line → ⊥
certified_apart input line is (inl f) = scenario_apart (scenario_part input) line is.0 is.1 f
certified_apart input line is (inr u) = reports.never_both (report_part input) is.2 u.2.0 is.3 u.2.1

pub apart : (command : Command) (line input : List ℕ) → IsIn command input → Refuses command input line → ⊥
apart commands.Check line input is refused = scenario_apart input line is.0 is.1 refused
apart commands.Play line input is refused = scenario_apart input line is.0 is.1 refused
apart (commands.PlaySeed seed) line input is refused = scenario_apart input line is.0 is.1 refused
apart commands.Recipe line input is refused = array_apart input is.0 refused.0 is.1 refused.1
apart commands.Header line input is refused = translations.apart input is.0 refused.0 refused.1 is.1 refused.2
apart commands.Certify line input is refused = certified_apart input line is refused
apart (commands.Load n) line input is refused = refused
