-- What the top call promises.
use Rattle.std.specs.Prelude.{◌≡◌, ◌≤◌, ◌<◌, ◌⊎◌, ℕ, List, length, reverse, Option, Some, None}
use Rattle.vch_base.specs.Stream.{Extends}
use Rattle.vch_recipe.specs.Recipes.{Recipes}
use Rattle.vch_recipe.specs.Cuts.{IsHeaderCut, IsContentCut}
use Rattle.vch_recipe.specs.declared.fault.RecipeFault.TheVariants as recipe_faults
use Rattle.vch_recipe.specs.declared.fault.RecipeFault.{RecipeFault}
use Rattle.vch_recipe.specs.declared.recipe.Recipe.{Recipe}
use Rattle.vch_model.specs.declared.entry.Entry.{Entry}
use Rattle.vch_model.specs.declared.lists.Scenario.{Scenario}
use Rattle.vch_model.specs.Scenarios.{IsScenario}
use Rattle.vch_model.specs.Canonical.{Canon}
use Rattle.vch_model.specs.Legal.{Whole}
use Rattle.vch_machine.specs.PlainRuns.{TellNoWant, IsPlainRun}
use Rattle.vch_machine.specs.EndedRuns.{IsInTurn, IsBySeed}
use Rattle.vch_model.specs.Text.{Text}
use Rattle.vch_header.specs.Messages.{IsTranslation, IsRefusedAt}
use Rattle.vch_header.specs.declared.fault.MessageFault.{MessageFault}
use Rattle.vch_scenario.specs.Faults as scenario_faults
use Rattle.vch_scenario.specs.declared.fault.Why.{Why}
use Rattle.vch_replay.specs.Commands.{Reads}
use Rattle.vch_replay.specs.Input.{limit}
use Rattle.vch_replay.specs.Judged.{IsVerdictOn, IsReportFault, IsCertified, IsUncertified, IsPair}
use Rattle.vch_replay.specs.Loads.{IsSummary}
use Rattle.vch_replay.specs.TwoTexts.{scenario_part}
use Rattle.vch_base.specs.Stream.{WritesPrefix}
use Rattle.vch_replay.specs.Lines.{recipe_text, scenario_fault, message_fault, recipe_fault}
use Rattle.vch_replay.specs.declared.command.Command.{Command}
use Rattle.vch_replay.specs.declared.command.Command.TheVariants as commands
use Rattle.vch_replay.specs.declared.outcome.Outcome.{Outcome}
use Rattle.vch_replay.specs.declared.outcome.Outcome.TheVariants as outcomes

-- the text is the canonical one of the scenario that the input gives
abbrev pub IsCanonical : List ℕ → List ℕ → Type 0
IsCanonical input text = (sc : Scenario) × IsScenario input sc × (text ≡ Canon sc)

-- the text is the report of one legal and whole history of the scenario
pub record IsReportOf (sc : Scenario) (history : List Entry) (text : List ℕ) : Type 0 where
  pub whole : Whole history sc
  pub text_is : text ≡ Text history sc

-- of its run in turn; where no reply says that memory was out, that is the plain run
pub record IsTurnReport (sc : Scenario) (text : List ℕ) : Type 0 where
  pub history : List Entry
  pub report : IsReportOf sc history text
  pub in_turn : IsInTurn sc history
  pub plain : TellNoWant (reverse history) → IsPlainRun sc history

-- of its run by the schedule of a seed
pub record IsSeedReport (seed : ℕ) (sc : Scenario) (text : List ℕ) : Type 0 where
  pub history : List Entry
  pub report : IsReportOf sc history text
  pub by_seed : IsBySeed seed sc history

-- a run in turn, or by a seed
abbrev pub playing : Option ℕ → Command
playing None = commands.Play
playing (Some seed) = commands.PlaySeed seed

abbrev pub IsPlayed : Option ℕ → Scenario → List ℕ → Type 0
IsPlayed None sc text = IsTurnReport sc text
IsPlayed (Some seed) sc text = IsSeedReport seed sc text

-- the text is such a report of the scenario that the input gives
abbrev pub IsReport : Option ℕ → List ℕ → List ℕ → Type 0
IsReport seed input text = (sc : Scenario) × IsScenario input sc × IsPlayed seed sc text

-- the input is an array of these records
abbrev pub IsArray : List ℕ → List Recipe → Type 0
IsArray input records = (length input ≤ 5120) × Recipes input records

-- the text has a line for each record of the array that the input is
abbrev pub IsListing : List ℕ → List ℕ → Type 0
IsListing input text = (records : List Recipe) × IsArray input records × (text ≡ recipe_text records)

-- what a command writes where the input is in its grammar
abbrev pub IsOutput : Command → List ℕ → List ℕ → Type 0
IsOutput commands.Check input text = IsCanonical input text
IsOutput commands.Play input text = IsReport None input text
IsOutput (commands.PlaySeed seed) input text = IsReport (Some seed) input text
IsOutput commands.Recipe input text = IsListing input text
IsOutput commands.Header input text = IsTranslation input text
IsOutput commands.Certify input text = IsCertified input text
IsOutput (commands.Load n) input text = IsSummary n text

-- the line tells the first fault of the scenario's text
abbrev pub IsScenarioFault : List ℕ → List ℕ → Type 0
IsScenarioFault input line = (at : ℕ) × (why : Why) × scenario_faults.IsFault input at why × (line ≡ scenario_fault at why)

-- why the input is no array
abbrev pub IsArrayFault : List ℕ → RecipeFault → Type 0
IsArrayFault input (recipe_faults.TooLarge size) = (5120 < length input) × (size ≡ length input)
IsArrayFault input (recipe_faults.HeaderCut at left) = (length input ≤ 5120) × IsHeaderCut input at left
IsArrayFault input (recipe_faults.ContentCut at wanted left) = (length input ≤ 5120) × IsContentCut input at wanted left
IsArrayFault input (recipe_faults.NoMemory cause) = ⊥

abbrev pub IsRecipeFault : List ℕ → List ℕ → Type 0
IsRecipeFault input line = (fault : RecipeFault) × IsArrayFault input fault × (recipe_fault fault ≡ Some line)

-- the line tells the first message line that can't be translated
abbrev pub IsMessageFault : List ℕ → List ℕ → Type 0
IsMessageFault input line = (at : ℕ) × (why : MessageFault) × IsRefusedAt input at why × (line ≡ message_fault at why)

-- the line that a command writes where the input is not in its grammar
abbrev pub Refuses : Command → List ℕ → List ℕ → Type 0
Refuses commands.Check input line = IsScenarioFault input line
Refuses commands.Play input line = IsScenarioFault input line
Refuses (commands.PlaySeed seed) input line = IsScenarioFault input line
Refuses commands.Recipe input line = IsRecipeFault input line
Refuses commands.Header input line = IsMessageFault input line
Refuses commands.Certify input line = IsScenarioFault (scenario_part input) line ⊎ IsUncertified input line
Refuses (commands.Load n) input line = ⊥

-- what a command comes to
abbrev pub Comes : Command → List ℕ → Outcome → Type 0
Comes command input (outcomes.Answered text) = IsOutput command input text.items
Comes command input (outcomes.Refused line) = Refuses command input line.items

-- what `certify` comes to for the text behind a scenario
abbrev pub IsJudged : Scenario → List ℕ → Outcome → Type 0
IsJudged sc text (outcomes.Answered line) = IsVerdictOn sc text line.items
IsJudged sc text (outcomes.Refused line) = IsReportFault text line.items

-- the input is in the command's grammar
abbrev pub IsIn : Command → List ℕ → Type 0
IsIn commands.Check input = (sc : Scenario) × IsScenario input sc
IsIn commands.Play input = (sc : Scenario) × IsScenario input sc
IsIn (commands.PlaySeed seed) input = (sc : Scenario) × IsScenario input sc
IsIn commands.Recipe input = (records : List Recipe) × IsArray input records
IsIn commands.Header input = (text : List ℕ) × IsTranslation input text
IsIn commands.Certify input = IsPair input
IsIn (commands.Load n) input = ⊥

-- the answer to the input was written, whole
abbrev pub WritesAnswer : Option Command → List ℕ → Option (List ℕ) → Option (List ℕ) → Type 0
WritesAnswer None input old new = ⊥
WritesAnswer (Some command) input old new = (text : List ℕ) × IsOutput command input text × (length input ≤ limit) × Extends old new text

-- the line of a refusal was written, whole
abbrev pub WritesRefusal : Option Command → List ℕ → Option (List ℕ) → Option (List ℕ) → Type 0
WritesRefusal None input old new = ⊥
WritesRefusal (Some command) input old new = (line : List ℕ) × Refuses command input line × (length input ≤ limit) × Extends old new line

-- a prefix of the answer, or of the line of a refusal, was written
abbrev pub WritesPart : Option Command → List ℕ → Option (List ℕ) → Option (List ℕ) → Type 0
WritesPart None input old new = ⊥
WritesPart (Some command) input old new =
    (text : List ℕ) × (IsOutput command input text ⊎ Refuses command input text) × (length input ≤ limit) × WritesPrefix old new text

-- the input is short and in the command's grammar
abbrev pub IsGoodInput : Command → Option (List ℕ) → Type 0
IsGoodInput command None = ⊥
IsGoodInput command (Some input) = IsIn command input × (length input ≤ limit)

-- the words are a form, and the input, where it is read, is good
abbrev pub IsGood : Option Command → Option (List ℕ) → Type 0
IsGood None input = ⊥
IsGood (Some command) input = Reads command → IsGoodInput command input

-- `load` reads nothing: its text was written, whole
abbrev pub WritesSummary : Option Command → Option (List ℕ) → Option (List ℕ) → Type 0
WritesSummary (Some (commands.Load n)) old new = (text : List ℕ) × IsSummary n text × Extends old new text
WritesSummary words old new = Unit {0}

-- a prefix of it was written
abbrev pub WritesSummaryPart : Option Command → Option (List ℕ) → Option (List ℕ) → Type 0
WritesSummaryPart (Some (commands.Load n)) old new = (text : List ℕ) × IsSummary n text × WritesPrefix old new text
WritesSummaryPart words old new = Unit {0}
