-- The lines that the program writes of its own: one a record, and one where input is refused.
use Rattle.std.specs.Prelude.{ℕ, List, ◌++◌, codes, Option, Some, None}
use Rattle.std.specs.List.{flat_map}
use Rattle.vch_recipe.specs.declared.recipe.Recipe.{Recipe}
use Rattle.vch_recipe.specs.declared.fault.RecipeFault.{RecipeFault}
use Rattle.vch_recipe.specs.declared.fault.RecipeFault.TheVariants as recipe_faults
use Rattle.vch_header.specs.declared.fault.MessageFault.{MessageFault}
use Rattle.vch_header.specs.declared.fault.MessageFault.TheVariants as message_faults
use Rattle.vch_scenario.specs.declared.fault.Why.{Why}
use Rattle.vch_scenario.specs.declared.fault.Why.TheVariants as whys
use Rattle.vch_model.specs.Text.{spaced, newline, hex_of}

abbrev pub recipe_line : Recipe → List ℕ
recipe_line r = codes "recipe" ++ spaced r.key ++ spaced r.command ++ spaced r.previous ++ codes " " ++ hex_of r.content ++ newline

-- one line a record, in their order, and the line `end`
abbrev pub recipe_text : List Recipe → List ℕ
recipe_text records = flat_map recipe_line records ++ codes "end" ++ newline

abbrev pub why_text : Why → List ℕ
why_text whys.Form = codes "form"
why_text whys.Range = codes "range"
why_text whys.Limit = codes "limit"
why_text whys.Ending = codes "ending"

-- the first fault of a scenario's text
abbrev pub scenario_fault : ℕ → Why → List ℕ
scenario_fault line why = codes "fault line" ++ spaced line ++ codes " why " ++ why_text why ++ newline

abbrev pub message_why : MessageFault → List ℕ
message_why message_faults.Form = codes "form"
message_why message_faults.Disposition = codes "disposition"

-- the first message line that can't be translated
abbrev pub message_fault : ℕ → MessageFault → List ℕ
message_fault line why = codes "fault line" ++ spaced line ++ codes " why " ++ message_why why ++ newline

abbrev pub size_fault : ℕ → List ℕ
size_fault size = codes "fault size" ++ spaced size ++ newline

abbrev pub header_fault : ℕ → ℕ → List ℕ
header_fault at left = codes "fault header at" ++ spaced at ++ codes " left" ++ spaced left ++ newline

abbrev pub content_fault : ℕ → ℕ → ℕ → List ℕ
content_fault at wanted left = codes "fault content at" ++ spaced at ++ codes " wanted" ++ spaced wanted ++ codes " left" ++ spaced left ++ newline

-- the first fault of a recipe array; out of memory has no line
abbrev pub recipe_fault : RecipeFault → Option (List ℕ)
recipe_fault (recipe_faults.TooLarge size) = Some (size_fault size)
recipe_fault (recipe_faults.HeaderCut at left) = Some (header_fault at left)
recipe_fault (recipe_faults.ContentCut at wanted left) = Some (content_fault at wanted left)
recipe_fault (recipe_faults.NoMemory cause) = None
