use Rattle.std.proofs.Common.{◌≡◌, ◌↔◌, ◌<◌, ◌≤◌, ℕ, List, length, Result, Err, Some}
use Rattle.vch_recipe.specs.declared.recipe.Recipe.{Recipe}
use Rattle.vch_recipe.specs.declared.fault.RecipeFault.{RecipeFault}
use Rattle.vch_recipe.specs.declared.fault.RecipeFault.TheVariants as faults
use Rattle.vch_recipe.specs.Cuts.{IsHeaderCut, IsContentCut}
use Rattle.vch_replay.specs.Lines.{recipe_fault}
use Rattle.vch_replay.specs.Run.{IsArrayFault}
use Rattle.vch_replay.proofs.recipe.answer.Goals as goal

told : (input : List ℕ) (result : Result (List Recipe) RecipeFault) (fault : RecipeFault) (line : List ℕ) → result ≡ Err fault → recipe_fault fault ≡ Some line
    → ((size : ℕ) → (result ≡ Err (faults.TooLarge size)) ↔ ((5120 < length input) × (size ≡ length input)))
    → ((at left : ℕ) → result ≡ Err (faults.HeaderCut at left) → (length input ≤ 5120) × IsHeaderCut input at left)
    → ((at wanted left : ℕ) → result ≡ Err (faults.ContentCut at wanted left) → (length input ≤ 5120) × IsContentCut input at wanted left)
    → IsArrayFault input fault
told input result (faults.TooLarge size) line is some a b c = (a size).0 is
told input result (faults.HeaderCut at left) line is some a b c = b at left is
told input result (faults.ContentCut at wanted left) line is some a b c = c at wanted left is
told input result (faults.NoMemory cause) line is some a b c = cc

pub returns-in_ok-line-in-Err : goal.returns-in_ok-line-in-Err
returns-in_ok-line-in-Err c = (c.in-Err.fault, told c.args.input.now c.records.result c.in-Err.fault _ c.in-Err.is c.in_ok-line-in-Err.ensures c.records.ensures.size c.records.ensures.header c.records.ensures.content, c.in_ok-line-in-Err.ensures)
