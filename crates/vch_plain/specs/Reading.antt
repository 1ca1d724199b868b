-- How the next record of an array is read.
use Rattle.std.specs.Prelude.{◌≡◌, ℕ, ◌+◌, length}
use Rattle.vch_recipe.specs.Recipes.{First, One, End, HeaderCut, ContentCut}
use Rattle.vch_recipe.specs.declared.step.Step.{Step}
use Rattle.vch_recipe.specs.declared.step.Step.TheVariants as steps

-- the step is the first record that is left at a place, with the place behind it, or it tells how that is cut
abbrev pub Reads : ℕ → First → Step → Type 0
Reads at (One r rest) (steps.One key command previous content next) =
    (key ≡ r.key) × (command ≡ r.command) × (previous ≡ r.previous) × (content.now ≡ r.content) × (next ≡ at + (16 + length r.content))
Reads at (One r rest) steps.End = ⊥
Reads at (One r rest) (steps.HeaderCut left) = ⊥
Reads at (One r rest) (steps.ContentCut wanted left) = ⊥
Reads at End (steps.One key command previous content next) = ⊥
Reads at End steps.End = Unit {0}
Reads at End (steps.HeaderCut left) = ⊥
Reads at End (steps.ContentCut wanted left) = ⊥
Reads at (HeaderCut left) (steps.One key command previous content next) = ⊥
Reads at (HeaderCut left) steps.End = ⊥
Reads at (HeaderCut left) (steps.HeaderCut seen) = Unit {0}
Reads at (HeaderCut left) (steps.ContentCut wanted seen) = ⊥
Reads at (ContentCut wanted left) (steps.One key command previous content next) = ⊥
Reads at (ContentCut wanted left) steps.End = ⊥
Reads at (ContentCut wanted left) (steps.HeaderCut seen) = ⊥
Reads at (ContentCut wanted left) (steps.ContentCut asked seen) = Unit {0}
