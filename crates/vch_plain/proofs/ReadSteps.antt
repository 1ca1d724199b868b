-- The step at a place of an array is the first record that is left there.
use Rattle.std.proofs.Common.{◌≡◌, ℕ, ◌≤◌, List, refl, arith, length, drop}
use Rattle.std.proofs.lemmas.Grind.{common_steps}
use Rattle.std.proofs.lemmas.List.{length-drop}
use Rattle.std.specs.Prelude.{◌==◌, true}
use Rattle.vch_recipe.specs.Recipes.{First, One, End, HeaderCut, ContentCut, first_of}
use Rattle.vch_recipe.specs.Step.{IsStepOf}
use Rattle.vch_recipe.specs.declared.step.Step.{Step}
use Rattle.vch_recipe.specs.declared.step.Step.TheVariants as steps
use Rattle.vch_legal.proofs.CallerLemmas.{record_place}
use Rattle.vch_plain.specs.Reading.{Reads}

pub reads_step : (bytes : List ℕ) (at : ℕ) (s : Step) → at ≤ length bytes → IsStepOf (length bytes) (first_of (drop at bytes)) s → Reads at (first_of (drop at bytes)) s
reads_step bytes at s inside h = by (first_of (drop at bytes)) s refl h
  where
    by : (f : First) (s : Step) → first_of (drop at bytes) ≡ f → IsStepOf (length bytes) f s → Reads at f s
    by (One r rest) (steps.One key command previous content next) e h = (h.0, h.1, h.2, h.3, record_place bytes at next r rest inside e h.4)
    by (One r rest) steps.End e h = h
    by (One r rest) (steps.HeaderCut left) e h = h
    by (One r rest) (steps.ContentCut wanted left) e h = h
    by End (steps.One key command previous content next) e h = h
    by End steps.End e h = tt
    by End (steps.HeaderCut left) e h = h
    by End (steps.ContentCut wanted left) e h = h
    by (HeaderCut left) (steps.One key command previous content next) e h = h
    by (HeaderCut left) steps.End e h = h
    by (HeaderCut left) (steps.HeaderCut seen) e h = tt
    by (HeaderCut left) (steps.ContentCut wanted seen) e h = h
    by (ContentCut wanted left) (steps.One key command previous content next) e h = h
    by (ContentCut wanted left) steps.End e h = h
    by (ContentCut wanted left) (steps.HeaderCut seen) e h = h
    by (ContentCut wanted left) (steps.ContentCut asked seen) e h = tt

-- behind the end there is nothing
pub reads_end : (bytes : List ℕ) (at : ℕ) → length bytes ≤ at → Reads at (first_of (drop at bytes)) steps.End
reads_end bytes at behind = let none : length (drop at bytes) ≡ 0 = let a = length-drop at bytes in omega (arith, a) in let z : (length (drop at bytes) == 0) ≡ true = grind (arith, common_steps) in rw z tt
