-- What is read at a place of the bytes of a create.
use Rattle.std.proofs.Common.{Bor, ◌≡◌, ℕ, ◌+◌, List, refl, subst, length}
use Rattle.vch_recipe.specs.Recipes.{First, One, End, HeaderCut, ContentCut}
use Rattle.vch_recipe.specs.Step.{IsStepOf}
use Rattle.vch_recipe.specs.declared.recipe.Recipe.{Recipe}
use Rattle.vch_recipe.specs.declared.step.Step.{Step}
use Rattle.vch_recipe.specs.declared.step.Step.TheVariants as steps

pub record Read (f : First) (size : ℕ) (r : Recipe) (next : ℕ) : Type 0 where
  pub rest : List ℕ
  pub first : f ≡ One r rest
  pub place : next + length rest ≡ size

pub read_one : (f : First) (size : ℕ) (s : Step) (key command previous next : ℕ) (content : Bor (List ℕ)) → IsStepOf size f s
    → s ≡ steps.One key command previous content next
    → Read f size (record { key = key; command = command; previous = previous; content = content.now }) next
read_one f size s key command previous next content a e = of_first f (subst (IsStepOf size f) e a)
  where
    of_first : (g : First) → IsStepOf size g (steps.One key command previous content next)
        → Read g size (record { key = key; command = command; previous = previous; content = content.now }) next
    of_first (One r rest) h = record { rest = rest; first = rw (h.0, h.1, h.2, h.3) refl; place = h.4 }
    of_first End h = absurd h
    of_first (HeaderCut left) h = absurd h
    of_first (ContentCut wanted left) h = absurd h

pub read_end : (f : First) (size : ℕ) (s : Step) → IsStepOf size f s → s ≡ steps.End → f ≡ End
read_end f size s a e = of_first f (subst (IsStepOf size f) e a)
  where
    of_first : (g : First) → IsStepOf size g steps.End → g ≡ End
    of_first (One r rest) h = absurd h
    of_first End h = refl
    of_first (HeaderCut left) h = absurd h
    of_first (ContentCut wanted left) h = absurd h

-- neither a whole record nor the end
abbrev pub IsCut : First → Type 0
IsCut (One r rest) = ⊥
IsCut End = ⊥
IsCut (HeaderCut left) = Unit {0}
IsCut (ContentCut wanted left) = Unit {0}

pub read_cut : (f : First) (size : ℕ) (s : Step) → IsStepOf size f s
    → ((key command previous : ℕ) (content : Bor (List ℕ)) (next : ℕ) → s ≡ steps.One key command previous content next → ⊥)
    → (s ≡ steps.End → ⊥) → IsCut f
read_cut (One r rest) size (steps.One key command previous content next) h n m = n key command previous content next refl
read_cut (One r rest) size steps.End h n m = h
read_cut (One r rest) size (steps.HeaderCut left) h n m = h
read_cut (One r rest) size (steps.ContentCut wanted left) h n m = h
read_cut End size (steps.One key command previous content next) h n m = h
read_cut End size steps.End h n m = m refl
read_cut End size (steps.HeaderCut left) h n m = h
read_cut End size (steps.ContentCut wanted left) h n m = h
read_cut (HeaderCut left) size s h n m = tt
read_cut (ContentCut wanted left) size s h n m = tt
