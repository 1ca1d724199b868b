-- What the first record of an array does.
use Rattle.std.proofs.Common.{Bor, ◌≡◌, ℕ, List, refl, sym, ap, ◌∙◌, true, false, Some, None, Result, Ok, Err, ℤ}
use Rattle.std.specs.Prelude.{◌==◌}
use Rattle.vch_base.specs.declared.fault.Code.{Code}
use Rattle.vch_recipe.specs.Recipes.{First, One, End, HeaderCut, ContentCut}
use Rattle.vch_recipe.specs.declared.recipe.Recipe.{Recipe}
use Rattle.vch_recipe.specs.declared.step.Step.TheVariants as steps
use Rattle.vch_machine.specs.Naming.{handles_of}
use Rattle.vch_machine.specs.State.{Handles, Named}
use Rattle.vch_machine.specs.Working.{WorkDone, worked, work_first}
use Rattle.vch_plain.specs.Plans.{outcome, fresh_work, Plans}
use Rattle.vch_plain.specs.Reading.{Reads}
use Rattle.vch_plain.specs.declared.plans.Plan.{Plan}

pub unnamed : (version : ℕ) (names : List Named) (r : Recipe) (rest : List ℕ) (map : Handles) (o : Result WorkDone ℤ) → (r.previous == 0) ≡ true
    → o ≡ worked version r None (fresh_work map) → o ≡ work_first version names (One r rest) map
unnamed version names r rest map o z e = rw z e

pub with_named : (version : ℕ) (names : List Named) (r : Recipe) (rest : List ℕ) (map v : Handles) (o : Result WorkDone ℤ) → (r.previous == 0) ≡ false
    → handles_of names r.previous ≡ Some v → o ≡ worked version r (Some v) (fresh_work map) → o ≡ work_first version names (One r rest) map
with_named version names r rest map v o z n e = rw (z, n) e

module _ (version : ℕ) (names : List Named) (at : ℕ) (map : Handles) (key command previous next : ℕ) (content : Bor (List ℕ)) where
  abbrev record_read : Recipe
  record_read = record { key = key; command = command; previous = previous; content = content.now }

  same_record : (r : Recipe) (rest : List ℕ) → Reads at (One r rest) (steps.One key command previous content next) → record_read ≡ r
  same_record r rest h = rw (h.0, h.1, h.2, h.3) refl

  pub plans_ok : (first : First) (plan : Plan) → ((rest : List ℕ) → outcome version (Ok plan) (fresh_work map) ≡ work_first version names (One record_read rest) map)
      → Reads at first (steps.One key command previous content next) → Plans version names at first map (Ok (record { plan = plan; next = next }))
  plans_ok (One r rest) plan w h = (sym (w rest ∙ ap (λ (x : Recipe). work_first version names (One x rest) map) (same_record r rest h)), h.4)
  plans_ok End plan w h = absurd h
  plans_ok (HeaderCut left) plan w h = absurd h
  plans_ok (ContentCut wanted left) plan w h = absurd h

  pub plans_err : (first : First) (code : Code) → ((rest : List ℕ) → outcome version (Err code) (fresh_work map) ≡ work_first version names (One record_read rest) map)
      → Reads at first (steps.One key command previous content next) → Plans version names at first map (Err code)
  plans_err (One r rest) code w h = sym (w rest ∙ ap (λ (x : Recipe). work_first version names (One x rest) map) (same_record r rest h))
  plans_err End code w h = absurd h
  plans_err (HeaderCut left) code w h = absurd h
  plans_err (ContentCut wanted left) code w h = absurd h
