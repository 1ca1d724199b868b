-- A record that was read, and where the next one stands.
use Rattle.std.proofs.Common.{◌≡◌, ℕ, ◌+◌, ◌≤◌, List, refl, sym, ap, ◌∙◌, length, drop, Option, Ok}
use Rattle.vch_recipe.specs.Recipes.{First, One, first_of}
use Rattle.vch_recipe.specs.Step as step
use Rattle.vch_recipe.specs.declared.step.Step.{Step}
use Rattle.vch_recipe.specs.declared.step.Step.TheVariants as steps
use Rattle.vch_machine.specs.Working.{size_of}
use Rattle.vch_parts.specs.Plain.{Indices}
use Rattle.vch_legal.proofs.CallerLemmas.{record_place}
use Rattle.vch_creating.specs.declared.change.Change.{Change}
use Rattle.vch_creating.specs.Reading.{Reads, change_named, first_change}

module _ (version : ℕ) (names : ℕ → Option Indices) (bytes : List ℕ) (at : ℕ) (inside : at ≤ length bytes) where
  -- what is read of a step
  abbrev pub Reading : Step → Type 0
  Reading (steps.One key command previous content next) = (change : Option Change) → change_named version names command key (length content.now) previous ≡ Ok change → Reads version names bytes at (Ok (record { change = change; next = next }))
  Reading step = Unit {0}

  pub reads_step : (s : Step) → step.IsStep (drop at bytes) (length bytes) s → Reading s
  reads_step steps.End e = tt
  reads_step (steps.HeaderCut left) e = tt
  reads_step (steps.ContentCut wanted left) e = tt
  reads_step (steps.One key command previous content next) e = by (first_of (drop at bytes)) refl e
    where
      by : (x : First) → first_of (drop at bytes) ≡ x → step.IsStepOf (length bytes) x (steps.One key command previous content next) → Reading (steps.One key command previous content next)
      by (One r rest) q a = λ change is. record {
        done = ap (first_change version names) q ∙ (same a.0 a.1 a.2 a.3 ∙ is);
        next = record_place bytes at next r rest inside q a.4 ∙ ap (λ x. at + size_of x) (sym q);
        refused = tt;
      }
        where
          same : key ≡ r.key → command ≡ r.command → previous ≡ r.previous → content.now ≡ r.content
              → change_named version names r.command r.key (length r.content) r.previous ≡ change_named version names command key (length content.now) previous
          same k c p l = rw (k, c, p, l) refl
      by First.End q a = absurd a
      by (First.HeaderCut left) q a = absurd a
      by (First.ContentCut wanted left) q a = absurd a
