-- What the first record of an array asks.
use Rattle.std.proofs.Common.{Bor, ◌≡◌, ℕ, List, refl, ap, ◌∙◌, Option}
use Rattle.std.specs.Prelude.{◌==◌, if◌then◌else◌}
use Rattle.vch_base.specs.declared.key.Key.{Key}
use Rattle.vch_base.specs.declared.key.TheConstants.{ALL_KEYS}
use Rattle.vch_base.specs.Keys.{key_of}
use Rattle.vch_recipe.specs.Recipes.{First, One, End, HeaderCut, ContentCut}
use Rattle.vch_recipe.specs.declared.recipe.Recipe.{Recipe}
use Rattle.vch_recipe.specs.declared.step.Step.TheVariants as steps
use Rattle.vch_machine.specs.Making.{Asked, asked_record, asked_first, head_key, keys_left}
use Rattle.vch_machine.specs.State.{Handles, Living, Named}
use Rattle.vch_plain.specs.Reading.{Reads}

module _ (version : ℕ) (live : List Living) (names : List Named) (t : ℕ) (ks : List Key) (map : Handles) (at key command previous next : ℕ) (content : Bor (List ℕ)) where
  abbrev record_read : Recipe
  record_read = record { key = key; command = command; previous = previous; content = content.now }

  same_record : (r : Recipe) (rest : List ℕ) → Reads at (One r rest) (steps.One key command previous content next) → record_read ≡ r
  same_record r rest h = rw (h.0, h.1, h.2, h.3) refl

  pub asks_first : (first : First) (o : Option Asked) → o ≡ asked_record live names t map record_read (if key == ALL_KEYS then head_key (keys_left version ks) else key_of version key)
      → Reads at first (steps.One key command previous content next) → o ≡ asked_first version live names t ks map first
  asks_first (One r rest) o e h =
      e ∙ ap (λ (x : Recipe). asked_record live names t map x (if x.key == ALL_KEYS then head_key (keys_left version ks) else key_of version x.key)) (same_record r rest h)
  asks_first End o e h = absurd h
  asks_first (HeaderCut left) o e h = absurd h
  asks_first (ContentCut wanted left) o e h = absurd h
