-- The voucher that a record copies is that of a name.
use Rattle.std.proofs.Common.{◌≡◌, ℕ, ◌==◌, not, Bool, true, false, cond, refl, length, Option, Some, None, Result, Ok}
use Rattle.vch_base.specs.declared.fault.Code.{Code}
use Rattle.vch_base.specs.declared.commands.TheConstants as commands
use Rattle.vch_model.specs.Eval.{is_core_command, is_plain_command}
use Rattle.vch_recipe.specs.Recipes.{First, One}
use Rattle.vch_parts.specs.Plain.{Indices}
use Rattle.vch_creating.specs.declared.change.Deed.{Deed}
use Rattle.vch_creating.specs.declared.change.Deed.TheVariants as deeds
use Rattle.vch_creating.specs.declared.change.Change.{Change}
use Rattle.vch_creating.specs.declared.change.AtKeys.{AtKeys}
use Rattle.vch_creating.specs.Reading.{keys_named, change_at, copy_at, change_of, change_found, first_change}

abbrev pub Named : (ℕ → Option Indices) → Deed → Type 0
Named names (deeds.Copy v) = (name : ℕ) × (names name ≡ Some v)
Named names (deeds.Remove v) = Unit {0}

abbrev pub NamedIn : (ℕ → Option Indices) → Result (Option Change) Code → Type 0
NamedIn names (Ok (Some x)) = Named names x.deed
NamedIn names x = Unit {0}

module _ (version : ℕ) (names : ℕ → Option Indices) where
  named_if : (b : Bool) (x y : Result (Option Change) Code) → NamedIn names x → NamedIn names y → NamedIn names (cond b x y)
  named_if true x y p q = p
  named_if false x y p q = q

  named_at : (ks : Option AtKeys) (deed : Deed) → Named names deed → NamedIn names (change_at ks deed)
  named_at None deed n = tt
  named_at (Some ks) deed n = n

  -- nothing, or the voucher of a name
  abbrev Looked : Option Indices → Type 0
  Looked None = Unit {0}
  Looked (Some v) = (name : ℕ) × (names name ≡ Some v)

  named_copy : (key : ℕ) (v : Option Indices) → Looked v → NamedIn names (copy_at version key v)
  named_copy key None n = tt
  named_copy key (Some v) n = named_at (keys_named version key) (deeds.Copy v) n

  named_record : (command key size : ℕ) (v : Option Indices) → Looked v → NamedIn names (change_of version command key size v)
  named_record command key size v n =
      named_if (is_core_command command) _ _ tt
      (named_if (is_plain_command command) _ _
      (named_if (not (size == 0)) _ _ tt (named_if (command == commands.NOOP) _ _ tt (named_if (command == commands.COPY) _ _ (named_copy key v n) (named_at (keys_named version key) (deeds.Remove v) tt)))) tt)

  named_found : (command key size : ℕ) (v : Option Indices) → Looked v → NamedIn names (change_found version command key size v)
  named_found command key size None n = tt
  named_found command key size (Some v) n = named_record command key size (Some v) n

  looked_for : (name : ℕ) (o : Option Indices) → names name ≡ o → Looked o
  looked_for name None e = tt
  looked_for name (Some v) e = (name, e)

  pub first_named : (first : First) → NamedIn names (first_change version names first)
  first_named (One r rest) = named_if (r.previous == 0) _ _ (named_record r.command r.key (length r.content) None tt) (named_found r.command r.key (length r.content) (names r.previous) (looked_for r.previous (names r.previous) refl))
  first_named First.End = tt
  first_named (First.HeaderCut left) = tt
  first_named (First.ContentCut wanted left) = tt
