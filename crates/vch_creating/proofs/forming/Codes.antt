-- A record that asks no manager is refused with codes of its own; none is that of being out of memory.
use Rattle.std.proofs.Common.{◌≡◌, ℕ, Bool, true, false, List, length, drop, subst, Option, Some, None}
use Rattle.std.specs.Prelude.{◌==◌, not, if◌then◌else◌, Result, Ok, Err, IfErr}
use Rattle.vch_base.specs.declared.commands.TheConstants as commands
use Rattle.vch_base.specs.declared.fault.Code.{Code}
use Rattle.vch_model.specs.Eval.{is_core_command, is_plain_command}
use Rattle.vch_recipe.specs.Recipes.{First, One, first_of}
use Rattle.vch_parts.specs.Plain.{Indices}
use Rattle.vch_making.specs.Refused.{IsOther}
use Rattle.vch_creating.specs.declared.change.AtKeys.{AtKeys}
use Rattle.vch_creating.specs.declared.change.Change.{Change}
use Rattle.vch_creating.specs.declared.change.Deed.{Deed}
use Rattle.vch_creating.specs.declared.change.Deed.TheVariants as deeds
use Rattle.vch_creating.specs.declared.record.Record.{Record}
use Rattle.vch_creating.specs.Reading as reading

-- what holds of each error of two results holds of the chosen one's
if_err : {X E : Type 0} (P : E → Type 0) (b : Bool) (x y : Result X E) → IfErr x P → IfErr y P → IfErr (if b then x else y) P
if_err P true x y f g = f
if_err P false x y f g = g

change_at_code : (at : Option AtKeys) (deed : Deed) → IfErr (reading.change_at at deed) IsOther
change_at_code None deed = λ e. cc
change_at_code (Some at) deed = tt

copy_at_code : (version key : ℕ) (previous : Option Indices) → IfErr (reading.copy_at version key previous) IsOther
copy_at_code version key None = tt
copy_at_code version key (Some v) = change_at_code (reading.keys_named version key) (deeds.Copy v)

change_of_code : (version command key size : ℕ) (previous : Option Indices) → IfErr (reading.change_of version command key size previous) IsOther
change_of_code version command key size previous =
    if_err IsOther (is_core_command command) _ _ (λ e. cc)
    (if_err IsOther (is_plain_command command) _ _
    (if_err IsOther (not (size == 0)) _ _ (λ e. cc) (if_err IsOther (command == commands.NOOP) _ _ tt (if_err IsOther (command == commands.COPY) _ _ (copy_at_code version key previous) (change_at_code (reading.keys_named version key) (deeds.Remove previous)))))
    (λ e. cc))

change_found_code : (version command key size : ℕ) (previous : Option Indices) → IfErr (reading.change_found version command key size previous) IsOther
change_found_code version command key size None = λ e. cc
change_found_code version command key size (Some v) = change_of_code version command key size (Some v)

first_code : (version : ℕ) (names : ℕ → Option Indices) (first : First) → IfErr (reading.first_change version names first) IsOther
first_code version names (One r rest) = if_err IsOther (r.previous == 0) _ _ (change_of_code version r.command r.key (length r.content) None) (change_found_code version r.command r.key (length r.content) (names r.previous))
first_code version names First.End = λ e. cc
first_code version names (First.HeaderCut left) = λ e. cc
first_code version names (First.ContentCut wanted left) = λ e. cc

-- a record that is refused has a code of its own
by_first : (version : ℕ) (names : ℕ → Option Indices) (first : First) (result : Result Record Code) → IfErr result (λ c. reading.first_change version names first ≡ Err c) → IfErr result IsOther
by_first version names first (Ok r) e = tt
by_first version names first (Err c) e = subst (λ (r : Result (Option Change) Code). IfErr r IsOther) e (first_code version names first)

pub own_code_of : (version : ℕ) (names : ℕ → Option Indices) (bytes : List ℕ) (place : ℕ) (result : Result Record Code) → reading.Reads version names bytes place result → IfErr result IsOther
own_code_of version names bytes place result r = by_first version names (first_of (drop place bytes)) result r.refused
