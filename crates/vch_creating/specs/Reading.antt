-- What is read of a record of a create: which keys of the voucher it changes and how, or a code.
use Rattle.std.specs.Prelude.{◌≡◌, ℕ, ◌+◌, ◌==◌, not, if◌then◌else◌, List, length, drop, Option, Some, None, Result, Ok, Err, IfOk, IfErr, ℤ}
use Rattle.vch_base.specs.declared.fault.Code.{Code}
use Rattle.vch_base.specs.declared.key.Key.{Key}
use Rattle.vch_base.specs.Keys.{key_of}
use Rattle.vch_base.specs.declared.key.TheConstants.{ALL_KEYS}
use Rattle.vch_base.specs.declared.commands.TheConstants as commands
use Rattle.vch_base.specs.declared.codes.TheConstants.{KERN_INVALID_ARGUMENT, KERN_NO_ACCESS, KERN_INVALID_CAPABILITY}
use Rattle.vch_model.specs.Eval.{is_core_command, is_plain_command}
use Rattle.vch_recipe.specs.Recipes.{First, One, first_of}
use Rattle.vch_machine.specs.Working.{size_of}
use Rattle.vch_vouchers.specs.Desks.{desk, voucher_of}
use Rattle.vch_parts.specs.declared.parts.Parts.{Parts}
use Rattle.vch_parts.specs.Plain.{Indices}
use Rattle.vch_creating.specs.declared.change.Deed.{Deed}
use Rattle.vch_creating.specs.declared.change.Deed.TheVariants as deeds
use Rattle.vch_creating.specs.declared.change.Change.{Change}
use Rattle.vch_creating.specs.declared.change.AtKeys.{AtKeys}
use Rattle.vch_creating.specs.declared.change.AtKeys.TheVariants as at
use Rattle.vch_creating.specs.declared.record.Record.{Record}

abbrev pub code : ℤ → Code
code n = record { number = n }

abbrev pub one_key : Option Key → Option AtKeys
one_key None = None
one_key (Some k) = Some (at.One k)

-- the keys that a record is about, or none where its key has no manager
abbrev pub keys_named : ℕ → ℕ → Option AtKeys
keys_named version n = if n == ALL_KEYS then Some at.All else one_key (key_of version n)

abbrev pub change_at : Option AtKeys → Deed → Result (Option Change) Code
change_at None deed = Err (code KERN_INVALID_ARGUMENT)
change_at (Some keys) deed = Ok (Some (record { keys = keys; deed = deed }))

-- COPY, which does nothing without a previous voucher
abbrev pub copy_at : ℕ → ℕ → Option Indices → Result (Option Change) Code
copy_at version key None = Ok None
copy_at version key (Some v) = change_at (keys_named version key) (deeds.Copy v)

-- what a record with its previous voucher does, or a code
abbrev pub change_of : ℕ → ℕ → ℕ → ℕ → Option Indices → Result (Option Change) Code
change_of version command key size previous =
    if is_core_command command then Err (code KERN_NO_ACCESS)
    else if is_plain_command command then (
    if not (size == 0) then Err (code KERN_INVALID_ARGUMENT)
    else if command == commands.NOOP then Ok None
    else if command == commands.COPY then copy_at version key previous
    else change_at (keys_named version key) (deeds.Remove previous))
    else Err (code KERN_INVALID_ARGUMENT)

-- with a previous voucher that was looked for
abbrev pub change_found : ℕ → ℕ → ℕ → ℕ → Option Indices → Result (Option Change) Code
change_found version command key size None = Err (code KERN_INVALID_CAPABILITY)
change_found version command key size (Some v) = change_of version command key size (Some v)

-- with the name of a previous voucher, where 0 names none
abbrev pub change_named : ℕ → (ℕ → Option Indices) → ℕ → ℕ → ℕ → ℕ → Result (Option Change) Code
change_named version names command key size name =
    if name == 0 then change_of version command key size None else change_found version command key size (names name)

-- the first record of what is left of the bytes
abbrev pub first_change : ℕ → (ℕ → Option Indices) → First → Result (Option Change) Code
first_change version names (One r rest) = change_named version names r.command r.key (length r.content) r.previous
first_change version names First.End = Err (code KERN_INVALID_ARGUMENT)
first_change version names (First.HeaderCut left) = Err (code KERN_INVALID_ARGUMENT)
first_change version names (First.ContentCut wanted left) = Err (code KERN_INVALID_ARGUMENT)

-- the vouchers of a task's names
abbrev pub named_by : Parts → ℕ → ℕ → Option Indices
named_by p t name = voucher_of (desk p.vouchers t).names name

-- the answer is what the first of some bytes does, and where the next record stands
pub record Reads (version : ℕ) (names : ℕ → Option Indices) (bytes : List ℕ) (place : ℕ) (result : Result Record Code) : Type 0 where
  pub done : IfOk result (λ r. first_change version names (first_of (drop place bytes)) ≡ Ok r.change)
  pub next : IfOk result (λ r. r.next ≡ place + size_of (first_of (drop place bytes)))
  pub refused : IfErr result (λ c. first_change version names (first_of (drop place bytes)) ≡ Err c)
