-- What a record without a manager does to the map, told before it is done.
use Rattle.std.specs.Prelude.{◌≡◌, ℕ, ◌+◌, List, [], Option, Some, Result, Ok, Err, ℤ}
use Rattle.vch_base.specs.Keyed.{of_key}
use Rattle.vch_base.specs.Keys.{managed}
use Rattle.vch_base.specs.declared.fault.Code.{Code}
use Rattle.vch_base.specs.declared.key.Key.{Key}
use Rattle.vch_recipe.specs.Recipes.{First}
use Rattle.vch_machine.specs.State.{Handles, Named}
use Rattle.vch_machine.specs.Working.{WorkDone, changed, changed_each, removes, size_of, work_first}
use Rattle.vch_plain.specs.declared.plans.Change.{Change}
use Rattle.vch_plain.specs.declared.plans.Change.TheVariants as changes
use Rattle.vch_plain.specs.declared.plans.Plan.{Plan}
use Rattle.vch_plain.specs.declared.plans.Plan.TheVariants as plans
use Rattle.vch_plain.specs.declared.plans.Planned.{Planned}

-- what a change makes of a key, or nothing where it stays
abbrev pub change_of : Change → Key → Option (Option ℕ)
change_of (changes.Copy v) k = Some (of_key k v)
change_of (changes.Remove previous map) k = removes previous map k

-- what a plan makes of the work
abbrev pub applied : ℕ → Plan → WorkDone → WorkDone
applied version plans.Nothing w = w
applied version (plans.At k c) w = changed k (change_of c k) w
applied version (plans.All c) w = changed_each (change_of c) (managed version) w

-- what a plan, or a code, comes to
abbrev pub outcome : ℕ → Result Plan Code → WorkDone → Result WorkDone ℤ
outcome version (Ok plan) w = Ok (applied version plan w)
outcome version (Err code) w = Err code.number

-- the map before the record
abbrev pub fresh_work : Handles → WorkDone
fresh_work map = record { forming = map; left = [] }

-- what the first record does, and the place behind it, or its code
abbrev pub Plans : ℕ → List Named → ℕ → First → Handles → Result Planned Code → Type 0
Plans version names at first map (Ok p) =
    (work_first version names first map ≡ Ok (applied version p.plan (fresh_work map))) × (p.next ≡ at + size_of first)
Plans version names at first map (Err code) = work_first version names first map ≡ Err code.number
