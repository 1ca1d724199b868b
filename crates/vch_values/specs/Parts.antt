-- What stands at each managed key. Which keys are managed, and their managers, is this project's own but for user data.
use Rattle.std.specs.Prelude.{◌≡◌, ◌⊎◌, ℕ, List, [], length, replicate, slice_index_or, Option, Some, None}
use Rattle.std.specs.List.{count_by, sum_by}
use Rattle.vch_base.specs.declared.flags.Flags.{Flags}
use Rattle.vch_base.specs.declared.key.Key.{Key}
use Rattle.vch_base.specs.declared.key.Key.TheVariants as keys
use Rattle.vch_base.specs.Keyed.{Keyed, of_key}
use Rattle.vch_base.specs.Keys.{every_key}
use Rattle.vch_base.specs.Managers.{Kept, Rules, no_flags, user_rules}
use Rattle.vch_base.specs.Slots.{is_taken}
use Rattle.vch_entry.specs.Entries.{Entries}
use Rattle.vch_importance.specs.Assertions.{importance_rules, new_importance}
use Rattle.vch_bank.specs.Bank.{bank_rules, new_bank}

-- the entries, what the manager keeps, and the numbers of the Made entries of the live values by their handles
pub record KeyParts : Type 0 where
  pub entries : Entries
  pub kept : Kept
  pub numbers : List ℕ

-- the number at a handle, or 0, which is no entry's
abbrev pub number_at : List ℕ → ℕ → ℕ
number_at numbers h = slice_index_or numbers h 0

-- The managers' rules.

-- the rules of a key's manager where the tasks 1, 2, 3 and so on have these flags; that of the key of tests is one of user data
abbrev pub rules_at : Key → List Flags → Rules
rules_at keys.Importance flags = importance_rules flags
rules_at keys.Bank flags = bank_rules (length flags)
rules_at keys.User flags = user_rules
rules_at keys.Test flags = user_rules

-- the tasks that a key's manager knows: flags count for importance alone, and user data's knows every task
abbrev pub tasks_at : Key → List Flags → Option (List Flags)
tasks_at keys.Importance flags = Some flags
tasks_at keys.Bank flags = Some (replicate (length flags) no_flags)
tasks_at keys.User flags = None
tasks_at keys.Test flags = None

abbrev pub or_no_tasks : Option (List Flags) → List Flags
or_no_tasks None = []
or_no_tasks (Some flags) = flags

-- the flags of the tasks, which the manager of importance keeps
abbrev pub flags_of : Keyed KeyParts → List Flags
flags_of x = or_no_tasks x.importance.kept.rules.tasks

-- each manager has the rules of its key, all for the same tasks
abbrev pub AreRuled : Keyed Rules → Type 0
AreRuled x = (k : Key) → of_key k x ≡ rules_at k (or_no_tasks x.importance.tasks)

-- The start.

-- a manager of user data without values
abbrev pub new_user : Kept
new_user = record { slots = []; free = []; ledgers = []; asked = 0; rules = user_rules }

-- what the manager of a key keeps at the start: the bank's has Default, and the others have no value
abbrev pub new_kept : Key → List Flags → Kept
new_kept keys.Importance flags = new_importance flags
new_kept keys.Bank flags = new_bank (length flags)
new_kept keys.User flags = new_user
new_kept keys.Test flags = new_user

-- no entry, no number, and a new manager
pub record IsNew (k : Key) (flags : List Flags) (x : KeyParts) : Type 0 where
  pub entries : x.entries.slots ≡ []
  pub kept : x.kept ≡ new_kept k flags
  pub numbers : x.numbers ≡ []

-- Sums over the keys.

-- how many values are live
abbrev pub live_in : Keyed KeyParts → ℕ
live_in x = sum_by (λ k. count_by is_taken (of_key k x).kept.slots) every_key

-- how many releases the managers were asked for
abbrev pub asked_in : Keyed KeyParts → ℕ
asked_in x = sum_by (λ k. (of_key k x).kept.asked) every_key

-- a key whose values are bytes
abbrev pub HasBytes : Key → Type 0
HasBytes k = (k ≡ keys.User) ⊎ (k ≡ keys.Test)
