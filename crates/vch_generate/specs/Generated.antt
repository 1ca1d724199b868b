-- The generated scenario: 1,024 groups of eight calls, each over one voucher that one task makes and sends to the next. All of
-- it is this project's own.
use Rattle.std.specs.Prelude.{ℕ, zero, suc, ◌+◌, ◌%◌, true, false, List, [], ◌∷◌, ◌++◌, replicate}
use Rattle.vch_base.specs.Tasks.{at_task, set_task}
use Rattle.vch_base.specs.Words.{word}
use Rattle.vch_base.specs.declared.commands.TheConstants as commands
use Rattle.vch_base.specs.declared.flags.Flags.{Flags}
use Rattle.vch_base.specs.declared.key.Key.TheVariants as keys
use Rattle.vch_base.specs.declared.limits.TheConstants.{USUAL_QUEUE}
use Rattle.vch_base.specs.Keys.{number_of}
use Rattle.vch_recipe.specs.Recipes.{spelling}
use Rattle.vch_model.specs.declared.call.Call.TheVariants as calls
use Rattle.vch_model.specs.declared.call.Line.{Line}
use Rattle.vch_model.specs.declared.lists.Scenario.{Scenario}
use Rattle.vch_machine.specs.Schedules.{next_seed, drawn}

-- a record that a task gives to a manager, with no previous voucher
abbrev pub record_of : ℕ → ℕ → List ℕ → List ℕ
record_of key command content = spelling (record { key = key; command = command; previous = 0; content = content })

-- the array of a group: CREATE, SELF, and a STORE of one number
unfoldable pub array : ℕ → List ℕ
array content =
    record_of (number_of keys.Bank) commands.BANK_CREATE [] ++ (record_of (number_of keys.Importance) commands.IMPORTANCE_SELF []
    ++ record_of (number_of keys.User) commands.USER_DATA_STORE (word content))

-- a task makes the voucher of a group, which gets a name there, and sends it on
abbrev pub making : ℕ → ℕ → ℕ → ℕ → ℕ → List Line
making i a b content x =
    record { task = a; call = calls.Create (array content) } ∷ record { task = a; call = calls.Send b false x i } ∷ []

-- the other one receives it, with a name of its own, and is charged and counted
abbrev pub charging : ℕ → ℕ → ℕ → List Line
charging i b y =
    record { task = b; call = calls.Recv }
    ∷ record { task = b; call = calls.Charge y i }
    ∷ record { task = b; call = calls.Extern y true 1 }
    ∷ record { task = b; call = calls.Assertions } ∷ []

-- both give it up
abbrev pub leaving : ℕ → ℕ → ℕ → ℕ → List Line
leaving a b x y = record { task = b; call = calls.GiveUp y } ∷ record { task = a; call = calls.GiveUp x } ∷ []

-- the group with this number
abbrev pub group : ℕ → ℕ → ℕ → ℕ → ℕ → ℕ → List Line
group i a b content x y = making i a b content x ++ (charging i b y ++ leaving a b x y)

-- how many tasks, and how many groups
abbrev pub tasks : ℕ
tasks = 8

abbrev pub groups : ℕ
groups = 1024

-- the task that a draw gives, and the one behind it
abbrev pub maker : ℕ → ℕ
maker draw = 1 + draw % 8

abbrev pub taker : ℕ → ℕ
taker a = a % 8 + 1

-- so many names that each task was given, with one more of a task
abbrev pub one_more : List ℕ → ℕ → List ℕ
one_more names t = set_task names t (at_task names t 0 + 1)

-- what a group draws from the seed: the task that makes, and the content; then the seed of the next one
abbrev pub drawn_maker : ℕ → ℕ
drawn_maker seed = maker (drawn (next_seed seed))

abbrev pub drawn_content : ℕ → ℕ
drawn_content seed = drawn (next_seed (next_seed seed)) % 64

abbrev pub names_after : List ℕ → ℕ → List ℕ
names_after names a = one_more (one_more names a) (taker a)

-- so many groups from number `i` on
abbrev pub groups_from : ℕ → ℕ → ℕ → List ℕ → List Line
groups_from zero i seed names = []
groups_from (suc n) i seed names =
    group i (drawn_maker seed) (taker (drawn_maker seed)) (drawn_content seed)
    (at_task (names_after names (drawn_maker seed)) (drawn_maker seed) 0)
    (at_task (names_after names (drawn_maker seed)) (taker (drawn_maker seed)) 0)
    ++ groups_from n (i + 1) (next_seed (next_seed seed)) (names_after names (drawn_maker seed))

abbrev pub both : Flags
both = record { donor = true; receiver = true }

unfoldable pub lines_of : ℕ → List Line
lines_of n = groups_from groups 0 n (replicate tasks 0)

-- the scenario of a number: eight tasks that are donors and receivers, and one phase
abbrev pub generated : ℕ → Scenario
generated n = record {
  version = 1;
  flags = replicate tasks both;
  queues = replicate tasks USUAL_QUEUE;
  phases = lines_of n ∷ [];
}
