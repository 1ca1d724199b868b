-- How often a handle is held by the vouchers of names and messages, each different one once.
use Rattle.std.specs.Prelude.{ℕ, ◌+◌, Bool, List}
use Rattle.std.specs.List.{list_any, flat_map}
use Rattle.vch_base.specs.declared.key.Key.{Key}
use Rattle.vch_base.specs.Managers.{count}
use Rattle.vch_machine.specs.Naming.{same_handles}
use Rattle.vch_machine.specs.State.{Handles, Tasked}
use Rattle.vch_parts.specs.Pictures.{task_vouchers, different, voucher_holds, task_holds}

-- how often a voucher holds a handle of a key: once or not at all
abbrev pub holds_in : Key → ℕ → Handles → ℕ
holds_in k h v = count h (voucher_holds k v)

-- how often the different ones of some vouchers hold it
abbrev pub known_in : Key → ℕ → List Handles → ℕ
known_in k h vs = count h (flat_map (voucher_holds k) (different vs))

-- one of some vouchers is this one
abbrev pub is_among : Handles → List Handles → Bool
is_among v vs = list_any (same_handles v) vs

-- the vouchers of all tasks
abbrev pub vouchers_in : List Tasked → List Handles
vouchers_in tasks = flat_map task_vouchers tasks

-- how often the frames of tasks hold a handle, and how often they and the vouchers of names and messages do
abbrev pub frames_in : Key → ℕ → List Tasked → ℕ
frames_in k h tasks = count h (flat_map (task_holds k) tasks)

abbrev pub held_in : Key → ℕ → List Tasked → ℕ
held_in k h tasks = frames_in k h tasks + known_in k h (vouchers_in tasks)
