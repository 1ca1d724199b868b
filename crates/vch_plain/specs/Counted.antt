-- The vouchers that names and messages have, and how many different ones.
use Rattle.std.specs.Prelude.{ℕ, ◌+◌, List, [], ◌∷◌, ◌++◌, map, if◌then◌else◌, Option, Some, None}
use Rattle.std.specs.List.{flat_map, list_any}
use Rattle.vch_machine.specs.Naming.{same_handles}
use Rattle.vch_machine.specs.State.{Handles, Message, Named, Tasked}

-- the voucher of a message, where it has one
abbrev pub listed : Option Handles → List Handles
listed None = []
listed (Some v) = v ∷ []

abbrev pub name_handles : List Named → List Handles
name_handles names = map (λ (n : Named). n.voucher) names

abbrev pub queue_handles : List Message → List Handles
queue_handles queue = flat_map (λ (q : Message). listed q.voucher) queue

abbrev pub task_handles : Tasked → List Handles
task_handles x = name_handles x.names ++ queue_handles x.queue

abbrev pub all_handles : List Tasked → List Handles
all_handles tasks = flat_map task_handles tasks

-- each voucher counts where it stands last
abbrev pub different_handles : List Handles → ℕ
different_handles [] = 0
different_handles (v ∷ vs) = (if list_any (same_handles v) vs then 0 else 1) + different_handles vs
