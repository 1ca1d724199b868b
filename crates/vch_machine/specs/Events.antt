-- One event of a task, and the end of a phase.
use Rattle.std.specs.Prelude.{ℕ, zero, suc, ◌+◌, Bool, nat_lt, ◌&&◌, not, if◌then◌else◌, List, [], ◌∷◌, ◌++◌, length, Option, Some, None, is_some}
use Rattle.std.specs.List.{list_all}
use Rattle.vch_base.specs.declared.kind.Kind.{Kind}
use Rattle.vch_model.specs.Lines.{phases_in, lines_until, is_task}
use Rattle.vch_model.specs.declared.call.Call.{Call}
use Rattle.vch_model.specs.declared.call.Call.TheVariants as calls
use Rattle.vch_model.specs.declared.lists.Scenario.{Scenario}
use Rattle.vch_machine.specs.Beginning.{do_begin}
use Rattle.vch_machine.specs.Frames.{noted}
use Rattle.vch_machine.specs.Leaving.{do_let_go, do_ask, do_recheck}
use Rattle.vch_machine.specs.Making.{do_refer, do_make}
use Rattle.vch_machine.specs.Next.{current, next_kind}
use Rattle.vch_machine.specs.Placing.{do_place}
use Rattle.vch_machine.specs.State.{Handles, Place, Claim, Frame, Tasked, Machine, tasked}
use Rattle.vch_machine.specs.Working.{do_work, do_exit}
use Rattle.vch_model.specs.declared.entry.Entry.TheVariants as entries
use Rattle.vch_base.specs.declared.kind.Kind.TheVariants as kinds

-- an event on the voucher that is formed and the call, where both are there
abbrev pub on_formed : (Handles → Call → Option Machine) → Option Handles → Option Call → Option Machine
on_formed g (Some v) (Some call) = g v call
on_formed g v call = None

-- an event on a receipt, where there is one
abbrev pub on_place : (Place → Machine) → Option Place → Option Machine
on_place g None = None
on_place g (Some p) = Some (g p)

-- an event on the first place to be let go, where there is one
abbrev pub on_lets : (Place → List Place → Machine) → List Place → Option Machine
on_lets g [] = None
on_lets g (p ∷ rest) = Some (g p rest)

-- an event on the claim, where there is one
abbrev pub on_the_claim : (Claim → Machine) → Option Claim → Option Machine
on_the_claim g None = None
on_the_claim g (Some c) = Some (g c)

-- the event Work: of an exit, or of a call that forms a voucher
abbrev pub work_event : ℕ → Machine → ℕ → Frame → Option Call → Option Machine
work_event version m t f (Some calls.Exit) = Some (do_exit m t f)
work_event version m t f call = on_formed (λ v c. Some (do_work version m t f v c)) f.forming call

-- an event of a task that has a frame
abbrev pub frame_event : Scenario → Bool → Machine → ℕ → Frame → Kind → Option Machine
frame_event sc want m t f kinds.Begin = None
frame_event sc want m t f kinds.Work = work_event sc.version m t f (current sc m t)
frame_event sc want m t f kinds.Make = on_formed (λ v call. do_make sc want m t f v call) f.forming (current sc m t)
frame_event sc want m t f kinds.Refer =
    on_formed (λ v call. on_place (λ p. do_refer sc.version m t f v call p) f.receipt) f.forming (current sc m t)
frame_event sc want m t f kinds.Place = on_formed (λ v call. do_place sc want m t f v call) f.forming (current sc m t)
frame_event sc want m t f kinds.LetGo = on_lets (λ p rest. do_let_go m t f p rest) f.lets
frame_event sc want m t f kinds.Ask = on_the_claim (λ c. do_ask m t f c) f.claim
frame_event sc want m t f kinds.Recheck = on_the_claim (λ c. do_recheck m t f c) f.claim
frame_event sc want m t f kinds.Phase = None

-- an event of a task by its kind; without a frame it can only begin
abbrev pub event_of : Scenario → Bool → Machine → ℕ → Option Frame → Option Kind → Option Machine
event_of sc want m t frame None = None
event_of sc want m t None (Some kind) = do_begin sc want m t
event_of sc want m t (Some f) (Some kind) = frame_event sc want m t f kind

-- the next event of a task, or nothing where it has none. Out of memory is the one free choice; where an event takes no
-- memory it is not looked at
unfoldable pub event : Scenario → Bool → Machine → ℕ → Option Machine
event sc want m t = if is_task sc t then event_of sc want m t (tasked m t).frame (next_kind sc m t) else None

-- 1 to n
abbrev pub numbers : ℕ → List ℕ
numbers zero = []
numbers (suc n) = numbers n ++ suc n ∷ []

-- the tasks that have a next event, in the order given
abbrev pub ready : Scenario → Machine → List ℕ → List ℕ
ready sc m [] = []
ready sc m (t ∷ ts) = if is_some (next_kind sc m t) then t ∷ ready sc m ts else ready sc m ts

-- the task has no frame, and every call of the phase was begun; one that was begun and has no frame is answered
abbrev pub is_at_rest : Scenario → ℕ → ℕ → Tasked → Bool
is_at_rest sc phases t x = not (is_some x.frame) && not (nat_lt x.begun (lines_until sc (phases + 1) t))

-- so for every task
abbrev pub all_at_rest : Scenario → Machine → Bool
all_at_rest sc m = list_all (λ t. is_at_rest sc (phases_in m.past) t (tasked m t)) (numbers (length sc.flags))

-- the end of a phase, where every task is at rest and a phase is left
unfoldable pub phase_event : Scenario → Machine → Option Machine
phase_event sc m =
    if all_at_rest sc m && nat_lt (phases_in m.past) (length sc.phases) then Some (noted m entries.Phase) else None
