-- The events of a frame by what they need: the call, or the claim.
use Rattle.std.specs.Prelude.{ℕ, false, Option, Some, None}
use Rattle.vch_base.specs.declared.kind.Kind.{Kind}
use Rattle.vch_base.specs.declared.kind.Kind.TheVariants as kinds
use Rattle.vch_model.specs.declared.call.Call.{Call}
use Rattle.vch_model.specs.declared.lists.Scenario.{Scenario}
use Rattle.vch_machine.specs.Events.{on_formed, on_place, on_the_claim, work_event}
use Rattle.vch_machine.specs.Leaving.{do_ask, do_recheck}
use Rattle.vch_machine.specs.Making.{do_make, do_refer}
use Rattle.vch_machine.specs.Placing.{do_place}
use Rattle.vch_machine.specs.State.{Frame, Machine}

-- an event that carries the call on
abbrev pub call_event : Scenario → Machine → ℕ → Frame → Call → Kind → Option Machine
call_event sc m t f call kinds.Begin = None
call_event sc m t f call kinds.Work = work_event sc.version m t f (Some call)
call_event sc m t f call kinds.Make = on_formed (λ v c. do_make sc false m t f v c) f.forming (Some call)
call_event sc m t f call kinds.Refer = on_formed (λ v c. on_place (λ p. do_refer sc.version m t f v c p) f.receipt) f.forming (Some call)
call_event sc m t f call kinds.Place = on_formed (λ v c. do_place sc false m t f v c) f.forming (Some call)
call_event sc m t f call kinds.LetGo = None
call_event sc m t f call kinds.Ask = None
call_event sc m t f call kinds.Recheck = None
call_event sc m t f call kinds.Phase = None

-- an event of the frame's claim
abbrev pub claim_event : Machine → ℕ → Frame → Kind → Option Machine
claim_event m t f kinds.Begin = None
claim_event m t f kinds.Work = None
claim_event m t f kinds.Make = None
claim_event m t f kinds.Refer = None
claim_event m t f kinds.Place = None
claim_event m t f kinds.LetGo = None
claim_event m t f kinds.Ask = on_the_claim (λ c. do_ask m t f c) f.claim
claim_event m t f kinds.Recheck = on_the_claim (λ c. do_recheck m t f c) f.claim
claim_event m t f kinds.Phase = None
