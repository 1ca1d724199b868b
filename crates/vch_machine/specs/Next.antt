-- Which event of a task is next. The rule is this project's own.
use Rattle.std.specs.Prelude.{ℕ, ◌+◌, Bool, true, false, nat_lt, if◌then◌else◌, List, [], ◌∷◌, drop, Option, Some, None, is_some}
use Rattle.vch_base.specs.declared.key.Key.{Key}
use Rattle.vch_base.specs.declared.kind.Kind.{Kind}
use Rattle.vch_recipe.specs.Recipes.{First, One, first_of}
use Rattle.vch_model.specs.Legal.{asks}
use Rattle.vch_model.specs.Lines.{line_at, phases_in, lines_until}
use Rattle.vch_model.specs.Voucher.{Voucher, nothing}
use Rattle.vch_model.specs.declared.call.Call.{Call}
use Rattle.vch_model.specs.declared.call.Line.{Line}
use Rattle.vch_model.specs.declared.lists.Scenario.{Scenario}
use Rattle.vch_machine.specs.Naming.{handles_of}
use Rattle.vch_machine.specs.State.{Place, Named, Claim, Frame, Tasked, Machine, tasked, is_empty}
use Rattle.vch_model.specs.declared.call.Call.TheVariants as calls
use Rattle.vch_base.specs.declared.kind.Kind.TheVariants as kinds

-- the call of a line that may be none
abbrev pub call_in : Option (ℕ × Line) → Option Call
call_in None = None
call_in (Some l) = Some l.1.call

-- the call that a task begins as its n-th
abbrev pub nth_call : Scenario → ℕ → ℕ → Option Call
nth_call sc t n = call_in (line_at sc t n)

-- the call that a task has begun last
abbrev pub current : Scenario → Machine → ℕ → Option Call
current sc m t = nth_call sc t (tasked m t).begun

-- some voucher where the name is there, to ask only whether it is there
abbrev pub known_name : List Named → ℕ → Option Voucher
known_name names n = elim (handles_of names n) [
  | None ↦ None
  | Some v ↦ Some nothing
]

-- the event of a create at its next record: a Make where the record asks a manager, else a Work; at the end a Place
abbrev pub first_next : ℕ → List Named → First → Kind
first_next version names (One r rest) = if asks version (known_name names) r then kinds.Make else kinds.Work
first_next version names First.End = kinds.Place
first_next version names (First.HeaderCut left) = kinds.Work
first_next version names (First.ContentCut wanted left) = kinds.Work

-- the event of a call that is not answered: a send or recv makes one value for each key that is still to be asked, and an
-- exit gives up one thing an event
abbrev pub call_next : ℕ → List Named → ℕ → List Key → Option Call → Option Kind
call_next version names place ks None = None
call_next version names place ks (Some (calls.Create bytes)) = Some (first_next version names (first_of (drop place bytes)))
call_next version names place ks (Some calls.Exit) = Some kinds.Work
call_next version names place ks (Some call) = if is_empty ks then Some kinds.Place else Some kinds.Make

-- a claim is asked first and looked at again then
abbrev pub claim_next : Claim → Kind
claim_next c = if is_some c.answer then kinds.Recheck else kinds.Ask

-- with nothing to let go, the call goes on until it is answered
abbrev pub unanswered_next : ℕ → List Named → Frame → Option Call → Bool → Option Kind
unanswered_next version names f call true = None
unanswered_next version names f call false = call_next version names f.at_byte f.keys call

-- without a claim, what is to be let go comes first
abbrev pub lets_next : ℕ → List Named → Frame → Option Call → List Place → Option Kind
lets_next version names f call (p ∷ rest) = Some kinds.LetGo
lets_next version names f call [] = unanswered_next version names f call f.answered

-- without a receipt, a claim comes first
abbrev pub unclaimed_next : ℕ → List Named → Frame → Option Call → Option Claim → Option Kind
unclaimed_next version names f call (Some c) = Some (claim_next c)
unclaimed_next version names f call None = lets_next version names f call f.lets

-- a receipt comes before all else
abbrev pub frame_next : ℕ → List Named → Frame → Option Call → Option Place → Option Kind
frame_next version names f call (Some p) = Some kinds.Refer
frame_next version names f call None = unclaimed_next version names f call f.claim

-- the next event of a task, by what the task has, the lines of the scenario, and how many phases have ended
abbrev pub task_next : Scenario → ℕ → ℕ → Tasked → Option Frame → Option Kind
task_next sc phases t x (Some f) = frame_next sc.version x.names f (nth_call sc t x.begun) f.receipt
task_next sc phases t x None = if nat_lt x.begun (lines_until sc (phases + 1) t) then Some kinds.Begin else None

-- the next event of a task, or none where it has nothing to do in this phase
abbrev pub next_kind : Scenario → Machine → ℕ → Option Kind
next_kind sc m t = task_next sc (phases_in m.past) t (tasked m t) (tasked m t).frame
