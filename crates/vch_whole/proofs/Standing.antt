-- What parts at the end of a run give: a state that they stand for, and each task beside that of the state.
use Rattle.std.proofs.Common.{◌≡◌, ℕ, ◌-◌, ◌<◌, length, Bool, true, false, List, refl, sym, ap, ◌∙◌, subst, Option, Some, None, IsTrue}
use Rattle.std.specs.Prelude.{is_some}
use Rattle.vch_base.specs.declared.kind.Kind.{Kind}
use Rattle.vch_base.specs.Keyed.{Keyed}
use Rattle.vch_bounds.specs.Bounded.{Limited}
use Rattle.vch_model.specs.Lines.{is_task}
use Rattle.vch_machine.specs.State as machine
use Rattle.vch_machine.specs.State.{Machine, tasked}
use Rattle.vch_machine.specs.Next.{next_kind}
use Rattle.vch_machine.specs.Schedules.{Move, run_from_start}
use Rattle.vch_legal.specs.Tie.{Ties}
use Rattle.vch_legal.proofs.CallerLemmas.{reached_stands}
use Rattle.vch_frame.specs.Pairs.{Optional}
use Rattle.vch_values.specs.Parts.{KeyParts}
use Rattle.vch_vouchers.specs.Desks.{desk}
use Rattle.vch_parts.specs.declared.parts.Parts.{Parts}
use Rattle.vch_parts.specs.declared.frame.Frame.{Frame}
use Rattle.vch_parts.specs.Framed.{frame_of, begun_of, working_of}
use Rattle.vch_parts.specs.Plain.{Part, part_of}
use Rattle.vch_parts.specs.Shape.{IsFrame}
use Rattle.vch_parts.specs.Stands.{StandsFor}
use Rattle.vch_parts.specs.Reached.{IsState, IsEnd, Reached, Stands, IsNext, plain_of, part_in}
use Rattle.vch_parts.proofs.CallerLemmas.{in_parts, part_at}

-- a state that the parts stand for, and a run that ends there
pub record Reach (p : Parts) : Type 0 where
  pub moves : List Move
  pub m : Machine
  pub run : run_from_start p.scenario moves ≡ Some m
  pub limited : Limited p.scenario
  pub stands : StandsFor p.scenario (plain_of p) m
  pub state : Stands p m

pub reach : (p : Parts) → Reached p → Reach p
unfolding IsEnd IsState
reach p r = record { moves = r.end.1.0; m = r.end.0; run = r.end.1.1; limited = r.limited; stands = r.end.1.2; state = r.end.1 }

pub from_state : (p : Parts) (m : Machine) → Stands p m → StandsFor p.scenario (plain_of p) m × Ties p.scenario m
unfolding IsState
from_state p m s = (s.2, reached_stands p.scenario s.0 m s.1)

pub next_of : (p : Parts) (t : ℕ) (kind : Option Kind) (m : Machine) → IsNext p t kind → Stands p m → next_kind p.scenario m t ≡ kind
unfolding IsNext
next_of p t kind m e s = e m s

pub is_true : (b : Bool) → IsTrue b → b ≡ true
is_true true h = refl
is_true false h = cc

pub to_true : (b : Bool) → b ≡ true → IsTrue b
to_true b e = subst IsTrue (sym e) refl

optional_same : (x : Keyed KeyParts) (o : Option Frame) (q : Option machine.Frame) → Optional (IsFrame x) o q → is_some q ≡ is_some o
optional_same x None None r = refl
optional_same x None (Some g) r = absurd r
optional_same x (Some f) None r = absurd r
optional_same x (Some f) (Some g) r = refl

-- a task of the parts, beside that of the machine
module _ (p : Parts) (m : Machine) (t : ℕ) (s : Stands p m) (task : is_task p.scenario t ≡ true) where
  pub inside : (0 < t) × (t - 1 < length (plain_of p).tasks)
  inside = in_parts p.scenario (plain_of p) m t (from_state p m s).0 (from_state p m s).1 task

  own_part : part_of (plain_of p) t ≡ part_in (desk p.vouchers t) (working_of p.frames t)
  own_part = part_at p.vouchers p.frames t inside.0 inside.1

  -- it has a frame in the machine where it has one in the core
  pub frame_same : is_some (tasked m t).frame ≡ is_some (frame_of p.frames t)
  frame_same =
      optional_same p.values (part_of (plain_of p) t).frame (tasked m t).frame ((from_state p m s).0.shape.tasks t inside.0 inside.1).frame
      ∙ ap (λ (x : Part). is_some x.frame) own_part

  -- and has begun as many calls
  pub own_begun : begun_of p.frames t ≡ (tasked m t).begun
  own_begun = sym (ap (λ (x : Part). x.begun) own_part) ∙ ((from_state p m s).0.shape.tasks t inside.0 inside.1).begun
