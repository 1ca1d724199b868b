-- From what an event of a call does to the parts, to a run with one event more.
use Rattle.std.proofs.Common.{◌≡◌, ℕ, Bool, [], ◌∷◌, ◌++◌, sym, subst, Option, Some}
use Rattle.vch_base.specs.declared.kind.Kind.{Kind}
use Rattle.vch_model.specs.declared.lists.Scenario.{Scenario}
use Rattle.vch_machine.specs.State.{Machine, start}
use Rattle.vch_machine.specs.Next.{next_kind}
use Rattle.vch_machine.specs.Schedules.{Move}
use Rattle.vch_legal.specs.Tie.{Ties}
use Rattle.vch_legal.proofs.CallerLemmas.{reached_stands}
use Rattle.vch_frame.proofs.CallerLemmas.{run_on}
use Rattle.vch_parts.specs.declared.parts.Parts.{Parts}
use Rattle.vch_parts.specs.Plain.{Plain}
use Rattle.vch_parts.specs.Stands.{StandsFor}
use Rattle.vch_parts.specs.Reached.{plain_of, Reached, IsState, IsEnd, IsEventBy, IsNext, MayFollow}
use Rattle.vch_parts.proofs.CallerLemmas.{Happens}

-- what a state of a run gives
pub stands_of : (sc : Scenario) (c : Plain) (m : Machine) → IsState sc c m → StandsFor sc c m
unfolding IsState
stands_of sc c m s = s.2

pub ties_of : (sc : Scenario) (c : Plain) (m : Machine) → IsState sc c m → Ties sc m
unfolding IsState
ties_of sc c m s = reached_stands sc s.0 m s.1

-- some state that the parts stand for
pub from_state : (p : Parts) (P : Type 0) → Reached p → ((m : Machine) → IsState p.scenario (plain_of p) m → P) → P
unfolding IsEnd
from_state p P r f = f r.end.0 r.end.1

-- the kind of the next event in a state that the parts stand for
pub next_in : (p : Parts) (t : ℕ) (kind : Option Kind) (m : Machine) → IsNext p t kind → IsState p.scenario (plain_of p) m → next_kind p.scenario m t ≡ kind
unfolding IsNext
next_in p t kind m e s = e m s

-- the run goes on by the event
pub event_by : (sc : Scenario) (want : Bool) (kind : Kind) (t : ℕ) (c d : Plain) → ((m : Machine) → IsState sc c m → Happens sc want kind t d m) → IsEventBy sc want kind t c d
unfolding IsEventBy IsState
event_by sc want kind t c d f m s =
    let e = f m s in
    (e.0, e.1, e.2, (s.0 ++ Move.Of t want ∷ [], run_on sc s.0 (Some (start sc)) m e.0 (Move.Of t want) s.1 e.1, e.3))

-- an event of the parts, where they become what a law names
pub may_follow : (kind : Kind) (t : ℕ) (old new : Parts) (want : Bool) (d : Plain) → new.scenario ≡ old.scenario → plain_of new ≡ d
    → ((m : Machine) → IsState old.scenario (plain_of old) m → Happens old.scenario want kind t d m) → MayFollow kind t old new
may_follow kind t old new want d scenario same f = record {
  scenario = scenario;
  want = want;
  event = subst (λ x. IsEventBy old.scenario want kind t (plain_of old) x) (sym same) (event_by old.scenario want kind t (plain_of old) d f);
}
