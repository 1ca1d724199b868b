-- After an event the parts are the end of a run again.
use Rattle.std.proofs.Common.{◌≡◌, ℕ, Bool, true, false, refl, sym, subst}
use Rattle.std.specs.Prelude.{IsTrue, IsFalse}
use Rattle.vch_base.specs.declared.kind.Kind.{Kind}
use Rattle.vch_bounds.specs.Bounded.{Limited}
use Rattle.vch_model.specs.declared.lists.Scenario.{Scenario}
use Rattle.vch_parts.specs.declared.parts.Parts.{Parts}
use Rattle.vch_parts.specs.Plain.{Plain}
use Rattle.vch_parts.specs.Phases.{PhaseFollows}
use Rattle.vch_parts.proofs.CallerLemmas.{reached_phase}
use Rattle.vch_parts.specs.Reached.{IsEnd, IsEvent, IsEventBy, Reached, Follows, MayFollow, plain_of}

one_on : (sc : Scenario) (want : Bool) (kind : Kind) (t : ℕ) (old new : Plain) → IsEnd sc old → IsEventBy sc want kind t old new → IsEnd sc new
unfolding IsEnd IsEventBy
one_on sc want kind t old new r f = let e = f r.0 r.1 in (e.0, e.3)

event_by : (sc : Scenario) (want : Bool) (kind : Kind) (t : ℕ) (old new : Plain) → IsEvent sc kind t old new → IsEventBy sc want kind t old new
unfolding IsEvent IsEventBy
event_by sc want kind t old new f = f want

-- an event for which memory makes no difference is one that may ask for it
pub may_follow : (kind : Kind) (t : ℕ) (old new : Parts) → Follows kind t old new → MayFollow kind t old new
may_follow kind t old new f = record { scenario = f.scenario; want = false; event = event_by old.scenario false kind t (plain_of old) (plain_of new) f.event }

pub reached_may : (kind : Kind) (t : ℕ) (old new : Parts) → Reached old → MayFollow kind t old new → Reached new
reached_may kind t old new r f = record {
  limited = subst Limited (sym f.scenario) r.limited;
  end = subst (λ sc. IsEnd sc (plain_of new)) (sym f.scenario) (one_on old.scenario f.want kind t (plain_of old) (plain_of new) r.end f.event);
}

-- and after the end of a phase, or where it did not end
pub reached_end : (done : Bool) (old new : Parts) → Reached old → (IsTrue done → PhaseFollows old new) → (IsFalse done → new ≡ old) → Reached new
reached_end true old new r ends stays = reached_phase old new r (ends refl)
reached_end false old new r ends stays = subst Reached (sym (stays refl)) r
