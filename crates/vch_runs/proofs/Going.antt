-- The move that was chosen is made.
use Rattle.std.proofs.Common.{◌≡◌, ℕ, ◌<◌, Bool, false, List, [], ◌∷◌, length, sym, ap, refl, subst, Option, Some, None, IsTrue}
use Rattle.std.specs.Prelude.{is_some, if◌then◌else◌, ◌↔◌}
use Rattle.std.specs.List.{AllByRecursion}
use Rattle.vch_base.specs.declared.kind.Kind.{Kind}
use Rattle.vch_model.specs.declared.lists.Scenario.{Scenario}
use Rattle.vch_machine.specs.Events.{ready}
use Rattle.vch_legal.proofs.CallerLemmas.{number_of_all}
use Rattle.vch_parts.specs.Phases.{IsOver, IsPhaseEnd, PhaseFollows}
use Rattle.vch_runs.proofs.Quiet.{over_of, number_within}
use Rattle.vch_machine.specs.State.{Machine}
use Rattle.vch_machine.specs.Next.{next_kind}
use Rattle.vch_parts.specs.declared.parts.Parts.{Parts}
use Rattle.vch_parts.specs.Reached.{Reached, IsState, MayFollow, IsNext, plain_of}
use Rattle.vch_runs.specs.Called.{HasNext}
use Rattle.vch_runs.specs.Turning.{all_of, IsResting, CanGo, Goes}
use Rattle.vch_runs.proofs.Framed.{did, next_of, is_true}

pub goes_event : (t : ℕ) (kind : Kind) (p q : Parts) → MayFollow kind t p q → Goes (Some t) p q
goes_event t kind p q f = record { scenario = f.scenario; want = f.want; move = λ m s. let y = did p q t kind f m s in (y.n, y.event, y.stands) }

pub has_next : (p : Parts) (t : ℕ) (kind : Kind) → IsNext p t (Some kind) → HasNext p t
unfolding HasNext
has_next p t kind e m s = ap is_some (next_of p t (Some kind) m e s)

-- The end of a phase.

ready_none : (sc : Scenario) (m : Machine) (ts : List ℕ) → ready sc m ts ≡ [] → AllByRecursion (λ t. next_kind sc m t ≡ None) ts
ready_none sc m [] e = tt
ready_none sc m (t ∷ ts) e = by (next_kind sc m t) refl e (ready_none sc m ts)
  where
    by : (o : Option Kind) → next_kind sc m t ≡ o → (if is_some o then t ∷ ready sc m ts else ready sc m ts) ≡ [] → (ready sc m ts ≡ [] → AllByRecursion (λ t. next_kind sc m t ≡ None) ts) → AllByRecursion (λ t. next_kind sc m t ≡ None) (t ∷ ts)
    by None q z f = (q, f z)
    by (Some k) q z f = absurd (cc)

pub resting_over : (p : Parts) → Reached p → p.phase < length p.scenario.phases → IsResting p → IsOver p
unfolding IsResting IsNext
resting_over p r left rest =
    over_of p r left (λ t task m s.
    let n = number_within p.scenario t (is_true _ task) in
    number_of_all (λ u. next_kind p.scenario m u ≡ None) (length p.scenario.flags) (ready_none p.scenario m (all_of p.scenario) (rest m s)) t n.0 n.1)

goes_phase : (p q : Parts) → PhaseFollows p q → Goes None p q
unfolding IsPhaseEnd
goes_phase p q f = record { scenario = f.scenario; want = false; move = λ m s. let e = f.event m s in (e.0, e.1, subst (λ sc. IsState sc (plain_of q) e.0) (sym f.scenario) e.2) }

pub phase_goes : (p q : Parts) (done : Bool) → Reached p → CanGo p None → (IsTrue done ↔ IsOver p) → (IsTrue done → PhaseFollows p q) → Goes None p q
phase_goes p q done r can exact ends = goes_phase p q (ends (exact.1 (resting_over p r can.0 can.1)))
