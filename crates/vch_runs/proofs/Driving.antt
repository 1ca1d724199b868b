-- An order of steps.
use Rattle.std.proofs.Common.{◌≡◌, ℕ, zero, suc, ◌+◌, ◌<◌, ◌≤◌, nat_lt, Bool, true, false, not, List, [], ◌∷◌, refl, arith, sym, ap, ◌∙◌, length, drop, get_or, subst, Some, None}
use Rattle.std.specs.Prelude.{if◌then◌else◌}
use Rattle.std.specs.List.{AllByRecursion}
use Rattle.std.proofs.lemmas.Grind.{common_steps}
use Rattle.vch_model.specs.declared.lists.Scenario.{Scenario}
use Rattle.vch_model.specs.Lines.{is_task, phases_in}
use Rattle.vch_machine.specs.State.{Machine, tasked}
use Rattle.vch_machine.specs.Next.{next_kind}
use Rattle.vch_machine.specs.Events.{event, event_of}
use Rattle.vch_machine.specs.Schedules.{has_ended}
use Rattle.vch_parts.specs.declared.parts.Parts.{Parts}
use Rattle.vch_parts.specs.Reached.{Stands}
use Rattle.vch_runs.specs.declared.stepped.Stepped.{Stepped}
use Rattle.vch_runs.specs.declared.stepped.Stepped.TheVariants as result
use Rattle.vch_runs.specs.Steps.{Steps}
use Rattle.vch_runs.specs.Runs.{or_stays, stepped, driven, Drives}
use Rattle.vch_runs.proofs.Framed.{did, next_of}
use Rattle.vch_runs.proofs.Ending.{and_at, at_own, at_below, not_over}
use Rattle.vch_runs.proofs.Waiting.{same_phase}

-- a step as the machine makes it
pub record Moved (t : ℕ) (p q : Parts) : Type 0 where
  scenario : q.scenario ≡ p.scenario
  want : Bool
  stands : (m : Machine) → Stands p m → Stands q (stepped p.scenario want m t)

over : (p : Parts) (m : Machine) → Stands p m → length p.scenario.phases ≤ p.phase → has_ended p.scenario m ≡ true
over p m s l =
    let e : p.phase ≡ phases_in m.past = same_phase p m s in
    let t : nat_lt (phases_in m.past) (length p.scenario.phases) ≡ false = grind (arith, common_steps) in
    ap not t

went : (sc : Scenario) (want : Bool) (m n : Machine) (t : ℕ) → has_ended sc m ≡ false → event sc want m t ≡ Some n → stepped sc want m t ≡ n
went sc want m n t a e = rw (a, e) refl

ended : (sc : Scenario) (want : Bool) (m : Machine) (t : ℕ) → has_ended sc m ≡ true → stepped sc want m t ≡ m
ended sc want m t a = rw a refl

no_event : (sc : Scenario) (want : Bool) (m : Machine) (t : ℕ) → next_kind sc m t ≡ None → event sc want m t ≡ None
unfolding event
no_event sc want m t e = by (is_task sc t)
  where
    by : (b : Bool) → (if b then event_of sc want m t (tasked m t).frame (next_kind sc m t) else None) ≡ None
    by true = rw e refl
    by false = refl

waits : (sc : Scenario) (want : Bool) (m : Machine) (t : ℕ) → next_kind sc m t ≡ None → stepped sc want m t ≡ m
waits sc want m t e = by (has_ended sc m)
  where
    by : (b : Bool) → (if b then m else or_stays m (event sc want m t)) ≡ m
    by true = refl
    by false = ap (or_stays m) (no_event sc want m t e)

pub moved : (p q : Parts) (t : ℕ) (r : Stepped) → Steps p t r q → Moved t p q
moved p q t (result.Went kind next) s = record {
  scenario = s.2.scenario;
  want = s.2.want;
  stands = λ m b. let y = did p q t kind s.2 m b in subst (Stands q) (sym (went p.scenario s.2.want m y.n t (not_over p m b s.0) y.event)) y.stands;
}
moved p q t result.PhaseEnd s = record {
  scenario = ap (λ (x : Parts). x.scenario) s.2;
  want = false;
  stands = λ m b. subst (Stands q) (sym (waits p.scenario false m t (next_of p t None m s.1 b))) (subst (λ (x : Parts). Stands x m) (sym s.2) b);
}
moved p q t result.Ended s = record {
  scenario = ap (λ (x : Parts). x.scenario) s.1;
  want = false;
  stands = λ m b. subst (Stands q) (sym (ended p.scenario false m t (over p m b s.0))) (subst (λ (x : Parts). Stands x m) (sym s.1) b);
}

-- only wishes below the number of steps are looked at
driven_same : (sc : Scenario) (v w : ℕ → Bool) (order : List ℕ) (m : Machine) → ((i : ℕ) → i < length order → v i ≡ w i) → driven sc v order m ≡ driven sc w order m
driven_same sc v w [] m h = refl
driven_same sc v w (t ∷ order) m h =
    ap (λ b. driven sc v order (stepped sc b m t)) (h (length order) (omega arith))
    ∙ driven_same sc v w order (stepped sc (w (length order)) m t) (λ i l. h i (omega (arith, l)))

pub drives_none : (p : Parts) → Drives [] p p
drives_none p = record { scenario = refl; wants = λ _. false; stands = λ m s. s }

pub drives_more : (p q r : Parts) (t : ℕ) (order : List ℕ) → Moved t p q → Drives order q r → Drives (t ∷ order) p r
drives_more p q r t order a d = record {
  scenario = d.scenario ∙ a.scenario;
  wants = and_at (length order) a.want d.wants;
  stands = λ m s.
      let e : Stands r (driven p.scenario d.wants order (stepped p.scenario a.want m t)) =
      subst (λ sc. Stands r (driven sc d.wants order (stepped p.scenario a.want m t))) a.scenario (d.stands (stepped p.scenario a.want m t) (a.stands m s)) in
      subst (Stands r) (sym (ap (λ b. driven p.scenario (and_at (length order) a.want d.wants) order (stepped p.scenario b m t)) (at_own (length order) a.want d.wants)
      ∙ driven_same p.scenario (and_at (length order) a.want d.wants) d.wants order (stepped p.scenario a.want m t) (λ i l. at_below (length order) i a.want d.wants l))) e;
}

-- what the loop keeps: the rest of the order from here on is the whole from the start
pub record Driving (order : List ℕ) (initial now : Parts) (i : ℕ) : Type 0 where
  pub scenario : now.scenario ≡ initial.scenario
  pub goes_on : (new : Parts) → Drives (drop i order) now new → Drives order initial new

pub driving_first : (order : List ℕ) (p : Parts) → Driving order p p 0
driving_first order p = record { scenario = refl; goes_on = λ new d. d }

drop_at : (order : List ℕ) (i : ℕ) → i < length order → drop i order ≡ get_or order i 0 ∷ drop (i + 1) order
drop_at [] i l = absurd (omega (arith, l))
drop_at (t ∷ order) zero l = refl
drop_at (t ∷ order) (suc i) l = drop_at order i (omega (arith, l)) ∙ ap (λ n. get_or order i 0 ∷ drop n (t ∷ order)) (next i)
  where
    next : (i : ℕ) → suc (i + 1) ≡ suc i + 1
    next i = omega arith

pub driving_more : (order : List ℕ) (initial p q : Parts) (i : ℕ) (r : Stepped) → i < length order → Steps p (get_or order i 0) r q → Driving order initial p i → Driving order initial q (i + 1)
driving_more order initial p q i r l s d =
    let a = moved p q (get_or order i 0) r s in
    record {
      scenario = a.scenario ∙ d.scenario;
      goes_on = λ new e. d.goes_on new (subst (λ ts. Drives ts p new) (sym (drop_at order i l)) (drives_more p q new (get_or order i 0) (drop (i + 1) order) a e));
    }

drop_end : (order : List ℕ) (i : ℕ) → length order ≤ i → drop i order ≡ []
drop_end [] i l = drop_none i
  where
    none : List ℕ
    none = []

    drop_none : (i : ℕ) → drop i none ≡ none
    drop_none zero = refl
    drop_none (suc i) = refl
drop_end (t ∷ order) zero l = absurd (omega (arith, l))
drop_end (t ∷ order) (suc i) l = drop_end order i (omega (arith, l))

pub driving_last : (order : List ℕ) (initial p : Parts) (i : ℕ) → length order ≤ i → Driving order initial p i → Drives order initial p
driving_last order initial p i l d = d.goes_on p (subst (λ ts. Drives ts p p) (sym (drop_end order i l)) (drives_none p))

pub of_order : (sc : Scenario) (order : List ℕ) (i : ℕ) → AllByRecursion (λ t. is_task sc t ≡ true) order → i < length order → is_task sc (get_or order i 0) ≡ true
of_order sc [] i h l = absurd (omega (arith, l))
of_order sc (t ∷ order) zero h l = h.0
of_order sc (t ∷ order) (suc i) h l = of_order sc order i h.1 (omega (arith, l))
