-- The tasks that have a next event stay the same where the task that went has one more.
use Rattle.std.proofs.Common.{◌≡◌, ◌≢◌, ℕ, ◌+◌, ◌<◌, ◌≤◌, Bool, true, false, List, [], ◌∷◌, refl, arith, sym, ap, ◌∙◌, length, subst, Option, Some, None}
use Rattle.std.specs.Prelude.{is_some, nat_lt, ◌==◌, if◌then◌else◌}
use Rattle.std.proofs.lemmas.Grind.{common_steps}
use Rattle.std.specs.List.{AllByRecursion}
use Rattle.vch_base.specs.declared.kind.Kind.TheVariants as kinds
use Rattle.vch_model.specs.declared.lists.Scenario.{Scenario}
use Rattle.vch_model.specs.Lines.{is_task, phases_in, lines_until}
use Rattle.vch_machine.specs.State.{Machine, Frame, tasked}
use Rattle.vch_machine.specs.Events.{ready}
use Rattle.vch_machine.specs.Next.{next_kind, task_next}
use Rattle.vch_legal.proofs.CallerLemmas.{reached_stands, opened_next, all_numbers, task_of}
use Rattle.vch_parts.specs.declared.parts.Parts.{Parts}
use Rattle.vch_parts.specs.Framed.{begun_of, frame_of}
use Rattle.vch_parts.specs.Reached.{Reached, Stands}
use Rattle.vch_runs.specs.Called.{HasNext}
use Rattle.vch_runs.specs.Turning.{all_of, AreReady, IsReady, StillReady, CanGo, Goes}
use Rattle.vch_runs.proofs.Framed.{Reach, reach, frame_same, own_begun}
use Rattle.vch_runs.proofs.Growing.{Grows, event_grows}
use Rattle.vch_runs.proofs.Waiting.{same_phase}
use Rattle.vch_runs.proofs.Turned.{same_next}
use Rattle.vch_runs.proofs.Apart.{Apart, event_apart}

-- a task with a frame has a next event, and one without it where a call of the phase is left
abbrev can_go : Bool → ℕ → Scenario → ℕ → ℕ → Bool
can_go framed begun sc phase u = if framed then true else nat_lt begun (lines_until sc (phase + 1) u)

abbrev can : Parts → ℕ → Bool
can p u = can_go (is_some (frame_of p.frames u)) (begun_of p.frames u) p.scenario p.phase u

none_is : (o : Option Frame) → is_some o ≡ false → o ≡ None
none_is None e = refl
none_is (Some f) e = absurd (cc)

begins : (b : Bool) → is_some (if b then Some kinds.Begin else None) ≡ b
begins true = refl
begins false = refl

own_can : (p : Parts) (u : ℕ) (r : Reached p) → is_task p.scenario u ≡ true → is_some (next_kind p.scenario (reach p r).m u) ≡ can p u
own_can p u r task = by (is_some (tasked x.m u).frame) refl
  where
    x : Reach p
    x = reach p r

    framed : is_some (tasked x.m u).frame ≡ is_some (frame_of p.frames u)
    framed = frame_same p x.m u x.state task

    by : (b : Bool) → is_some (tasked x.m u).frame ≡ b → is_some (next_kind p.scenario x.m u) ≡ can p u
    by true e =
        opened_next p.scenario x.m u ((reached_stands p.scenario x.moves x.m x.run).tasks u task) e
        ∙ sym (ap (λ c. can_go c (begun_of p.frames u) p.scenario p.phase u) (sym framed ∙ e))
    by false e =
        ap (λ o. is_some (task_next p.scenario (phases_in x.m.past) u (tasked x.m u) o)) (none_is (tasked x.m u).frame e)
        ∙ begins (nat_lt (tasked x.m u).begun (lines_until p.scenario (phases_in x.m.past + 1) u))
        ∙ ap (λ n. nat_lt n (lines_until p.scenario (phases_in x.m.past + 1) u)) (sym (own_begun p x.m u x.state task))
        ∙ ap (λ n. nat_lt (begun_of p.frames u) (lines_until p.scenario (n + 1) u)) (sym (same_phase p x.m x.state))
        ∙ sym (ap (λ c. can_go c (begun_of p.frames u) p.scenario p.phase u) (sym framed ∙ e))

next_can : (p : Parts) (u : ℕ) → Reached p → is_task p.scenario u ≡ true → (m : Machine) → Stands p m → is_some (next_kind p.scenario m u) ≡ can p u
next_can p u r task m s = let x = reach p r in ap is_some (same_next p u x.m m task x.state s) ∙ own_can p u r task

-- another task can go after the event exactly where it could before
others_can : (p q : Parts) (t u : ℕ) → Reached p → Goes (Some t) p q → is_task p.scenario u ≡ true → u ≢ t → can q u ≡ can p u
others_can p q t u r f task other =
    let x = reach p r in
    let y = f.move x.m x.state in
    let a : Apart t x.m y.0 = event_apart p.scenario f.want t x.m y.0 y.1 in
    let g : Grows x.m y.0 = event_grows p.scenario f.want t x.m y.0 y.1 in
    let task' : is_task q.scenario u ≡ true = subst (λ sc. is_task sc u ≡ true) (sym f.scenario) task in
    let framed : is_some (frame_of q.frames u) ≡ is_some (frame_of p.frames u) = sym (frame_same q y.0 u y.2 task') ∙ a.frames u other ∙ frame_same p x.m u x.state task in
    let begun : begun_of q.frames u ≡ begun_of p.frames u = own_begun q y.0 u y.2 task' ∙ a.begun u other ∙ sym (own_begun p x.m u x.state task) in
    let phase : q.phase ≡ p.phase = same_phase q y.0 y.2 ∙ g.phases ∙ sym (same_phase p x.m x.state) in
    ap (λ c. can_go c (begun_of q.frames u) q.scenario q.phase u) framed
    ∙ ap (λ n. can_go (is_some (frame_of p.frames u)) n q.scenario q.phase u) begun
    ∙ ap (λ sc. can_go (is_some (frame_of p.frames u)) (begun_of p.frames u) sc q.phase u) f.scenario
    ∙ ap (λ n. can_go (is_some (frame_of p.frames u)) (begun_of p.frames u) p.scenario n u) phase

same_ready : (sc sd : Scenario) (m n : Machine) (ts : List ℕ) → AllByRecursion (λ u. is_some (next_kind sd n u) ≡ is_some (next_kind sc m u)) ts → ready sd n ts ≡ ready sc m ts
same_ready sc sd m n [] h = refl
same_ready sc sd m n (t ∷ ts) h =
    ap (λ b. if b then t ∷ ready sd n ts else ready sd n ts) h.0
    ∙ ap (λ us. if is_some (next_kind sc m t) then t ∷ us else us) (same_ready sc sd m n ts h.1)

is_equal : (a b : ℕ) → (a == b) ≡ true → a ≡ b
is_equal a b e = grind (arith, common_steps)

is_other : (a b : ℕ) → (a == b) ≡ false → a ≢ b
is_other a b e z = let same : (a == b) ≡ true = grind (arith, common_steps) in cc

ready_kept : (p q : Parts) (t : ℕ) (tasks : List ℕ) → Reached p → Reached q → CanGo p (Some t) → Goes (Some t) p q → AreReady p tasks → IsReady q t true → AreReady q tasks
unfolding AreReady IsReady HasNext
ready_kept p q t tasks r k c f a e m s =
    ap (λ sc. ready q.scenario m (all_of sc)) f.scenario
    ∙ same_ready p.scenario q.scenario x.m m (all_of p.scenario) (all_numbers (λ u. is_some (next_kind q.scenario m u) ≡ is_some (next_kind p.scenario x.m u)) (length p.scenario.flags) (λ u l h. each u l h (u == t) refl))
    ∙ a x.m x.state
  where
    x : Reach p
    x = reach p r

    each : (u : ℕ) → 0 < u → u ≤ length p.scenario.flags → (b : Bool) → (u == t) ≡ b → is_some (next_kind q.scenario m u) ≡ is_some (next_kind p.scenario x.m u)
    each u l h true d = subst (λ v. is_some (next_kind q.scenario m v) ≡ is_some (next_kind p.scenario x.m v)) (sym (is_equal u t d)) (e m s ∙ sym (c.1 x.m x.state))
    each u l h false d =
        let task : is_task p.scenario u ≡ true = task_of p.scenario u l h in
        next_can q u k (subst (λ sc. is_task sc u ≡ true) (sym f.scenario) task) m s ∙ others_can p q t u r f task (is_other u t d) ∙ sym (next_can p u r task x.m x.state)

pub still_kept : (p q : Parts) (choice : Option ℕ) (b : Bool) (tasks : List ℕ) → Reached p → Reached q → CanGo p choice → Goes choice p q → AreReady p tasks → StillReady q choice b → b ≡ true → AreReady q tasks
still_kept p q None b tasks r k c f a e i = absurd (cc)
still_kept p q (Some t) b tasks r k c f a e i = ready_kept p q t tasks r k c f a (subst (IsReady q t) i e)
