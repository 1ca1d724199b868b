-- Every event keeps what bounds a run, since it pays and other tasks are as they were.
use Rattle.std.proofs.Common.{◌≡◌, ◌≢◌, ℕ, ◌+◌, ◌≤◌, Bool, List, [], ◌∷◌, refl, true, false, ◌&&◌, arith, sym, ap, ◌∙◌, subst, length, map, Some, None, Option}
use Rattle.std.specs.Prelude.{if◌then◌else◌, nat_lt}
use Rattle.vch_base.specs.declared.flags.Flags.{Flags}
use Rattle.vch_base.specs.declared.key.Key.{Key}
use Rattle.vch_base.specs.declared.key.Key.TheVariants as keys
use Rattle.vch_base.specs.Keyed.{of_key}
use Rattle.vch_model.specs.declared.call.Call.{Call}
use Rattle.vch_model.specs.declared.entry.Entry.TheVariants as entries
use Rattle.vch_model.specs.declared.lists.Scenario.{Scenario}
use Rattle.vch_model.specs.Lines.{is_task, phases_in}
use Rattle.vch_machine.specs.State.{Frame, Tasked, Machine, idle, tasked, start}
use Rattle.vch_machine.specs.Events.{event, event_of, phase_event, all_at_rest}
use Rattle.vch_machine.specs.Frames.{noted}
use Rattle.vch_machine.specs.Making.{on_frame}
use Rattle.vch_machine.specs.Next.{nth_call, next_kind}
use Rattle.vch_machine.specs.Schedules.{Move, happens}
use Rattle.vch_machine.proofs.CallerLemmas.{leaves_of, still, still_claim}
use Rattle.vch_legal.specs.Tie.{Ties}
use Rattle.vch_legal.proofs.CallerLemmas.{IsAmong, is_among, event_keeps}
use Rattle.vch_bounds.specs.Spent.{Spent, takes_of, lets_of, flying_of, takes_in, lets_in, flying_in, begun_in, in_all}
use Rattle.vch_bounds.specs.Sums.{sum_tasks}
use Rattle.vch_bounds.proofs.events.Events.{event_pays}
use Rattle.vch_bounds.proofs.events.Open.{MayPay}
use Rattle.vch_bounds.proofs.events.Paid.{Pays}
use Rattle.vch_bounds.proofs.lists.TaskSums.{sum_changed}

-- The start.

idle_sum : (f : ℕ → Tasked → ℕ) → ((t : ℕ) → f t idle ≡ 0) → (flags : List Flags) (t : ℕ)
    → sum_tasks f t (map (λ _. idle) flags) ≡ 0
idle_sum f none [] t = refl
idle_sum f none (x ∷ flags) t = let a = none t in let b = idle_sum f none flags (t + 1) in omega (arith, a, b)

pub start_spent : (sc : Scenario) → Spent sc (start sc)
start_spent sc = record {
  refers = let a = idle_sum (takes_in sc) (λ t. refl) sc.flags 1 in omega (arith, a);
  claims = let a = idle_sum (lets_in sc) (λ t. refl) sc.flags 1 in omega (arith, a);
  made = omega arith;
  used = by_key;
}
  where
    by_key : (k : Key) → (of_key k (start sc).pools).used ≤ 0 + 1
    by_key keys.Importance = omega arith
    by_key keys.Bank = omega arith
    by_key keys.User = omega arith
    by_key keys.Test = omega arith

-- An event.

-- what is counted of a task does not look at its queue and its claim
still_frame : (version : ℕ) (call : Option Call) (f : Option Frame) → takes_of version call (on_frame still_claim f) ≡ takes_of version call f
still_frame version call None = refl
still_frame version call (Some f) = refl

still_lets : (version : ℕ) (call : Option Call) (f : Option Frame) → lets_of version call (on_frame still_claim f) ≡ lets_of version call f
still_lets version call None = refl
still_lets version call (Some f) = refl

still_flying : (f : Option Frame) → flying_of (on_frame still_claim f) ≡ flying_of f
still_flying None = refl
still_flying (Some f) = refl

-- another task counts as before
others_same : (sc : Scenario) (want : Bool) (t u : ℕ) (m n : Machine) (f : ℕ → Tasked → ℕ) → ((x : Tasked) → f u (still x) ≡ f u x)
    → event sc want m t ≡ Some n → u ≢ t → f u (tasked n u) ≡ f u (tasked m u)
others_same sc want t u m n f same e apart =
    sym (same (tasked n u)) ∙ (ap (f u) (leaves_of sc want t u m n apart e).task ∙ same (tasked m u))

-- one event more, seen in a sum over the tasks
sum_after : (sc : Scenario) (want : Bool) (t : ℕ) (m n : Machine) (f : ℕ → Tasked → ℕ) → ((u : ℕ) (x : Tasked) → f u (still x) ≡ f u x)
    → event sc want m t ≡ Some n → IsAmong t m.tasks → length n.tasks ≡ length m.tasks
    → in_all f n + f t (tasked m t) ≡ in_all f m + f t (tasked n t)
sum_after sc want t m n f same e among long =
    sum_changed f m.tasks n.tasks t idle among.0 long (λ u apart. others_same sc want t u m n f (same u) e apart)

of_task : (sc : Scenario) (want : Bool) (t : ℕ) (m n : Machine) → event sc want m t ≡ Some n → is_task sc t ≡ true
unfolding event
of_task sc want t m n e = by_task (is_task sc t) e
  where
    by_task : (b : Bool) → (if b then event_of sc want m t (tasked m t).frame (next_kind sc m t) else None) ≡ Some n → b ≡ true
    by_task true e = refl
    by_task false e = cc

paid : (sc : Scenario) (want : Bool) (t : ℕ) (m n : Machine) → Ties sc m → is_task sc t ≡ true → event sc want m t ≡ Some n → Pays sc t m n
unfolding event
paid sc want t m n s task e =
    subst (MayPay sc t m) (by_task (is_task sc t) task e) (event_pays sc want t m s task)
  where
    by_task : (b : Bool) → b ≡ true → (if b then event_of sc want m t (tasked m t).frame (next_kind sc m t) else None) ≡ Some n
        → event_of sc want m t (tasked m t).frame (next_kind sc m t) ≡ Some n
    by_task true h e = e
    by_task false h e = cc

pub event_spent : (sc : Scenario) (want : Bool) (t : ℕ) (m n : Machine) → Ties sc m → Spent sc m → event sc want m t ≡ Some n → Spent sc n
event_spent sc want t m n s old e =
    let b = sum_after sc want t m n begun_in (λ u x. refl) e among long in
    record {
      refers =
          let a = sum_after sc want t m n (takes_in sc) (λ u x. still_frame sc.version (nth_call sc u x.begun) x.frame) e among long in
          omega (arith, a, b, pays.refers, old.refers);
      claims =
          let a = sum_after sc want t m n (lets_in sc) (λ u x. still_lets sc.version (nth_call sc u x.begun) x.frame) e among long in
          omega (arith, a, b, pays.claims, old.claims);
      made =
          let a = sum_after sc want t m n flying_in (λ u x. still_flying x.frame) e among long in
          omega (arith, a, pays.made, old.made);
      used = λ k. let a = pays.used k in let c = old.used k in omega (arith, a, c);
    }
  where
    task : is_task sc t ≡ true
    task = of_task sc want t m n e

    among : IsAmong t m.tasks
    among = is_among sc t m s.fits task

    long : length n.tasks ≡ length m.tasks
    long = (event_keeps sc want t m n s.fits e).tasks ∙ sym s.fits.tasks

    pays : Pays sc t m n
    pays = paid sc want t m n s task e

-- The end of a phase.

pub phase_spent : (sc : Scenario) (m n : Machine) → Spent sc m → phase_event sc m ≡ Some n → Spent sc n
unfolding phase_event
phase_spent sc m n old e = by_test (all_at_rest sc m && nat_lt (phases_in m.past) (length sc.phases)) e
  where
    some_eq : {x y : Machine} → Some x ≡ Some y → x ≡ y
    some_eq h = cc

    by_test : (b : Bool) → (if b then Some (noted m entries.Phase) else None) ≡ Some n → Spent sc n
    by_test true g = subst (Spent sc) (some_eq g) (record {
      refers = old.refers;
      claims = let a = old.claims in omega (arith, a);
      made = let a = old.made in omega (arith, a);
      used = λ k. let a = old.used k in omega (arith, a);
    })
    by_test false g = cc

pub move_spent : (sc : Scenario) (m n : Machine) (move : Move) → Ties sc m → Spent sc m → happens sc m move ≡ Some n → Spent sc n
move_spent sc m n (Move.Of t want) s old e = event_spent sc want t m n s old e
move_spent sc m n Move.EndPhase s old e = phase_spent sc m n old e
