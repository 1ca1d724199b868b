-- An event that does to its own task what it should leaves a state in which all stands.
use Rattle.std.proofs.Common.{◌≡◌, ◌≢◌, ℕ, ◌+◌, ◌≤◌, Bool, List, ◌∷◌, refl, true, false, arith, sym, subst, length, Some, None, Option}
use Rattle.std.specs.Prelude.{if◌then◌else◌, ◌==◌, nat_lt, is_some}
use Rattle.vch_model.specs.declared.entry.Entry.{Entry}
use Rattle.vch_model.specs.declared.entry.Entry.TheVariants as entries
use Rattle.vch_model.specs.declared.lists.Scenario.{Scenario}
use Rattle.vch_model.specs.Lines.{calls_in, phases_in, is_task, lines_until, lines_of}
use Rattle.vch_machine.specs.State.{Frame, Tasked, Machine, idle, tasked, member_of}
use Rattle.vch_machine.specs.Next.{task_next}
use Rattle.vch_machine.specs.Events.{event, event_of}
use Rattle.vch_machine.proofs.CallerLemmas.{leaves_of}
use Rattle.vch_legal.specs.Facts.{Fits, bit}
use Rattle.vch_legal.specs.Tie.{IsForming, is_answering, IsOpen, TaskStands, Ties}
use Rattle.vch_legal.proofs.facts.Choices.{cases_bool, number_eq}
use Rattle.vch_legal.proofs.tasks.TaskItems.{none_at}
use Rattle.vch_legal.proofs.lines.PhaseLines.{all_lines}
use Rattle.vch_legal.proofs.steps.Follows.{Follows, follows_store, follows_legal, follows_phases}
use Rattle.vch_legal.proofs.steps.Lifts.{Lives, other_stands}

-- what an event does to the history, the values and its own task
pub record Step (sc : Scenario) (t : ℕ) (m n : Machine) : Type 0 where
  pub follows : Follows sc t m n
  pub lives : Lives m n
  pub counted : (tasked n t).begun ≡ calls_in n.past t + bit (is_answering (tasked n t).frame)
  pub begun : (tasked n t).begun ≤ lines_until sc (phases_in m.past + 1) t
  pub forming : IsForming sc n.live (member_of n.live (tasked n t)) t (tasked n t).begun (tasked n t).frame
  pub open_frame : IsOpen (tasked n t).frame

more_calls : (e : Entry) (past : List Entry) (t : ℕ) → calls_in past t ≤ calls_in (e ∷ past) t
more_calls (entries.Call u n word reply) past t = omega arith
more_calls (entries.Made k x) past t = omega arith
more_calls (entries.Released e) past t = omega arith
more_calls (entries.Gone u name) past t = omega arith
more_calls (entries.Lost u) past t = omega arith
more_calls entries.Phase past t = omega arith

follows_more : (sc : Scenario) (t : ℕ) (m n : Machine) → Follows sc t m n → calls_in m.past t ≤ calls_in n.past t
follows_more sc t m n (Follows.Quiet p s) = subst (λ past. calls_in m.past t ≤ calls_in past t) (sym p) (omega arith)
follows_more sc t m n (Follows.Adds x p s c o) = subst (λ past. calls_in m.past t ≤ calls_in past t) (sym p)
    (more_calls x m.past t)

own_stands : (sc : Scenario) (t : ℕ) (m n : Machine) → Step sc t m n → TaskStands sc m.past m.live t (tasked m t)
    → TaskStands sc n.past n.live t (tasked n t)
own_stands sc t m n step s =
    let p : phases_in n.past ≡ phases_in m.past = follows_phases sc t m n step.follows in
    let more : calls_in m.past t ≤ calls_in n.past t = follows_more sc t m n step.follows in
    let old : lines_until sc (phases_in m.past) t ≤ calls_in m.past t = s.answered in
    record {
      counted = step.counted;
      begun = subst (λ q. (tasked n t).begun ≤ lines_until sc (q + 1) t) (sym p) step.begun;
      answered = subst (λ q. lines_until sc q t ≤ calls_in n.past t) (sym p) (omega arith);
      forming = step.forming;
      open_frame = step.open_frame;
    }

-- without a frame, and with no call left, nothing happens
nothing_left : (sc : Scenario) (want : Bool) (m : Machine) (t : ℕ) → (tasked m t).frame ≡ None
    → nat_lt (tasked m t).begun (lines_until sc (phases_in m.past + 1) t) ≡ false → event sc want m t ≡ None
unfolding event
nothing_left sc want m t e h = of_task (is_task sc t) (tasked m t).frame e
  where
    of_task : (b : Bool) (f : Option Frame) → f ≡ None →
        (if b then event_of sc want m t f (task_next sc (phases_in m.past) t (tasked m t) f) else None) ≡ None
    of_task false f g = refl
    of_task true None g = rw h refl
    of_task true (Some f) g = cc

-- after the last phase nothing happens
ended_event : (sc : Scenario) (want : Bool) (m n : Machine) (t : ℕ) → Ties sc m → is_task sc t ≡ true
    → nat_lt (phases_in m.past) (length sc.phases) ≡ false → event sc want m t ≡ Some n → ⊥
ended_event sc want m n t s task over e =
    let f : (tasked m t).frame ≡ None = no_frame (tasked m t).frame
    (none_at (λ (x : Tasked). is_some x.frame) m.tasks t idle refl (s.rest over)) in
    let past : length sc.phases ≤ phases_in m.past = at_end (phases_in m.past) (length sc.phases) over in
    let a : lines_until sc (phases_in m.past + 1) t ≡ length (lines_of sc t) = all_lines sc t (phases_in m.past + 1)
    (omega arith) in
    let b : lines_until sc (phases_in m.past) t ≡ length (lines_of sc t) = all_lines sc t (phases_in m.past) past in
    let c : lines_until sc (phases_in m.past) t ≤ calls_in m.past t = (s.tasks t task).answered in
    let d : (tasked m t).begun ≡ calls_in m.past t + bit (is_answering (tasked m t).frame) = (s.tasks t task).counted
    in
    let i : event sc want m t ≡ None = nothing_left sc want m t f
    (not_below (tasked m t).begun (lines_until sc (phases_in m.past + 1) t) (omega arith)) in
    cc
  where
    no_frame : (f : Option Frame) → is_some f ≡ false → f ≡ None
    no_frame None g = refl
    no_frame (Some f) g = cc

    at_end : (a b : ℕ) → nat_lt a b ≡ false → b ≤ a
    at_end a b h = grind arith

    not_below : (a b : ℕ) → b ≤ a → nat_lt a b ≡ false
    not_below a b h = grind arith

-- all stands after the event
pub stands_after : (sc : Scenario) (want : Bool) (t : ℕ) (m n : Machine) → Ties sc m → is_task sc t ≡ true
    → event sc want m t ≡ Some n → Fits sc n → Step sc t m n → Ties sc n
stands_after sc want t m n s task e fits step = record {
  fits = fits;
  same_store = follows_store sc t m n step.follows s.same_store;
  tasks = λ u k. cases_bool (u == t) (TaskStands sc n.past n.live u (tasked n u))
      (λ same. subst (λ i. TaskStands sc n.past n.live i (tasked n i)) (sym (number_eq u t same))
      (own_stands sc t m n step (s.tasks t task)))
      (λ other. let apart : u ≢ t = λ i. differ u t other i in
      other_stands sc t u m n apart (leaves_of sc want t u m n apart e) step.follows step.lives (s.tasks u k));
  phases = subst (λ p. p ≤ length sc.phases) (sym (follows_phases sc t m n step.follows)) s.phases;
  rest = λ over. absurd (ended_event sc want m n t s task
      (subst (λ p. nat_lt p (length sc.phases) ≡ false) (follows_phases sc t m n step.follows) over) e);
  legal = follows_legal sc t m n step.follows s.same_store s.legal;
}
  where
    differ : (a b : ℕ) → (a == b) ≡ false → a ≡ b → ⊥
    differ a b e f = grind arith
