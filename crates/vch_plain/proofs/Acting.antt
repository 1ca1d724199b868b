-- What the events of a frame come to, and the facts that they need of a reachable state.
use Rattle.std.proofs.Common.{◌≡◌, ℕ, ◌+◌, Bool, true, false, refl, ap, ◌∙◌, subst, arith, length, Option, Some, None}
use Rattle.std.specs.Prelude.{IsSome, nat_lt, ◌&&◌}
use Rattle.std.proofs.lemmas.Grind.{common_steps}
use Rattle.vch_base.specs.declared.key.Key.{Key}
use Rattle.vch_base.specs.declared.key.Key.TheVariants as keys
use Rattle.vch_base.specs.declared.kind.Kind.{Kind}
use Rattle.vch_base.specs.declared.kind.Kind.TheVariants as kinds
use Rattle.vch_base.specs.declared.value.Value.{Value}
use Rattle.vch_base.specs.declared.value.Value.TheVariants as values
use Rattle.vch_base.specs.Values.{Belongs}
use Rattle.vch_model.specs.declared.call.Call.{Call}
use Rattle.vch_model.specs.declared.call.Call.TheVariants as calls
use Rattle.vch_model.specs.declared.lists.Scenario.{Scenario}
use Rattle.vch_model.specs.Legal.{is_exit}
use Rattle.vch_model.specs.Lines.{is_task}
use Rattle.vch_model.specs.Scenarios.{IsLimited}
use Rattle.vch_machine.specs.Beginning.{do_begin}
use Rattle.vch_machine.specs.Events.{event, event_of, frame_event, on_formed, work_event}
use Rattle.vch_machine.specs.Next.{current, next_kind}
use Rattle.vch_machine.specs.State.{Frame, Living, Machine, living_at, tasked, value_at}
use Rattle.vch_machine.specs.Working.{do_exit, do_work}
use Rattle.vch_legal.specs.Tie.{Ties}
use Rattle.vch_plain.specs.Acts.{call_event}
use Rattle.vch_plain.specs.Answers.{HasTask, HaveTask}
use Rattle.vch_plain.specs.Asking.{AllHaveTask, HasFlags}
use Rattle.vch_plain.specs.Machines.{IsTaskOf, HaveLimits, SendsToTask}

-- Work of a call that is no exit
pub works : (version : ℕ) (m : Machine) (t : ℕ) (f : Frame) (call : Call) → is_exit call ≡ false
    → work_event version m t f (Some call) ≡ on_formed (λ v c. Some (do_work version m t f v c)) f.forming (Some call)
works version m t f (calls.Create bytes) e = refl
works version m t f (calls.GiveUp name) e = refl
works version m t f (calls.Extract name key) e = refl
works version m t f (calls.Recipes name) e = refl
works version m t f (calls.Send to moving name id) e = refl
works version m t f calls.Recv e = refl
works version m t f (calls.Extern name adding n) e = refl
works version m t f (calls.Charge name n) e = refl
works version m t f calls.Ledger e = refl
works version m t f calls.Assertions e = refl
works version m t f calls.Live e = refl
works version m t f calls.Exit e = absurd (cc)

pub exits : (version : ℕ) (m : Machine) (t : ℕ) (f : Frame) (call : Call) → is_exit call ≡ true → work_event version m t f (Some call) ≡ Some (do_exit m t f)
exits version m t f (calls.Create bytes) e = absurd (cc)
exits version m t f (calls.GiveUp name) e = absurd (cc)
exits version m t f (calls.Extract name key) e = absurd (cc)
exits version m t f (calls.Recipes name) e = absurd (cc)
exits version m t f (calls.Send to moving name id) e = absurd (cc)
exits version m t f calls.Recv e = absurd (cc)
exits version m t f (calls.Extern name adding n) e = absurd (cc)
exits version m t f (calls.Charge name n) e = absurd (cc)
exits version m t f calls.Ledger e = absurd (cc)
exits version m t f calls.Assertions e = absurd (cc)
exits version m t f calls.Live e = absurd (cc)
exits version m t f calls.Exit e = refl

-- a task's number is from 1 to their number
pub number_within : (sc : Scenario) (t : ℕ) → is_task sc t ≡ true → HasFlags sc t
number_within sc t e = by (nat_lt 0 t) (nat_lt t (length sc.flags + 1)) refl refl e
  where
    by : (a b : Bool) → nat_lt 0 t ≡ a → nat_lt t (length sc.flags + 1) ≡ b → (a && b) ≡ true → HasFlags sc t
    by true true p q z = (grind (arith, common_steps), grind (arith, common_steps))
    by true false p q z = absurd (cc)
    by false b p q z = absurd (cc)

module _ (sc : Scenario) (m : Machine) (ties : Ties sc m) where
  many : length m.tasks ≡ length sc.flags
  many = ties.fits.tasks

  pub task_there : (t : ℕ) → is_task sc t ≡ true → IsTaskOf m t
  task_there t e = let w = number_within sc t e in let a = w.0 in let b = w.1 in let n = many in (a, omega (arith, b, n))

  pub have_limits : IsLimited sc → HaveLimits sc m
  have_limits l = record { tasks = many; queues = l.queues }

  belongs_task : (k : Key) (x : Value) → Belongs k x → HasTask x
  belongs_task keys.Importance (values.User bytes) b = tt
  belongs_task keys.Importance (values.Chain list) b = b.0
  belongs_task keys.Importance values.Default b = tt
  belongs_task keys.Importance (values.Task t) b = tt
  belongs_task keys.Importance (values.Account holder merchant) b = tt
  belongs_task keys.Bank (values.User bytes) b = tt
  belongs_task keys.Bank (values.Chain list) b = absurd b
  belongs_task keys.Bank values.Default b = tt
  belongs_task keys.Bank (values.Task t) b = tt
  belongs_task keys.Bank (values.Account holder merchant) b = tt
  belongs_task keys.User (values.User bytes) b = tt
  belongs_task keys.User (values.Chain list) b = absurd b
  belongs_task keys.User values.Default b = tt
  belongs_task keys.User (values.Task t) b = tt
  belongs_task keys.User (values.Account holder merchant) b = tt
  belongs_task keys.Test (values.User bytes) b = tt
  belongs_task keys.Test (values.Chain list) b = absurd b
  belongs_task keys.Test values.Default b = tt
  belongs_task keys.Test (values.Task t) b = tt
  belongs_task keys.Test (values.Account holder merchant) b = tt

  pub all_have : AllHaveTask m.live
  all_have k None = tt
  all_have k (Some h) = by (living_at m.live (record { key = k; handle = h })) refl
    where
      by : (o : Option Living) → living_at m.live (record { key = k; handle = h }) ≡ o → HaveTask (value_at m.live k (Some h))
      by None e = rw e tt
      by (Some l) e = rw e (belongs_task k l.value (ties.fits.values (record { key = k; handle = h }) l e).belongs)

  pub sends_to : (t : ℕ) (f : Frame) (call : Call) → is_task sc t ≡ true → (tasked m t).frame ≡ Some f → current sc m t ≡ Some call → SendsToTask m call
  sends_to t f call task frame now to moving name id e =
      task_there to (ties.fits.sends t f to moving name id task frame (now ∙ ap Some e))

-- an event of a task by its frame and its kind
pub event_is : (sc : Scenario) (m : Machine) (t : ℕ) → is_task sc t ≡ true → event sc false m t ≡ event_of sc false m t (tasked m t).frame (next_kind sc m t)
unfolding event
event_is sc m t e = rw e refl

pub framed : (sc : Scenario) (m : Machine) (t : ℕ) (f : Frame) (kind : Kind) → is_task sc t ≡ true → next_kind sc m t ≡ Some kind → (tasked m t).frame ≡ Some f
    → event sc false m t ≡ frame_event sc false m t f kind
framed sc m t f kind e next frame =
    event_is sc m t e ∙ ap (λ (o : Option Kind). event_of sc false m t (tasked m t).frame o) next ∙ ap (λ (o : Option Frame). event_of sc false m t o (Some kind)) frame

pub begins : (sc : Scenario) (m : Machine) (t : ℕ) (kind : Kind) → is_task sc t ≡ true → next_kind sc m t ≡ Some kind → (tasked m t).frame ≡ None
    → event sc false m t ≡ do_begin sc false m t
begins sc m t kind e next frame =
    event_is sc m t e ∙ ap (λ (o : Option Kind). event_of sc false m t (tasked m t).frame o) next ∙ ap (λ (o : Option Frame). event_of sc false m t o (Some kind)) frame

pub no_event : (sc : Scenario) (m : Machine) (t : ℕ) → is_task sc t ≡ true → next_kind sc m t ≡ None → IsSome (event sc false m t) → ⊥
no_event sc m t e next some = by (tasked m t).frame (subst IsSome (event_is sc m t e ∙ ap (λ (o : Option Kind). event_of sc false m t (tasked m t).frame o) next) some)
  where
    by : (f : Option Frame) → IsSome (event_of sc false m t f None) → ⊥
    by None h = let z : false ≡ true = h in absurd (cc)
    by (Some f) h = let z : false ≡ true = h in absurd (cc)

-- the events but those of what is let go are of the call
pub of_call : (sc : Scenario) (m : Machine) (t : ℕ) (f : Frame) (call : Call) (kind : Kind) → current sc m t ≡ Some call → (kind ≡ kinds.LetGo → ⊥) → (kind ≡ kinds.Ask → ⊥) → (kind ≡ kinds.Recheck → ⊥)
    → frame_event sc false m t f kind ≡ call_event sc m t f call kind
of_call sc m t f call kinds.Begin now a b c = refl
of_call sc m t f call kinds.Work now a b c = rw now refl
of_call sc m t f call kinds.Make now a b c = rw now refl
of_call sc m t f call kinds.Refer now a b c = rw now refl
of_call sc m t f call kinds.Place now a b c = rw now refl
of_call sc m t f call kinds.LetGo now a b c = absurd (a refl)
of_call sc m t f call kinds.Ask now a b c = absurd (b refl)
of_call sc m t f call kinds.Recheck now a b c = absurd (c refl)
of_call sc m t f call kinds.Phase now a b c = refl
