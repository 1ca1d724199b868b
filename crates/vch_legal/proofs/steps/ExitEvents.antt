-- An event of an exit leaves the values, the handles, the tally and every spot.
use Rattle.std.proofs.Common.{◌≡◌, ℕ, List, [], ◌∷◌, ◌++◌, refl, true, Some, None, Option}
use Rattle.vch_model.specs.declared.call.Call.TheVariants as calls
use Rattle.vch_model.specs.declared.lists.Scenario.{Scenario}
use Rattle.vch_machine.specs.State.{Handles, Frame, Tasked, Machine, Message, tasked, with_tasked}
use Rattle.vch_machine.specs.Frames.{closed, with_frame}
use Rattle.vch_machine.specs.Naming.{handles_of, without_name, orphaned, lowest}
use Rattle.vch_machine.specs.Next.{current}
use Rattle.vch_machine.specs.Working.{letting, do_gone, do_lost, do_left, exit_queue, exit_names, do_exit}
use Rattle.vch_legal.specs.Facts.{FrameFits, OptionFits}
use Rattle.vch_legal.proofs.tasks.OwnTask.{Near, near_self, near_own, near_framed, near_noted, sent_near, one_few, orphaned_few}
use Rattle.vch_legal.proofs.tasks.OwnFrame.{own_frame, plain_fits, closed_fits}
use Rattle.vch_legal.proofs.steps.ExitOwn.{Formless, put_formless, closed_formless}
use Rattle.vch_legal.proofs.spots.ExitSpots.{exit_spot}
use Rattle.vch_legal.proofs.spots.PlainEvents.{Plain, Underway, plain_of}

-- what an event of an exit does to its own task
record Exits (t : ℕ) (m n : Machine) : Type 0 where
  near : Near t m n
  own : OptionFits (tasked n t).frame
  formless : Formless (tasked n t).frame

-- a frame that is put at the end
put_exits : (t : ℕ) (m n : Machine) (g : Option Frame) → Near t m n → OptionFits g → Formless g
    → Exits t m (with_frame n t g)
put_exits t m n g near fits less = record {
  near = near_framed t m n g near;
  own = own_frame n t g fits;
  formless = put_formless n t g less;
}

letting_fits : (f : Frame) (m : Machine) (w : Option Handles) → f.receipt ≡ None → f.forming ≡ None → f.lets ≡ []
    → FrameFits (record f { lets = f.lets ++ orphaned m w })
letting_fits f m w r forming l = plain_fits (record f { lets = f.lets ++ orphaned m w }) r (λ _. forming)
    (one_few f.lets (orphaned m w) l (orphaned_few m w))

letting_exits : (t : ℕ) (m : Machine) (f : Frame) (x : Tasked) (w : Option Handles) → x.begun ≡ (tasked m t).begun
    → f.receipt ≡ None → f.forming ≡ None → f.lets ≡ []
    → Exits t m (letting (with_tasked m t x) t f (orphaned (with_tasked m t x) w))
letting_exits t m f x w begun r forming l = put_exits t m (with_tasked m t x)
    (Some (record f { lets = f.lets ++ orphaned (with_tasked m t x) w })) (near_own t m x begun)
    (letting_fits f (with_tasked m t x) w r forming l) forming

gone_exits : (t : ℕ) (m : Machine) (f : Frame) (name : ℕ) → f.receipt ≡ None → f.forming ≡ None → f.lets ≡ []
    → Exits t m (do_gone m t f name)
gone_exits t m f name r forming l =
    let e : Exits t m (letting (with_tasked m t x) t f (orphaned (with_tasked m t x)
    (handles_of (tasked m t).names name))) = letting_exits t m f x
    (handles_of (tasked m t).names name) refl r forming l in
    record { near = near_noted t m _ _ e.near; own = e.own; formless = e.formless }
  where
    x : Tasked
    x = record (tasked m t) { names = without_name (tasked m t).names name }

lost_exits : (t : ℕ) (m : Machine) (f : Frame) (q : Message) (queue : List Message) → f.receipt ≡ None
    → f.forming ≡ None → f.lets ≡ [] → Exits t m (do_lost m t f q queue)
lost_exits t m f q queue r forming l =
    let e : Exits t m (letting (with_tasked m t x) t f (orphaned (with_tasked m t x) q.voucher)) =
    letting_exits t m f x q.voucher refl r forming l in
    record { near = near_noted t m _ _ e.near; own = e.own; formless = e.formless }
  where
    x : Tasked
    x = record (tasked m t) { queue = queue }

left_exits : (t : ℕ) (m : Machine) (f : Frame) → FrameFits f → f.receipt ≡ None → f.forming ≡ None
    → Exits t m (do_left m t f)
left_exits t m f fits r forming =
    let e : Exits t m (with_frame m t (closed (record f { answered = true }))) =
    put_exits t m m (closed (record f { answered = true })) (near_self t m)
    (closed_fits (record f { answered = true }) (plain_fits (record f { answered = true }) r (λ _. forming) fits.few))
    (closed_formless (record f { answered = true }) forming) in
    record { near = near_noted t m _ _ e.near; own = e.own; formless = e.formless }

queue_exits : (t : ℕ) (m : Machine) (f : Frame) (queue : List Message) → FrameFits f → f.receipt ≡ None
    → f.forming ≡ None → f.lets ≡ [] → Exits t m (exit_queue m t f queue)
queue_exits t m f [] fits r forming l = left_exits t m f fits r forming
queue_exits t m f (q ∷ queue) fits r forming l = lost_exits t m f q queue r forming l

names_exits : (t : ℕ) (m : Machine) (f : Frame) (name : Option ℕ) → FrameFits f → f.receipt ≡ None
    → f.forming ≡ None → f.lets ≡ [] → Exits t m (exit_names m t f name)
names_exits t m f None fits r forming l = queue_exits t m f (tasked m t).queue fits r forming l
names_exits t m f (Some name) fits r forming l = gone_exits t m f name r forming l

-- an event of an exit, with nothing else left to do
pub exit_plain : (sc : Scenario) (t : ℕ) (m : Machine) (f : Frame) → Underway sc t m f
    → current sc m t ≡ Some calls.Exit
    → f.receipt ≡ None → f.lets ≡ [] → Plain sc t m (do_exit m t f)
exit_plain sc t m f u now r l =
    let e : Exits t m (do_exit m t f) = names_exits t m f (lowest (tasked m t).names) u.fits r forming l in
    plain_of sc t m (do_exit m t f) e.near e.own
    (sent_near sc t m (do_exit m t f) f u.sends u.task u.frame e.near) (λ _. e.formless)
    (λ p. exit_spot m t f p u.frame forming)
  where
    forming : f.forming ≡ None
    forming = u.exits t f u.task u.frame now
