-- The frame of an exit forms nothing, through the events of its own task.
use Rattle.std.proofs.Common.{◌≡◌, ℕ, Bool, true, false, sym, ap, ◌∙◌, subst, Some, None, Option}
use Rattle.std.specs.Prelude.{if◌then◌else◌}
use Rattle.vch_model.specs.declared.call.Call.TheVariants as calls
use Rattle.vch_model.specs.declared.lists.Scenario.{Scenario}
use Rattle.vch_model.specs.Lines.{is_task}
use Rattle.vch_machine.specs.State.{Handles, Frame, Machine, tasked}
use Rattle.vch_machine.specs.Frames.{closed, with_frame}
use Rattle.vch_machine.specs.Next.{current, nth_call}
use Rattle.vch_legal.specs.Facts.{ExitsFormNothing}
use Rattle.vch_legal.proofs.tasks.OwnFrame.{own_set}

-- a frame, if there is one, forms nothing
abbrev pub Formless : Option Frame → Type 0
Formless None = Unit {0}
Formless (Some f) = f.forming ≡ None

-- where the current call of a task is an exit
abbrev pub ExitAt : Scenario → ℕ → Machine → Type 0
ExitAt sc t n = current sc n t ≡ Some calls.Exit → Formless (tasked n t).frame

pub frame_formless : (f : Frame) (o : Option Frame) → o ≡ Some f → Formless o → f.forming ≡ None
frame_formless f o e h = subst Formless e h

-- the frame that was put there
pub put_formless : (m : Machine) (t : ℕ) (g : Option Frame) → Formless g → Formless (tasked (with_frame m t g) t).frame
put_formless m t g h = own_set Formless tt m.tasks t (record (tasked m t) { frame = g }) h

closed_if : (b : Bool) (g : Frame) → g.forming ≡ None → Formless (if b then Some g else None)
closed_if true g h = h
closed_if false g h = tt

pub closed_formless : (g : Frame) → g.forming ≡ None → Formless (closed g)
closed_formless g h = closed_if _ g h

-- the call is the same one where no call was begun
pub same_call : (sc : Scenario) (t : ℕ) (m n : Machine) → (tasked n t).begun ≡ (tasked m t).begun
    → current sc n t ≡ current sc m t
same_call sc t m n begun = ap (λ k. nth_call sc t k) begun

-- where something was formed, the call is no exit
pub formed_exit : (sc : Scenario) (t : ℕ) (m n : Machine) (f : Frame) (v : Handles) → ExitsFormNothing sc m
    → is_task sc t ≡ true → (tasked m t).frame ≡ Some f → f.forming ≡ Some v
    → (tasked n t).begun ≡ (tasked m t).begun → ExitAt sc t n
formed_exit sc t m n f v exits task e forming begun now =
    absurd (none (sym (exits t f task e (sym (same_call sc t m n begun) ∙ now)) ∙ forming))
  where
    none : None ≡ Some v → ⊥
    none g = cc

-- where a frame forms as little as before
pub kept_exit : (sc : Scenario) (t : ℕ) (m n : Machine) (f : Frame) → ExitsFormNothing sc m → is_task sc t ≡ true
    → (tasked m t).frame ≡ Some f → (f.forming ≡ None → Formless (tasked n t).frame)
    → (tasked n t).begun ≡ (tasked m t).begun → ExitAt sc t n
kept_exit sc t m n f exits task e same begun now = same (exits t f task e (sym (same_call sc t m n begun) ∙ now))
