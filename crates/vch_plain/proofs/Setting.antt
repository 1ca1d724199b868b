-- What is set for a task twice.
use Rattle.std.proofs.Common.{◌≡◌, ◌∙◌, ap, ℕ, List, Option}
use Rattle.vch_base.proofs.CallerLemmas.{own_item, set_twice}
use Rattle.vch_machine.specs.Frames.{with_frame}
use Rattle.vch_machine.specs.State.{Frame, Machine, Tasked, idle, tasked, with_tasked}
use Rattle.vch_plain.specs.Machines.{IsTaskOf}

-- what was set for a task is there
pub task_own : (m : Machine) (t : ℕ) (x : Tasked) → IsTaskOf m t → tasked (with_tasked m t x) t ≡ x
task_own m t x i = own_item m.tasks t x idle i.0 i.1

-- what is set later stands in its place
pub task_again : (m : Machine) (t : ℕ) (x y : Tasked) → with_tasked (with_tasked m t x) t y ≡ with_tasked m t y
task_again m t x y = ap (λ (tasks : List Tasked). record m { tasks = tasks }) (set_twice m.tasks t x y)

-- a frame that is set later stands in place of one before
pub frame_again : (m : Machine) (t : ℕ) (f g : Option Frame) → IsTaskOf m t → with_frame (with_frame m t f) t g ≡ with_frame m t g
frame_again m t f g i =
    ap (λ (x : Tasked). with_tasked (with_frame m t f) t (record x { frame = g })) (task_own m t (record (tasked m t) { frame = f }) i)
    ∙ task_again m t (record (tasked m t) { frame = f }) (record (tasked m t) { frame = g })

-- what is made of what was set for a task
pub made_again : (F : Tasked → Tasked) (m : Machine) (t : ℕ) (x : Tasked) → IsTaskOf m t
    → with_tasked (with_tasked m t x) t (F (tasked (with_tasked m t x) t)) ≡ with_tasked m t (F x)
made_again F m t x i = ap (λ (y : Tasked). with_tasked (with_tasked m t x) t (F y)) (task_own m t x i) ∙ task_again m t x (F x)
