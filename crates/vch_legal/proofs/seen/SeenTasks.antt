-- What the store sees of the tasks where one of them is replaced.
use Rattle.std.proofs.Common.{◌≡◌, ℕ, List, [], ◌∷◌, refl, sym, ap, ◌∙◌, map, Some, None, Option}
use Rattle.std.specs.List.{flat_map}
use Rattle.vch_base.proofs.CallerLemmas.{own_item}
use Rattle.vch_model.specs.Store as store
use Rattle.vch_machine.specs.State.{Living, Claim, Frame, Tasked, Machine, idle, tasked, with_tasked, alive_of, member_of, seen}
use Rattle.vch_machine.specs.Frames.{with_frame}
use Rattle.vch_machine.specs.Making.{on_task, on_claims}
use Rattle.vch_legal.proofs.tasks.TaskItems.{at_map, map_set, map_same, differs_in}
use Rattle.vch_legal.proofs.tasks.TaskLists.{IsAmong}

-- the task that the store sees
pub member_seen : (m : Machine) (u : ℕ) → store.member (seen m) u ≡ member_of m.live (tasked m u)
member_seen m u = at_map (member_of m.live) m.tasks u idle

abbrev pub store_with : List store.Member → List store.Alive → store.Store
store_with tasks live = record { tasks = tasks; live = live }

-- a task is replaced, in the machine and in the store
pub seen_task : (m : Machine) (t : ℕ) (x : Tasked) → seen (with_tasked m t x)
    ≡ store.set_member (seen m) t (member_of m.live x)
seen_task m t x = ap (λ tasks. store_with tasks (flat_map alive_of m.live))
    (map_set (member_of m.live) m.tasks t x)

-- a task is replaced by one that the store sees as the same
pub seen_same : (m : Machine) (t : ℕ) (x : Tasked) → member_of m.live x ≡ member_of m.live (tasked m t)
    → seen (with_tasked m t x) ≡ seen m
seen_same m t x e = ap (λ tasks. store_with tasks (flat_map alive_of m.live))
    (map_same (member_of m.live) m.tasks t x idle e)

pub seen_frame : (m : Machine) (t : ℕ) (g : Option Frame) → seen (with_frame m t g) ≡ seen m
seen_frame m t g = seen_same m t (record (tasked m t) { frame = g }) refl

claims_map : (live : List Living) (g : Claim → Claim) (xs : List Tasked) → map (member_of live) (map (on_task g) xs)
    ≡ map (member_of live) xs
claims_map live g [] = refl
claims_map live g (x ∷ xs) = ap (λ ys. member_of live x ∷ ys) (claims_map live g xs)

pub seen_claims : (m : Machine) (g : Claim → Claim) → seen (on_claims g m) ≡ seen m
seen_claims m g = ap (λ tasks. store_with tasks (flat_map alive_of m.live)) (claims_map m.live g m.tasks)

-- the task that was replaced
pub own_task : (m : Machine) (t : ℕ) (x : Tasked) → IsAmong t m.tasks → tasked (with_tasked m t x) t ≡ x
own_task m t x l = own_item m.tasks t x idle l.0 l.1

pub claims_task : (m : Machine) (g : Claim → Claim) (u : ℕ) → tasked (on_claims g m) u ≡ on_task g (tasked m u)
claims_task m g u = at_map (on_task g) m.tasks u idle

-- a task with a frame is one of the list
pub frame_in : (m : Machine) (t : ℕ) (f : Frame) → (tasked m t).frame ≡ Some f → IsAmong t m.tasks
frame_in m t f e = differs_in m.tasks t idle (λ same. none (sym (ap (λ (x : Tasked). x.frame) same) ∙ e))
  where
    none : None ≡ Some f → ⊥
    none h = cc
