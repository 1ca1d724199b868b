-- What a spot is where one frame is replaced.
use Rattle.std.proofs.Common.{◌≡◌, ℕ, Bool, List, ◌++◌, ◌||◌, arith, sym, ap, ◌∙◌, Some, Option}
use Rattle.std.specs.Prelude.{is_some}
use Rattle.std.specs.List.{list_any}
use Rattle.vch_machine.specs.State.{Place, Named, Message, Claim, Frame, Tasked, Machine, idle, tasked, has_place, option_has, frame_holds, frame_expects, frame_claims, task_holds, living_at}
use Rattle.vch_machine.specs.Frames.{with_frame}
use Rattle.vch_machine.specs.Leaving.{is_fixed}
use Rattle.vch_legal.specs.Facts.{Spot, spot}
use Rattle.vch_legal.proofs.spots.SpotSteps.{one}
use Rattle.vch_legal.proofs.tasks.TaskLists.{IsAmong, other_any, any_split, any_set, before, behind, all_split, all_set}
use Rattle.vch_legal.proofs.spots.Places.{among}

-- who else holds a place: names and messages of the task, and the other tasks
abbrev pub names_hold : Machine → ℕ → Place → Bool
names_hold m t p = list_any (λ (n : Named). has_place n.voucher p) (tasked m t).names

abbrev pub queue_holds : Machine → ℕ → Place → Bool
queue_holds m t p = list_any (λ (q : Message). option_has q.voucher p) (tasked m t).queue

abbrev pub others_hold : Machine → ℕ → Place → Bool
others_hold m t p = other_any (task_holds p) m.tasks t

abbrev pub kept_named : Machine → ℕ → Place → Bool
kept_named m t p = (names_hold m t p || queue_holds m t p) || others_hold m t p

abbrev pub others_expect : Machine → ℕ → Place → Bool
others_expect m t p = other_any (λ (x : Tasked). frame_expects x.frame p) m.tasks t

abbrev pub claims_before : Machine → ℕ → Place → List Claim
claims_before m t p = before (λ (x : Tasked). frame_claims x.frame p) m.tasks t

abbrev pub claims_behind : Machine → ℕ → Place → List Claim
claims_behind m t p = behind (λ (x : Tasked). frame_claims x.frame p) m.tasks t

-- the spot where the task's frame is replaced by another
abbrev pub spot_by : Machine → ℕ → Option Frame → Place → Spot
spot_by m t g p =
    one (is_some (living_at m.live p)) (is_fixed m p) (frame_holds g p || kept_named m t p)
    (frame_expects g p || others_expect m t p)
    (claims_before m t p ++ (frame_claims g p ++ claims_behind m t p))

regroup : (a b c d : Bool) → ((a || (b || c)) || d) ≡ (c || ((a || b) || d))
regroup a b c d = grind arith

pub one_eq : (live fixed a b c d : Bool) (x y : List Claim) → a ≡ b → c ≡ d → x ≡ y
    → one live fixed a c x ≡ one live fixed b d y
one_eq live fixed a b c d x y e f g = cc

pub spot_set : (m : Machine) (t : ℕ) (g : Option Frame) (p : Place) → IsAmong t m.tasks
    → spot (with_frame m t g) p ≡ spot_by m t g p
spot_set m t g p l =
    one_eq (is_some (living_at m.live p)) (is_fixed m p) _ _ _ _ _ _
    (any_set (task_holds p) m.tasks t (record (tasked m t) { frame = g }) l
    ∙ regroup (names_hold m t p) (queue_holds m t p) (frame_holds g p) (others_hold m t p))
    (any_set (λ (x : Tasked). frame_expects x.frame p) m.tasks t (record (tasked m t) { frame = g }) l)
    (all_set (λ (x : Tasked). frame_claims x.frame p) m.tasks t (record (tasked m t) { frame = g }) l)

pub spot_split : (m : Machine) (t : ℕ) (p : Place) → IsAmong t m.tasks
    → spot m p ≡ spot_by m t (tasked m t).frame p
spot_split m t p l =
    one_eq (is_some (living_at m.live p)) (is_fixed m p) _ _ _ _ _ _
    (any_split (task_holds p) m.tasks t idle l ∙ regroup (names_hold m t p) (queue_holds m t p)
    (frame_holds (tasked m t).frame p) (others_hold m t p))
    (any_split (λ (x : Tasked). frame_expects x.frame p) m.tasks t idle l)
    (all_split (λ (x : Tasked). frame_claims x.frame p) m.tasks t idle l)

pub task_in_range : (m : Machine) (t : ℕ) (f : Frame) → (tasked m t).frame ≡ Some f → IsAmong t m.tasks
task_in_range m t f e = among m.tasks t f e

-- a spot of a machine with a frame
pub spot_of : (m : Machine) (t : ℕ) (f : Frame) (p : Place) → (tasked m t).frame ≡ Some f
    → spot m p ≡ spot_by m t (Some f) p
spot_of m t f p e = spot_split m t p (task_in_range m t f e) ∙ ap (λ g. spot_by m t g p) e

-- frames that are the same to a place
pub spot_same : (m : Machine) (t : ℕ) (f : Frame) (g : Option Frame) (p : Place) → (tasked m t).frame ≡ Some f
    → frame_holds g p ≡ frame_holds (Some f) p → frame_expects g p ≡ frame_expects (Some f) p
    → frame_claims g p ≡ frame_claims (Some f) p
    → spot (with_frame m t g) p ≡ spot m p
spot_same m t f g p e holds expects claims =
    let a : spot (with_frame m t g) p ≡ spot_by m t g p = spot_set m t g p (task_in_range m t f e) in
    let b : spot m p ≡ spot_by m t (Some f) p = spot_of m t f p e in
    let c : spot_by m t g p ≡ spot_by m t (Some f) p = one_eq _ _ _ _ _ _ _ _ (ap (λ h. h || kept_named m t p) holds)
    (ap (λ h. h || others_expect m t p) expects) (ap (λ cs. claims_before m t p ++ (cs ++ claims_behind m t p))
    claims) in
    a ∙ (c ∙ sym b)
