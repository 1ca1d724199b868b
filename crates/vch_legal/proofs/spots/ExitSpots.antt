-- What an exit gives up changes no spot: what nobody has any more is still to be let go.
use Rattle.std.proofs.Common.{◌≡◌, ℕ, Bool, List, [], ◌∷◌, ◌++◌, refl, true, ◌||◌, arith, sym, ap, ◌∙◌, Some, None, Option}
use Rattle.std.specs.List.{list_any}
use Rattle.std.proofs.lemmas.List.Folds.{list_any-append}
use Rattle.vch_machine.specs.State.{Handles, Place, same_place, Named, Message, Frame, Tasked, Machine, tasked, with_tasked, has_place, option_has}
use Rattle.vch_machine.specs.Naming.{handles_of, without_name, orphaned, lowest}
use Rattle.vch_machine.specs.Working.{letting, do_gone, do_lost, do_left, exit_queue, exit_names, do_exit}
use Rattle.vch_legal.specs.Facts.{spot}
use Rattle.vch_legal.proofs.tasks.TaskLists.{IsAmong}
use Rattle.vch_legal.proofs.spots.Places.{closed_holds, closed_expects, closed_claims}
use Rattle.vch_legal.proofs.spots.FrameSpots.{one_eq, others_hold, spot_of, spot_same, task_in_range}
use Rattle.vch_legal.proofs.spots.WorkSpots.{lets_hold}
use Rattle.vch_legal.proofs.spots.PutSpots.{known_to, spot_put}
use Rattle.vch_legal.proofs.spots.LeaveSpots.{orphan_law, without_any}

left_law : (f l o n n1 : Bool) → (o || n1) ≡ n → ((f || (l || o)) || n1) ≡ ((f || l) || n)
left_law f l o n n1 e = grind arith

-- the frame has more to let go, where the task lost what has the voucher
letting_spot : (m : Machine) (t : ℕ) (f : Frame) (x : Tasked) (w : Option Handles) (p : Place)
    → (tasked m t).frame ≡ Some f
    → (option_has w p || (known_to x p || others_hold m t p)) ≡ (known_to (tasked m t) p || others_hold m t p)
    → spot (letting (with_tasked m t x) t f (orphaned (with_tasked m t x) w)) p ≡ spot m p
letting_spot m t f x w p e same =
    spot_put m t x (Some (record f { lets = f.lets ++ lets })) p l
    ∙ (one_eq _ _ _ _ _ _ _ _
    (ap (λ b. (option_has f.forming p || b) || (known_to x p || others_hold m t p))
    (list_any-append (λ q. same_place q p) f.lets lets)
    ∙ left_law (option_has f.forming p) (lets_hold f.lets p) (lets_hold lets p)
    (known_to (tasked m t) p || others_hold m t p) (known_to x p || others_hold m t p)
    (orphan_law m t x w p l ∙ same)) refl refl
    ∙ sym (spot_of m t f p e))
  where
    l : IsAmong t m.tasks
    l = task_in_range m t f e

    lets : List Place
    lets = orphaned (with_tasked m t x) w

name_law : (w n1 n q o : Bool) → (w || n1) ≡ n → (w || ((n1 || q) || o)) ≡ ((n || q) || o)
name_law w n1 n q o e = grind arith

gone_spot : (m : Machine) (t : ℕ) (f : Frame) (name : ℕ) (p : Place) → (tasked m t).frame ≡ Some f
    → spot (do_gone m t f name) p ≡ spot m p
gone_spot m t f name p e =
    letting_spot m t f (record (tasked m t) { names = without_name (tasked m t).names name })
    (handles_of (tasked m t).names name) p e
    (name_law (option_has (handles_of (tasked m t).names name) p) _
    (list_any (λ (n : Named). has_place n.voucher p) (tasked m t).names)
    (list_any (λ (q : Message). option_has q.voucher p) (tasked m t).queue) (others_hold m t p)
    (without_any (tasked m t).names name p))

message_law : (w n q o : Bool) → (w || ((n || q) || o)) ≡ ((n || (w || q)) || o)
message_law w n q o = grind arith

lost_spot : (m : Machine) (t : ℕ) (f : Frame) (q : Message) (queue : List Message) (p : Place)
    → (tasked m t).frame ≡ Some f → (tasked m t).queue ≡ q ∷ queue → spot (do_lost m t f q queue) p ≡ spot m p
lost_spot m t f q queue p e first =
    letting_spot m t f (record (tasked m t) { queue = queue }) q.voucher p e
    (message_law (option_has q.voucher p) (list_any (λ (n : Named). has_place n.voucher p) (tasked m t).names)
    (list_any (λ (r : Message). option_has r.voucher p) queue) (others_hold m t p)
    ∙ sym (ap (λ xs. (list_any (λ (n : Named). has_place n.voucher p) (tasked m t).names || list_any
    (λ (r : Message). option_has r.voucher p) xs) || others_hold m t p) first))

left_spot : (m : Machine) (t : ℕ) (f : Frame) (p : Place) → (tasked m t).frame ≡ Some f → f.forming ≡ None
    → spot (do_left m t f) p ≡ spot m p
left_spot m t f p e forming = spot_same m t f _ p e (closed_holds (record f { answered = true }) p (λ _. forming))
    (closed_expects (record f { answered = true }) p) (closed_claims (record f { answered = true }) p)

queue_spot : (m : Machine) (t : ℕ) (f : Frame) (queue : List Message) (p : Place) → (tasked m t).frame ≡ Some f
    → f.forming ≡ None → (tasked m t).queue ≡ queue → spot (exit_queue m t f queue) p ≡ spot m p
queue_spot m t f [] p e forming g = left_spot m t f p e forming
queue_spot m t f (q ∷ queue) p e forming g = lost_spot m t f q queue p e g

names_spot : (m : Machine) (t : ℕ) (f : Frame) (name : Option ℕ) (p : Place) → (tasked m t).frame ≡ Some f
    → f.forming ≡ None → spot (exit_names m t f name) p ≡ spot m p
names_spot m t f None p e forming = queue_spot m t f (tasked m t).queue p e forming refl
names_spot m t f (Some name) p e forming = gone_spot m t f name p e

-- an event of an exit changes no spot
pub exit_spot : (m : Machine) (t : ℕ) (f : Frame) (p : Place) → (tasked m t).frame ≡ Some f → f.forming ≡ None
    → spot (do_exit m t f) p ≡ spot m p
exit_spot m t f p e forming = names_spot m t f (lowest (tasked m t).names) p e forming
