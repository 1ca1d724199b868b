-- The end of a send or a recv changes no spot.
use Rattle.std.proofs.Common.{◌≡◌, ℕ, zero, suc, Bool, List, [], ◌∷◌, ◌++◌, refl, true, false, ◌||◌, arith, sym, ap, ◌∙◌, subst, get_or, Some, None, Option}
use Rattle.std.proofs.Math.ListN.{set}
use Rattle.std.proofs.lemmas.Grind.{common_steps}
use Rattle.std.specs.Prelude.{if◌then◌else◌}
use Rattle.std.specs.List.{list_any, list_all, flat_map}
use Rattle.std.proofs.lemmas.List.Folds.{list_any-append}
use Rattle.vch_base.specs.declared.key.Key.{Key}
use Rattle.vch_base.specs.Keys.{every_key}
use Rattle.vch_base.specs.Keyed.{of_key}
use Rattle.vch_base.specs.Tasks.{at_task, set_task}
use Rattle.vch_model.specs.declared.call.Call.{Call}
use Rattle.vch_machine.specs.State.{Handles, Place, same_place, Named, Message, Frame, Tasked, Machine, idle, tasked, with_tasked, has_place, option_has, frame_holds, frame_claims, is_held}
use Rattle.vch_machine.specs.Beginning.{enqueued}
use Rattle.vch_machine.specs.Frames.{closed, with_frame}
use Rattle.vch_machine.specs.Naming.{same_handle, same_handles, name_of, one_less, with_name, option_same, task_knows, is_known, doubled, orphaned, handles_of}
use Rattle.vch_machine.specs.Placing.{place_recv, place_send, moved_name}
use Rattle.vch_legal.specs.Facts.{spot}
use Rattle.vch_legal.proofs.facts.Choices.{or_left, or_right}
use Rattle.vch_legal.proofs.tasks.TaskLists.{IsAmong, other_any, any_set, set_same, same_part}
use Rattle.vch_legal.proofs.spots.Places.{closed_holds, closed_expects, closed_claims}
use Rattle.vch_legal.proofs.spots.FrameSpots.{one_eq, others_hold, others_expect, claims_before, claims_behind, kept_named, spot_of, task_in_range}
use Rattle.vch_legal.proofs.spots.WorkSpots.{lets_hold}
use Rattle.vch_legal.proofs.spots.PutSpots.{known_to, spot_put, more_any, found_any, doubled_holds, ending}
use Rattle.vch_legal.proofs.spots.LeaveSpots.{known_held, orphan_law, less_any, recv_law, enqueued_any, enqueued_expects}

abbrev names_any : List Named → Place → Bool
names_any names p = list_any (λ (n : Named). has_place n.voucher p) names

abbrev queue_any : List Message → Place → Bool
queue_any queue p = list_any (λ (q : Message). option_has q.voucher p) queue

with_any : (x : Tasked) (v : Handles) (name : Option ℕ) (p : Place) → name_of x.names v ≡ name
    → names_any (with_name x v name).names p ≡ (names_any x.names p || has_place v p)
with_any x v None p e = list_any-append (λ (n : Named). has_place n.voucher p) x.names
    (record { name = x.next; voucher = v; refs = 1 } ∷ []) ∙ ap (λ b. names_any x.names p || b)
    (or_false (has_place v p))
  where
    or_false : (b : Bool) → (b || false) ≡ b
    or_false b = grind arith
with_any x v (Some name) p e = more_any x.names name p ∙ implied (names_any x.names p) (has_place v p)
    (found_any x.names v name p e)
  where
    implied : (n h : Bool) → (h ≡ true → n ≡ true) → n ≡ (n || h)
    implied n true f = let k : n ≡ true = f refl in grind arith
    implied n false f = grind arith

with_queue : (x : Tasked) (v : Handles) (name : Option ℕ) → (with_name x v name).queue ≡ x.queue
with_queue x v None = refl
with_queue x v (Some name) = refl

-- what a frame that ends a call holds
ending_holds : (f : Frame) (a b : List Place) (p : Place) → frame_holds (closed (ending f (a ++ b))) p ≡
    (lets_hold f.lets p || (lets_hold a p || lets_hold b p))
ending_holds f a b p =
    closed_holds (ending f (a ++ b)) p (λ _. refl)
    ∙ (list_any-append (λ q. same_place q p) f.lets (a ++ b)
    ∙ ap (λ c. lets_hold f.lets p || c) (list_any-append (λ q. same_place q p) a b))

regroup : (l d o k : Bool) → ((l || (d || o)) || k) ≡ ((l || (d || o)) || k)
regroup l d o k = refl

took_law : (w n h q o : Bool) → (w || (((n || h) || q) || o)) ≡ (((n || (w || q)) || o) || h)
took_law w n h q o = grind arith

-- the end of a recv
pub put_recv_spot : (m : Machine) (t : ℕ) (f : Frame) (v : Handles) (call : Call) (q : Message) (queue : List Message)
    (p : Place) → (tasked m t).frame ≡ Some f → f.forming ≡ Some v
    → (tasked m t).queue ≡ q ∷ queue → spot (place_recv m t f v call (q ∷ queue)) p ≡ spot m p
put_recv_spot m t f v call q queue p e forming first =
    spot_put m t x1 (closed (ending f lets)) p (task_in_range m t f e)
    ∙ (one_eq _ _ _ _ _ _ _ _
    (ap (λ b. b || (known_to x1 p || others_hold m t p)) (ending_holds f (doubled m v)
    (orphaned (with_tasked m t x1) q.voucher) p)
    ∙ (recv_law (lets_hold f.lets p) (lets_hold (doubled m v) p)
    (lets_hold (orphaned (with_tasked m t x1) q.voucher) p) (known_to x1 p || others_hold m t p)
    (known_to (tasked m t) p || others_hold m t p) (has_place v p) (is_known m v)
    (doubled_holds m v p) took
    ∙ sym (ap (λ y. (option_has y p || lets_hold f.lets p) || (known_to (tasked m t) p || others_hold m t p))
    forming)))
    (ap (λ b. b || others_expect m t p) (closed_expects (ending f lets) p))
    (ap (λ b. claims_before m t p ++ (b ++ claims_behind m t p)) (closed_claims (ending f lets) p))
    ∙ sym (spot_of m t f p e))
  where
    x : Tasked
    x = record (tasked m t) { queue = queue }

    x1 : Tasked
    x1 = with_name x v (name_of x.names v)

    lets : List Place
    lets = doubled m v ++ orphaned (with_tasked m t x1) q.voucher

    took : (lets_hold (orphaned (with_tasked m t x1) q.voucher) p || (known_to x1 p || others_hold m t p)) ≡
        ((known_to (tasked m t) p || others_hold m t p) || has_place v p)
    took = orphan_law m t x1 q.voucher p (task_in_range m t f e)
        ∙ (ap (λ b. option_has q.voucher p || ((b || queue_any x1.queue p) || others_hold m t p))
        (with_any x v (name_of x.names v) p refl)
        ∙ (ap (λ b. option_has q.voucher p || (((names_any x.names p || has_place v p) || queue_any b p)
        || others_hold m t p)) (with_queue x v (name_of x.names v))
        ∙ (took_law (option_has q.voucher p) (names_any x.names p) (has_place v p) (queue_any queue p)
        (others_hold m t p)
        ∙ sym (ap (λ b. ((names_any (tasked m t).names p || queue_any b p) || others_hold m t p) || has_place v p)
        first))))

enqueued_claims : (p : Place) (xs : List Tasked) (t : ℕ) (q : List Message)
    → flat_map (λ (x : Tasked). frame_claims x.frame p) (set_task xs t (record (at_task xs t idle) { queue = q }))
    ≡ flat_map (λ (x : Tasked). frame_claims x.frame p) xs
enqueued_claims p xs zero q = refl
enqueued_claims p xs (suc i) q = from_place xs i
  where
    from_place : (xs : List Tasked) (i : ℕ) → flat_map (λ (x : Tasked). frame_claims x.frame p)
        (set xs i (record (get_or xs i idle) { queue = q })) ≡ flat_map (λ (x : Tasked). frame_claims x.frame p) xs
    from_place [] i = refl
    from_place (x ∷ xs) zero = refl
    from_place (x ∷ xs) (suc i) = ap (λ b. frame_claims x.frame p ++ b) (from_place xs i)

-- a message with a voucher that the machine holds changes no spot
pub enqueued_spot : (m : Machine) (to : ℕ) (q : Message) (p : Place) → IsAmong to m.tasks
    → (option_has q.voucher p ≡ true → is_held m p ≡ true) → spot (enqueued m to q) p ≡ spot m p
enqueued_spot m to q p l h =
    one_eq _ _ _ _ _ _ _ _
    (enqueued_any p m.tasks to q l ∙ absorbed (is_held m p) (option_has q.voucher p) h)
    (enqueued_expects p m.tasks to ((tasked m to).queue ++ q ∷ []))
    (enqueued_claims p m.tasks to ((tasked m to).queue ++ q ∷ []))
  where
    absorbed : (a b : Bool) → (b ≡ true → a ≡ true) → (a || b) ≡ a
    absorbed a true f = let k : a ≡ true = f refl in grind arith
    absorbed a false f = grind arith

handles_refl : (v : Handles) → same_handles v v ≡ true
handles_refl v = each every_key
  where
    option_refl : (a : Option ℕ) → same_handle a a ≡ true
    option_refl None = refl
    option_refl (Some a) = grind (arith, common_steps)

    each : (ks : List Key) → list_all (λ k. same_handle (of_key k v) (of_key k v)) ks ≡ true
    each [] = refl
    each (k ∷ ks) = rw (option_refl (of_key k v)) (each ks)

-- the voucher of a message that was queued is known
enqueued_known : (m : Machine) (to : ℕ) (q : Message) (v : Handles) → IsAmong to m.tasks → q.voucher ≡ Some v
    → is_known (enqueued m to q) v ≡ true
enqueued_known m to q v l e =
    any_set (task_knows v) m.tasks to (record (tasked m to) { queue = (tasked m to).queue ++ q ∷ [] }) l
    ∙ or_left (task_knows v (record (tasked m to) { queue = (tasked m to).queue ++ q ∷ [] }))
    (other_any (task_knows v) m.tasks to)
    (or_right (list_any (λ (n : Named). same_handles n.voucher v) (tasked m to).names)
    (list_any (λ (r : Message). option_same r.voucher v) ((tasked m to).queue ++ q ∷ []))
    (list_any-append (λ (r : Message). option_same r.voucher v) (tasked m to).queue (q ∷ [])
    ∙ or_right (list_any (λ (r : Message). option_same r.voucher v) (tasked m to).queue)
    (option_same q.voucher v || false) (or_left (option_same q.voucher v) false
    (ap (λ w. option_same w v) e ∙ handles_refl v))))

send_law : (l d o n1 k h : Bool) (b : Bool) → d ≡ (if b then h else false) → (o || n1) ≡ k → (h ≡ true → k ≡ true)
    → ((l || (d || o)) || n1) ≡ ((h || l) || k)
send_law l d o n1 k true b e g f = all_true l d o n1 (g ∙ f refl)
  where
    all_true : (l d o n1 : Bool) → (o || n1) ≡ true → ((l || (d || o)) || n1) ≡ true
    all_true l d o n1 g = grind arith
send_law l d o n1 k false true e g f = rw e (no_d l o n1 k g)
  where
    no_d : (l o n1 k : Bool) → (o || n1) ≡ k → ((l || (false || o)) || n1) ≡ ((false || l) || k)
    no_d l o n1 k g = grind arith
send_law l d o n1 k false false e g f = rw e (no_d l o n1 k g)
  where
    no_d : (l o n1 k : Bool) → (o || n1) ≡ k → ((l || (false || o)) || n1) ≡ ((false || l) || k)
    no_d l o n1 k g = grind arith

left_law : (w n1 n q o : Bool) → (w || n1) ≡ n → (w || ((n1 || q) || o)) ≡ ((n || q) || o)
left_law w n1 n q o e = grind arith

implied_law : (w k : Bool) → (w ≡ true → k ≡ true) → (w || k) ≡ k
implied_law true k f = sym (f refl)
implied_law false k f = refl

-- a task of a machine with another, its names as they were or with one less
abbrev sender_after : Tasked → Bool → ℕ → Tasked
sender_after x moving name = if moving then record x { names = one_less x.names name } else x

moved_as : (m : Machine) (t : ℕ) (moving : Bool) (name : ℕ) → moved_name m t moving name ≡ with_tasked m t
    (sender_after (tasked m t) moving name)
moved_as m t true name = refl
moved_as m t false name = ap (λ xs. record m { tasks = xs }) (sym (set_same m.tasks t idle))

sender_law : (x : Tasked) (moving : Bool) (name : ℕ) (p : Place) (o : Bool)
    → (option_has (handles_of x.names name) p || (known_to (sender_after x moving name) p || o)) ≡ (known_to x p || o)
sender_law x true name p o = left_law (option_has (handles_of x.names name) p) (names_any (one_less x.names name) p)
    (names_any x.names p) (queue_any x.queue p) o (less_any x.names name p)
sender_law x false name p o =
    implied_law (option_has (handles_of x.names name) p) (known_to x p || o)
    (λ h. or_left (known_to x p) o (or_left (names_any x.names p) (queue_any x.queue p)
    (sym (less_any x.names name p) ∙ or_left (option_has (handles_of x.names name) p)
    (names_any (one_less x.names name) p) h)))

-- from the machine in which the message is queued
send_from : (n : Machine) (t : ℕ) (f : Frame) (v : Handles) (moving : Bool) (name : ℕ) (known : List Place) (b : Bool)
    (p : Place) → (tasked n t).frame ≡ Some f → f.forming ≡ Some v
    → lets_hold known p ≡ (if b then has_place v p else false) → is_known n v ≡ true
    → spot (with_frame (moved_name n t moving name) t (closed
    (ending f (known ++ orphaned (moved_name n t moving name) (handles_of (tasked n t).names name))))) p
    ≡ spot n p
send_from n t f v moving name known b p e forming d queued =
    subst (λ (o : Machine). spot (with_frame o t (closed (ending f (known ++ orphaned o w)))) p ≡ spot n p)
    (sym (moved_as n t moving name))
    (spot_put n t x1 (closed (ending f lets)) p l
    ∙ (one_eq _ _ _ _ _ _ _ _
    (ap (λ c. c || (known_to x1 p || others_hold n t p)) (ending_holds f known (orphaned (with_tasked n t x1) w) p)
    ∙ (send_law (lets_hold f.lets p) (lets_hold known p) (lets_hold (orphaned (with_tasked n t x1) w) p)
    (known_to x1 p || others_hold n t p) (known_to (tasked n t) p || others_hold n t p) (has_place v p) b d
    (orphan_law n t x1 w p l ∙ sender_law (tasked n t) moving name p (others_hold n t p))
    (λ h. known_held n t (tasked n t) v p l (subst (λ xs. is_known (record n { tasks = xs }) v ≡ true)
    (sym (set_same n.tasks t idle)) queued) h)
    ∙ sym (ap (λ y. (option_has y p || lets_hold f.lets p) || (known_to (tasked n t) p || others_hold n t p))
    forming)))
    (ap (λ c. c || others_expect n t p) (closed_expects (ending f lets) p))
    (ap (λ c. claims_before n t p ++ (c ++ claims_behind n t p)) (closed_claims (ending f lets) p))
    ∙ sym (spot_of n t f p e)))
  where
    l : IsAmong t n.tasks
    l = task_in_range n t f e

    w : Option Handles
    w = handles_of (tasked n t).names name

    x1 : Tasked
    x1 = sender_after (tasked n t) moving name

    lets : List Place
    lets = known ++ orphaned (with_tasked n t x1) w

-- the end of a send
pub put_send_spot : (m : Machine) (t : ℕ) (f : Frame) (v : Handles) (call : Call) (to : ℕ) (moving : Bool)
    (name id : ℕ) (p : Place) → (tasked m t).frame ≡ Some f → f.forming ≡ Some v
    → IsAmong to m.tasks → spot (place_send m t f v call to moving name id) p ≡ spot m p
put_send_spot m t f v call to moving name id p e forming l =
    ap (λ names. spot (with_frame mid t (closed (ending f (doubled m v ++ orphaned mid (handles_of names name))))) p)
    (sym (same_part (λ y. y.names) m.tasks to t _ idle refl))
    ∙ (send_from n t f v moving name (doubled m v) (is_known m v) p
    (same_part (λ y. y.frame) m.tasks to t _ idle refl ∙ e) forming (doubled_holds m v p)
    (enqueued_known m to q v l refl)
    ∙ enqueued_spot m to q p l (λ h. ap (λ s. s.held) (spot_of m t f p e) ∙ held h))
  where
    q : Message
    q = record { sender = t; id = id; voucher = Some v }

    n : Machine
    n = enqueued m to q

    mid : Machine
    mid = moved_name n t moving name

    held : has_place v p ≡ true → (frame_holds (Some f) p || kept_named m t p) ≡ true
    held h = or_left (frame_holds (Some f) p) _ (or_left (option_has f.forming p) (lets_hold f.lets p)
        (ap (λ y. option_has y p) forming ∙ h))
