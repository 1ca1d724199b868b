-- Vouchers that leave names and queues change no spot: what nobody has any more is let go.
use Rattle.std.proofs.Common.{◌≡◌, ℕ, zero, suc, ◌-◌, ◌<◌, ◌≤◌, Bool, List, [], ◌∷◌, ◌++◌, refl, true, false, ◌||◌, arith, sym, ap, ◌∙◌, length, get_or, Some, None, Option}
use Rattle.std.proofs.Math.ListN.{set}
use Rattle.std.specs.Prelude.{if◌then◌else◌, ◌==◌, nat_lt}
use Rattle.std.specs.List.{list_any}
use Rattle.std.proofs.lemmas.List.Folds.{list_any-append}
use Rattle.vch_base.specs.Tasks.{at_task, set_task}
use Rattle.vch_model.specs.declared.call.Call.{Call}
use Rattle.vch_model.specs.declared.entry.Reply.{Reply}
use Rattle.vch_machine.specs.State.{Handles, Place, Named, Message, Tasked, Machine, idle, tasked, with_tasked, has_place, option_has, frame_holds, frame_expects, frame_claims, task_holds}
use Rattle.vch_machine.specs.Beginning.{dropped, leaving_frame}
use Rattle.vch_machine.specs.Frames.{closed}
use Rattle.vch_machine.specs.Naming.{same_handles, one_less, without_name, option_same, task_knows, is_known, places, orphaned, handles_of}
use Rattle.vch_legal.specs.Facts.{spot}
use Rattle.vch_legal.proofs.facts.Choices.{cases_bool, or_left, or_right}
use Rattle.vch_legal.proofs.tasks.TaskLists.{IsAmong, other_any, any_set}
use Rattle.vch_legal.proofs.spots.Places.{closed_holds, closed_expects, closed_claims}
use Rattle.vch_legal.proofs.spots.FrameSpots.{one_eq, others_hold, others_expect, claims_before, claims_behind, spot_split}
use Rattle.vch_legal.proofs.spots.WorkSpots.{lets_hold, places_hold}
use Rattle.vch_legal.proofs.spots.PutSpots.{known_to, spot_put, handles_eq}

or_both : (a b c d : Bool) → (a ≡ true → c ≡ true) → (b ≡ true → d ≡ true) → (a || b) ≡ true → (c || d) ≡ true
or_both true b c d f g e = or_left c d (f refl)
or_both false true c d f g e = or_right c d (g refl)
or_both false false c d f g e = cc

any_mono : {X : Type 0} (p q : X → Bool) → ((x : X) → p x ≡ true → q x ≡ true) → (xs : List X) → list_any p xs ≡ true
    → list_any q xs ≡ true
any_mono p q f [] e = e
any_mono p q f (x ∷ xs) e = or_both (p x) (list_any p xs) (q x) (list_any q xs) (f x) (any_mono p q f xs) e

other_mono : {X : Type 0} (p q : X → Bool) → ((x : X) → p x ≡ true → q x ≡ true) → (xs : List X) (t : ℕ)
    → other_any p xs t ≡ true → other_any q xs t ≡ true
other_mono {X} p q f xs zero e = any_mono p q f xs e
other_mono {X} p q f xs (suc i) e = from_place xs i e
  where
    from_place : (xs : List X) (i : ℕ) → other_any p xs (suc i) ≡ true → other_any q xs (suc i) ≡ true
    from_place [] i e = e
    from_place (x ∷ xs) zero e = any_mono p q f xs e
    from_place (x ∷ xs) (suc i) e = or_both (p x) (other_any p xs (suc i)) (q x) (other_any q xs (suc i)) (f x)
        (from_place xs i) e

has_same : (v w : Handles) (p : Place) → has_place v p ≡ true → same_handles w v ≡ true → has_place w p ≡ true
has_same v w p h e = ap (λ x. has_place x p) (handles_eq w v e) ∙ h

option_has_same : (v : Handles) (w : Option Handles) (p : Place) → has_place v p ≡ true → option_same w v ≡ true
    → option_has w p ≡ true
option_has_same v None p h e = e
option_has_same v (Some w) p h e = has_same v w p h e

knows_known : (v : Handles) (p : Place) (x : Tasked) → has_place v p ≡ true → task_knows v x ≡ true
    → known_to x p ≡ true
knows_known v p x h e =
    or_both (list_any (λ (n : Named). same_handles n.voucher v) x.names)
    (list_any (λ (q : Message). option_same q.voucher v) x.queue) _ _
    (any_mono (λ (n : Named). same_handles n.voucher v) (λ (n : Named). has_place n.voucher p)
    (λ n. has_same v n.voucher p h) x.names)
    (any_mono (λ (q : Message). option_same q.voucher v) (λ (q : Message). option_has q.voucher p)
    (λ q. option_has_same v q.voucher p h) x.queue) e

known_holds : (p : Place) (x : Tasked) → known_to x p ≡ true → task_holds p x ≡ true
known_holds p x e = regroup (list_any (λ (n : Named). has_place n.voucher p) x.names)
    (list_any (λ (q : Message). option_has q.voucher p) x.queue) (frame_holds x.frame p) e
  where
    regroup : (a b c : Bool) → (a || b) ≡ true → (a || (b || c)) ≡ true
    regroup a b c g = grind arith

-- a voucher that somebody has is held by them
pub known_held : (m : Machine) (t : ℕ) (x : Tasked) (v : Handles) (p : Place) → IsAmong t m.tasks
    → is_known (with_tasked m t x) v ≡ true → has_place v p ≡ true
    → (known_to x p || others_hold m t p) ≡ true
known_held m t x v p l e h =
    or_both (task_knows v x) (other_any (task_knows v) m.tasks t) (known_to x p) (others_hold m t p)
    (knows_known v p x h)
    (other_mono (task_knows v) (task_holds p) (λ y k. known_holds p y (knows_known v p y h k)) m.tasks t)
    (sym (any_set (task_knows v) m.tasks t x l) ∙ e)

orphan_held : (known has k : Bool) → (known ≡ true → has ≡ true → k ≡ true)
    → ((if known then false else has) || k) ≡ (has || k)
orphan_held true true k f = let e : k ≡ true = f refl refl in grind arith
orphan_held true false k f = refl
orphan_held false has k f = refl

if_places : (b : Bool) (v : Handles) (p : Place) → lets_hold (if b then [] else places v) p ≡
    (if b then false else has_place v p)
if_places true v p = refl
if_places false v p = places_hold v p

pub orphan_law : (m : Machine) (t : ℕ) (x : Tasked) (w : Option Handles) (p : Place) → IsAmong t m.tasks
    → (lets_hold (orphaned (with_tasked m t x) w) p || (known_to x p || others_hold m t p)) ≡
    (option_has w p || (known_to x p || others_hold m t p))
orphan_law m t x None p l = refl
orphan_law m t x (Some v) p l =
    ap (λ b. b || (known_to x p || others_hold m t p)) (if_places (is_known (with_tasked m t x) v) v p)
    ∙ orphan_held (is_known (with_tasked m t x) v) (has_place v p) (known_to x p || others_hold m t p)
    (λ k h. known_held m t x v p l k h)

abbrev names_any : List Named → Place → Bool
names_any names p = list_any (λ (n : Named). has_place n.voucher p) names

-- a name that is given up
pub less_any : (names : List Named) (name : ℕ) (p : Place) →
    (option_has (handles_of names name) p || names_any (one_less names name) p) ≡ names_any names p
less_any [] name p = refl
less_any (n ∷ names) name p =
    cases_bool (n.name == name) ((option_has (handles_of (n ∷ names) name) p || names_any
    (one_less (n ∷ names) name) p) ≡ names_any (n ∷ names) p)
    (λ here. rw here (by_refs (nat_lt 1 n.refs)))
    (λ other. rw other (between (option_has (handles_of names name) p) (has_place n.voucher p)
    (names_any (one_less names name) p) ∙ ap (λ b. has_place n.voucher p || b) (less_any names name p)))
  where
    between : (a b c : Bool) → (a || (b || c)) ≡ (b || (a || c))
    between a b c = grind arith

    twice : (a b : Bool) → (a || (a || b)) ≡ (a || b)
    twice a b = grind arith

    by_refs : (b : Bool) → (has_place n.voucher p || names_any
        (if b then record n { refs = n.refs - 1 } ∷ names else names) p) ≡
        (has_place n.voucher p || names_any names p)
    by_refs true = twice (has_place n.voucher p) (names_any names p)
    by_refs false = refl

-- a name that is given up with all its user references
pub without_any : (names : List Named) (name : ℕ) (p : Place) →
    (option_has (handles_of names name) p || names_any (without_name names name) p) ≡ names_any names p
without_any [] name p = refl
without_any (n ∷ names) name p =
    cases_bool (n.name == name) ((option_has (handles_of (n ∷ names) name) p || names_any
    (without_name (n ∷ names) name) p) ≡ names_any (n ∷ names) p)
    (λ here. rw here)
    (λ other. rw other (between (option_has (handles_of names name) p) (has_place n.voucher p)
    (names_any (without_name names name) p) ∙ ap (λ b. has_place n.voucher p || b) (without_any names name p)))
  where
    between : (a b c : Bool) → (a || (b || c)) ≡ (b || (a || c))
    between a b c = grind arith

-- a drop changes no spot; m has the call counted
pub dropped_spot : (m : Machine) (t : ℕ) (call : Call) (r : Reply) (name : ℕ) (p : Place) → IsAmong t m.tasks
    → (tasked m t).frame ≡ None
    → spot (dropped m t call r (handles_of (tasked m t).names name) name) p ≡ spot m p
dropped_spot m t call r name p l e =
    spot_put m t x (closed (leaving_frame lets)) p l
    ∙ (one_eq _ _ _ _ _ _ _ _
    (ap (λ b. b || (known_to x p || others_hold m t p)) (closed_holds (leaving_frame lets) p (λ _. refl))
    ∙ (orphan_law m t x w p l ∙ (law (option_has w p) (names_any (one_less (tasked m t).names name) p)
    (names_any (tasked m t).names p) (list_any (λ (q : Message). option_has q.voucher p) (tasked m t).queue)
    (others_hold m t p) (less_any (tasked m t).names name p)
    ∙ sym (ap (λ f. frame_holds f p || (known_to (tasked m t) p || others_hold m t p)) e))))
    (ap (λ b. b || others_expect m t p) (closed_expects (leaving_frame lets) p)
    ∙ sym (ap (λ f. frame_expects f p || others_expect m t p) e))
    (ap (λ b. claims_before m t p ++ (b ++ claims_behind m t p)) (closed_claims (leaving_frame lets) p)
    ∙ sym (ap (λ f. claims_before m t p ++ (frame_claims f p ++ claims_behind m t p)) e))
    ∙ sym (spot_split m t p l))
  where
    w : Option Handles
    w = handles_of (tasked m t).names name

    x : Tasked
    x = record (tasked m t) { names = one_less (tasked m t).names name }

    lets : List Place
    lets = orphaned (with_tasked m t x) w

    law : (a b n q o : Bool) → (a || b) ≡ n → (a || ((b || q) || o)) ≡ ((n || q) || o)
    law a b n q o e = grind arith

-- a recv changes no spot
pub recv_law : (l d o n1 k h : Bool) (b : Bool) → d ≡ (if b then h else false) → (o || n1) ≡ (k || h)
    → ((l || (d || o)) || n1) ≡ ((h || l) || k)
recv_law l d o n1 k h true e g = rw e (by_or l h o n1 k g)
  where
    by_or : (l h o n1 k : Bool) → (o || n1) ≡ (k || h) → ((l || (h || o)) || n1) ≡ ((h || l) || k)
    by_or l h o n1 k g = grind arith
recv_law l d o n1 k h false e g = rw e (by_or l h o n1 k g)
  where
    by_or : (l h o n1 k : Bool) → (o || n1) ≡ (k || h) → ((l || (false || o)) || n1) ≡ ((h || l) || k)
    by_or l h o n1 k g = grind arith

-- a message is queued: its voucher is held there
queued_from : (p : Place) (xs : List Tasked) (i : ℕ) (q : Message) → i < length xs
    → list_any (task_holds p) (set xs i (record (get_or xs i idle) { queue = (get_or xs i idle).queue ++ q ∷ [] })) ≡
    (list_any (task_holds p) xs || option_has q.voucher p)
queued_from p [] i q l = absurd (omega arith)
queued_from p (x ∷ xs) zero q l =
    ap (λ b. (list_any (λ (n : Named). has_place n.voucher p) x.names || (b || frame_holds x.frame p)) || list_any
    (task_holds p) xs) (list_any-append (λ (r : Message). option_has r.voucher p) x.queue (q ∷ []))
    ∙ moved_or (list_any (λ (n : Named). has_place n.voucher p) x.names)
    (list_any (λ (r : Message). option_has r.voucher p) x.queue) (option_has q.voucher p) (frame_holds x.frame p)
    (list_any (task_holds p) xs)
  where
    moved_or : (n q h f r : Bool) → ((n || ((q || (h || false)) || f)) || r) ≡ (((n || (q || f)) || r) || h)
    moved_or n q h f r = grind arith
queued_from p (x ∷ xs) (suc i) q l =
    ap (λ b. task_holds p x || b) (queued_from p xs i q (omega arith))
    ∙ assoc (task_holds p x) (list_any (task_holds p) xs) (option_has q.voucher p)
  where
    assoc : (a b c : Bool) → (a || (b || c)) ≡ ((a || b) || c)
    assoc a b c = grind arith

pub enqueued_any : (p : Place) (xs : List Tasked) (t : ℕ) (q : Message) → IsAmong t xs
    → list_any (task_holds p) (set_task xs t (record (at_task xs t idle) {
      queue = (at_task xs t idle).queue ++ q ∷
          [];
    })) ≡ (list_any (task_holds p) xs || option_has q.voucher p)
enqueued_any p xs zero q l = absurd (none l.0)
  where
    none : 1 ≤ 0 → ⊥
    none g = omega arith
enqueued_any p xs (suc i) q l = queued_from p xs i q (below i (length xs) l.1)
  where
    below : (i n : ℕ) → suc i ≤ n → i < n
    below i n g = omega arith

pub enqueued_expects : (p : Place) (xs : List Tasked) (t : ℕ) (q : List Message)
    → list_any (λ (x : Tasked). frame_expects x.frame p) (set_task xs t (record (at_task xs t idle) { queue = q }))
    ≡ list_any (λ (x : Tasked). frame_expects x.frame p) xs
enqueued_expects p xs zero q = refl
enqueued_expects p xs (suc i) q = from_place xs i
  where
    from_place : (xs : List Tasked) (i : ℕ) → list_any (λ (x : Tasked). frame_expects x.frame p)
        (set xs i (record (get_or xs i idle) { queue = q })) ≡ list_any (λ (x : Tasked). frame_expects x.frame p) xs
    from_place [] i = refl
    from_place (x ∷ xs) zero = refl
    from_place (x ∷ xs) (suc i) = ap (λ b. frame_expects x.frame p || b) (from_place xs i)
