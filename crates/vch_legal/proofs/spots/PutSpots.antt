-- The end of a create, a send or a recv changes no spot.
use Rattle.std.proofs.Common.{◌≡◌, ℕ, Bool, List, [], ◌∷◌, ◌++◌, refl, true, false, ◌||◌, arith, sym, ap, ◌∙◌, Some, None, Option}
use Rattle.std.specs.Prelude.{is_some, if◌then◌else◌, ◌==◌}
use Rattle.std.specs.List.{list_any, list_all}
use Rattle.std.proofs.lemmas.List.Folds.{list_any-append}
use Rattle.vch_base.specs.declared.key.Key.{Key}
use Rattle.vch_base.specs.declared.key.Key.TheVariants as keys
use Rattle.vch_base.specs.Keys.{every_key}
use Rattle.vch_base.specs.Keyed.{of_key}
use Rattle.vch_base.proofs.CallerLemmas.{equal_where_equal, own_item, as_long}
use Rattle.vch_model.specs.declared.call.Call.{Call}
use Rattle.vch_machine.specs.State.{Handles, Place, same_place, Named, Message, Frame, Tasked, Machine, idle, tasked, with_tasked, has_place, option_has, frame_holds, frame_expects, frame_claims, task_holds, living_at}
use Rattle.vch_machine.specs.Frames.{with_frame}
use Rattle.vch_machine.specs.Leaving.{is_fixed}
use Rattle.vch_machine.specs.Naming.{same_handle, same_handles, name_of, one_more, with_name, is_known, places, doubled}
use Rattle.vch_machine.specs.Placing.{ended, place_create}
use Rattle.vch_legal.specs.Facts.{spot}
use Rattle.vch_legal.proofs.facts.Choices.{and_left, and_right, cases_bool}
use Rattle.vch_legal.proofs.spots.SpotSteps.{one}
use Rattle.vch_legal.proofs.tasks.TaskLists.{IsAmong, other_any_set, before_set, behind_set}
use Rattle.vch_legal.proofs.spots.Places.{same_number, closed_holds, closed_expects, closed_claims}
use Rattle.vch_legal.proofs.spots.FrameSpots.{one_eq, others_hold, others_expect, claims_before, claims_behind, spot_set, spot_of, task_in_range}
use Rattle.vch_legal.proofs.spots.WorkSpots.{lets_hold, places_hold}

-- what names and queue of a task hold
abbrev pub known_to : Tasked → Place → Bool
known_to x p = list_any (λ (n : Named). has_place n.voucher p) x.names || list_any
    (λ (q : Message). option_has q.voucher p) x.queue

-- a spot where a task and its frame are replaced
pub spot_put : (m : Machine) (t : ℕ) (x : Tasked) (g : Option Frame) (p : Place) → IsAmong t m.tasks
    → spot (with_frame (with_tasked m t x) t g) p
    ≡ one (is_some (living_at m.live p)) (is_fixed m p) (frame_holds g p || (known_to x p || others_hold m t p))
    (frame_expects g p || others_expect m t p)
    (claims_before m t p ++ (frame_claims g p ++ claims_behind m t p))
spot_put m t x g p l =
    spot_set (with_tasked m t x) t g p ((l.0, rw (as_long m.tasks t x) l.1))
    ∙ one_eq (is_some (living_at m.live p)) (is_fixed m p) _ _ _ _ _ _
    (ap (λ y. frame_holds g p || (known_to y p || others_hold (with_tasked m t x) t p))
    (own_item m.tasks t x idle l.0 l.1)
    ∙ ap (λ b. frame_holds g p || (known_to x p || b)) (other_any_set (task_holds p) m.tasks t x))
    (ap (λ b. frame_expects g p || b) (other_any_set (λ (y : Tasked). frame_expects y.frame p) m.tasks t x))
    (ap (λ b. b ++ (frame_claims g p ++ claims_behind (with_tasked m t x) t p))
    (before_set (λ (y : Tasked). frame_claims y.frame p) m.tasks t x)
    ∙ ap (λ b. claims_before m t p ++ (frame_claims g p ++ b))
    (behind_set (λ (y : Tasked). frame_claims y.frame p) m.tasks t x))

handle_eq : (a b : Option ℕ) → same_handle a b ≡ true → a ≡ b
handle_eq None None e = refl
handle_eq (Some a) (Some b) e = ap Some (same_number a b e)
handle_eq None (Some b) e = cc
handle_eq (Some a) None e = cc

same_at : (k : Key) (a b : Handles) → list_all (λ j. same_handle (of_key j a) (of_key j b)) every_key ≡ true
    → same_handle (of_key k a) (of_key k b) ≡ true
same_at keys.Importance a b e = and_left (same_handle a.importance b.importance) _ e
same_at keys.Bank a b e = and_left (same_handle a.bank b.bank) _
    (and_right (same_handle a.importance b.importance) _ e)
same_at keys.User a b e = and_left (same_handle a.user b.user) _ (and_right (same_handle a.bank b.bank) _
    (and_right (same_handle a.importance b.importance) _ e))
same_at keys.Test a b e = and_left (same_handle a.test b.test) _ (and_right (same_handle a.user b.user) _
    (and_right (same_handle a.bank b.bank) _ (and_right (same_handle a.importance b.importance) _ e)))

pub handles_eq : (a b : Handles) → same_handles a b ≡ true → a ≡ b
handles_eq a b e = equal_where_equal a b (λ k. handle_eq (of_key k a) (of_key k b) (same_at k a b e))

abbrev names_any : List Named → Place → Bool
names_any names p = list_any (λ (n : Named). has_place n.voucher p) names

pub more_any : (names : List Named) (name : ℕ) (p : Place) → names_any (one_more names name) p ≡ names_any names p
more_any [] name p = refl
more_any (n ∷ names) name p =
    cases_bool (n.name == name) (names_any (one_more (n ∷ names) name) p ≡ names_any (n ∷ names) p)
    (λ here. rw here)
    (λ other. rw (other, more_any names name p))

pub found_any : (names : List Named) (v : Handles) (name : ℕ) (p : Place) → name_of names v ≡ Some name
    → has_place v p ≡ true → names_any names p ≡ true
found_any [] v name p e h = cc
found_any (n ∷ names) v name p e h =
    cases_bool (same_handles n.voucher v) (names_any (n ∷ names) p ≡ true)
    (λ here. let k : has_place n.voucher p ≡ true = ap (λ w. has_place w p) (handles_eq n.voucher v here) ∙ h in rw k)
    (λ other. let i : name_of names v ≡ Some name = rw other at e
    in let j : names_any names p ≡ true = found_any names v name p i h in rw j (or_true (has_place n.voucher p)))
  where
    or_true : (a : Bool) → (a || true) ≡ true
    or_true a = grind arith

put_old : (n q o h l b : Bool) → (h ≡ true → n ≡ true) → ((l || (if b then h else false)) || ((n || q) || o)) ≡
    ((h || l) || ((n || q) || o))
put_old n q o true l b e = let k : n ≡ true = e refl in grind arith
put_old n q o false l b e = grind arith

put_new : (n q o h l b : Bool) → ((l || (if b then h else false)) || (((n || (h || false)) || q) || o)) ≡
    ((h || l) || ((n || q) || o))
put_new n q o true l b = grind arith
put_new n q o false l b = grind arith

pub doubled_holds : (m : Machine) (v : Handles) (p : Place) → lets_hold (doubled m v) p ≡
    (if is_known m v then has_place v p else false)
doubled_holds m v p = by_test (is_known m v)
  where
    by_test : (b : Bool) → lets_hold (if b then places v else []) p ≡ (if b then has_place v p else false)
    by_test true = places_hold v p
    by_test false = refl

create_holds : (m : Machine) (x : Tasked) (lets : List Place) (v : Handles) (p : Place) (o : Bool) (name : Option ℕ)
    → name_of x.names v ≡ name
    → (lets_hold (lets ++ doubled m v) p || (known_to (with_name x v name) p || o)) ≡
    ((has_place v p || lets_hold lets p) || (known_to x p || o))
create_holds m x lets v p o (Some name) e =
    ap (λ b. b || (known_to (with_name x v (Some name)) p || o))
    (list_any-append (λ q. same_place q p) lets (doubled m v)
    ∙ ap (λ b. lets_hold lets p || b) (doubled_holds m v p))
    ∙ (ap (λ b. (lets_hold lets p || (if is_known m v then has_place v p else false)) ||
    ((b || list_any (λ (q : Message). option_has q.voucher p) x.queue) || o)) (more_any x.names name p)
    ∙ put_old (names_any x.names p) (list_any (λ (q : Message). option_has q.voucher p) x.queue) o (has_place v p)
    (lets_hold lets p) (is_known m v) (found_any x.names v name p e))
create_holds m x lets v p o None e =
    ap (λ b. b || (known_to (with_name x v None) p || o)) (list_any-append (λ q. same_place q p) lets (doubled m v)
    ∙ ap (λ b. lets_hold lets p || b) (doubled_holds m v p))
    ∙ (ap (λ b. (lets_hold lets p || (if is_known m v then has_place v p else false)) ||
    ((b || list_any (λ (q : Message). option_has q.voucher p) x.queue) || o))
    (list_any-append (λ (n : Named). has_place n.voucher p) x.names
    (record { name = x.next; voucher = v; refs = 1 } ∷ []))
    ∙ put_new (names_any x.names p) (list_any (λ (q : Message). option_has q.voucher p) x.queue) o (has_place v p)
    (lets_hold lets p) (is_known m v))

-- the frame that ends a call
abbrev pub ending : Frame → List Place → Frame
ending f lets = record f { forming = None; answered = true; keys = []; lets = f.lets ++ lets }

pub put_create_spot : (m : Machine) (t : ℕ) (f : Frame) (v : Handles) (call : Call) (p : Place)
    → (tasked m t).frame ≡ Some f → f.forming ≡ Some v
    → spot (place_create m t f v call) p ≡ spot m p
put_create_spot m t f v call p e forming =
    spot_put m t (with_name (tasked m t) v (name_of (tasked m t).names v)) (ended f (doubled m v)) p
    (task_in_range m t f e)
    ∙ (one_eq _ _ _ _ _ _ _ _
    (ap (λ b. b || (known_to (with_name (tasked m t) v (name_of (tasked m t).names v)) p || others_hold m t p))
    (closed_holds (ending f (doubled m v)) p (λ _. refl))
    ∙ (create_holds m (tasked m t) f.lets v p (others_hold m t p) (name_of (tasked m t).names v) refl
    ∙ sym (ap (λ x. (option_has x p || lets_hold f.lets p) || (known_to (tasked m t) p || others_hold m t p))
    forming)))
    (ap (λ b. b || others_expect m t p) (closed_expects (ending f (doubled m v)) p))
    (ap (λ b. claims_before m t p ++ (b ++ claims_behind m t p)) (closed_claims (ending f (doubled m v)) p))
    ∙ sym (spot_of m t f p e))
