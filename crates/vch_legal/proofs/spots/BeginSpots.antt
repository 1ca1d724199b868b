-- Begin changes no spot.
use Rattle.std.proofs.Common.{◌≡◌, ℕ, Bool, List, [], ◌∷◌, ◌++◌, refl, true, false, not, ◌||◌, arith, sym, ap, ◌∙◌, length, Some, None, Option}
use Rattle.std.specs.Prelude.{if◌then◌else◌, ◌==◌, nat_lt}
use Rattle.std.specs.List.{list_any}
use Rattle.vch_base.specs.declared.key.Key.{Key}
use Rattle.vch_base.specs.declared.limits.TheConstants.{ARRAY_BYTES}
use Rattle.vch_base.specs.Keyed.{of_key}
use Rattle.vch_machine.specs.State.{Handles, Place, Named, Message, Tasked, Machine, idle, tasked, with_tasked, has_place, option_has, frame_holds, frame_expects, frame_claims, task_holds, no_handles, is_handle}
use Rattle.vch_base.specs.declared.key.Key.TheVariants as keys
use Rattle.vch_model.specs.declared.call.Call.{Call}
use Rattle.vch_model.specs.declared.call.Call.TheVariants as calls
use Rattle.vch_model.specs.declared.entry.Reply.{Reply}
use Rattle.vch_model.specs.declared.lists.Scenario.{Scenario}
use Rattle.vch_model.specs.Lines.{is_task}
use Rattle.vch_machine.specs.Beginning.{begun_one, fresh_frame, exiting_frame, begin_call, begin_send, begin_recv, dequeued, enqueued, first_voucher, is_full, key_if}
use Rattle.vch_machine.specs.Frames.{with_frame, replied}
use Rattle.vch_machine.specs.Naming.{handles_of}
use Rattle.vch_legal.proofs.facts.Choices.{or_left, or_right}
use Rattle.vch_legal.proofs.spots.WorkSpots.{named_holds}
use Rattle.vch_legal.proofs.spots.LeaveSpots.{dropped_spot}
use Rattle.vch_legal.proofs.spots.TransferSpots.{enqueued_spot}
use Rattle.vch_legal.specs.Facts.{spot}
use Rattle.vch_legal.proofs.tasks.TaskLists.{IsAmong, any_set, any_split, all_set, all_split}
use Rattle.vch_legal.proofs.spots.FrameSpots.{one_eq, others_hold, others_expect, claims_before, claims_behind, spot_set, spot_split}
use Rattle.vch_legal.proofs.spots.PutSpots.{known_to}

-- a task is replaced by one that is the same to a place
pub spot_task : (m : Machine) (t : ℕ) (x : Tasked) (p : Place) → IsAmong t m.tasks
    → task_holds p x ≡ task_holds p (tasked m t) → x.frame ≡ (tasked m t).frame
    → spot (with_tasked m t x) p ≡ spot m p
spot_task m t x p l holds frame =
    one_eq _ _ _ _ _ _ _ _
    (any_set (task_holds p) m.tasks t x l ∙ (ap (λ b. b || others_hold m t p) holds
    ∙ sym (any_split (task_holds p) m.tasks t idle l)))
    (any_set (λ (y : Tasked). frame_expects y.frame p) m.tasks t x l
    ∙ (ap (λ f. frame_expects f p || others_expect m t p) frame
    ∙ sym (any_split (λ (y : Tasked). frame_expects y.frame p) m.tasks t idle l)))
    (all_set (λ (y : Tasked). frame_claims y.frame p) m.tasks t x l
    ∙ (ap (λ f. claims_before m t p ++ (frame_claims f p ++ claims_behind m t p)) frame
    ∙ sym (all_split (λ (y : Tasked). frame_claims y.frame p) m.tasks t idle l)))

pub begun_spot : (m : Machine) (t : ℕ) (p : Place) → IsAmong t m.tasks
    → spot (with_tasked m t (begun_one (tasked m t))) p ≡ spot m p
begun_spot m t p l = spot_task m t (begun_one (tasked m t)) p l refl refl

-- a frame begins with a map that a name or a message has, or with none
pub fresh_spot : (m : Machine) (t : ℕ) (v : Handles) (ks : List Key) (p : Place) → IsAmong t m.tasks
    → (tasked m t).frame ≡ None → (has_place v p ≡ true → known_to (tasked m t) p ≡ true)
    → spot (with_frame m t (Some (fresh_frame v ks))) p ≡ spot m p
fresh_spot m t v ks p l e known =
    spot_set m t (Some (fresh_frame v ks)) p l
    ∙ (one_eq _ _ _ _ _ _ _ _
    (absorbed (has_place v p) (known_to (tasked m t) p) (others_hold m t p) known
    ∙ sym (ap (λ f. frame_holds f p || (known_to (tasked m t) p || others_hold m t p)) e))
    (sym (ap (λ f. frame_expects f p || others_expect m t p) e))
    (sym (ap (λ f. claims_before m t p ++ (frame_claims f p ++ claims_behind m t p)) e))
    ∙ sym (spot_split m t p l))
  where
    absorbed : (h k o : Bool) → (h ≡ true → k ≡ true) → ((h || false) || (k || o)) ≡ (false || (k || o))
    absorbed true k o f = let i : k ≡ true = f refl in grind arith
    absorbed false k o f = refl

-- a frame of an exit begins, which holds nothing
exiting_spot : (m : Machine) (t : ℕ) (p : Place) → IsAmong t m.tasks → (tasked m t).frame ≡ None
    → spot (with_frame m t (Some exiting_frame)) p ≡ spot m p
exiting_spot m t p l e =
    spot_set m t (Some exiting_frame) p l
    ∙ (one_eq _ _ _ _ _ _ _ _
    (sym (ap (λ f. frame_holds f p || (known_to (tasked m t) p || others_hold m t p)) e))
    (sym (ap (λ f. frame_expects f p || others_expect m t p) e))
    (sym (ap (λ f. claims_before m t p ++ (frame_claims f p ++ claims_behind m t p)) e))
    ∙ sym (spot_split m t p l))

nothing_has : (k : Key) (h : ℕ) → is_handle (of_key k no_handles) h ≡ false
nothing_has keys.Importance h = refl
nothing_has keys.Bank h = refl
nothing_has keys.User h = refl
nothing_has keys.Test h = refl

spot_either : (m n o : Machine) (b : Bool) (p : Place) → (b ≡ true → spot n p ≡ spot m p)
    → (b ≡ false → spot o p ≡ spot m p) → spot (if b then n else o) p ≡ spot m p
spot_either m n o true p x y = x refl
spot_either m n o false p x y = y refl

first_spot : (m : Machine) (t : ℕ) (queue : List Message) (p : Place) → IsAmong t m.tasks
    → (tasked m t).queue ≡ queue → first_voucher queue ≡ None → spot (dequeued m t queue) p ≡ spot m p
first_spot m t [] p l e g = refl
first_spot m t (q ∷ queue) p l e g =
    spot_task m t (record (tasked m t) { queue = queue }) p l
    (sym (ap (λ xs. list_any (λ (n : Named). has_place n.voucher p) (tasked m t).names ||
    (list_any (λ (r : Message). option_has r.voucher p) xs || frame_holds (tasked m t).frame p)) e
    ∙ ap (λ v. list_any (λ (n : Named). has_place n.voucher p) (tasked m t).names ||
    ((option_has v p || list_any (λ (r : Message). option_has r.voucher p) queue) || frame_holds
    (tasked m t).frame p)) g))
    refl

first_known : (queue : List Message) (v : Handles) (p : Place) → first_voucher queue ≡ Some v → has_place v p ≡ true
    → list_any (λ (r : Message). option_has r.voucher p) queue ≡ true
first_known [] v p e h = cc
first_known (q ∷ queue) v p e h = or_left (option_has q.voucher p) _ (ap (λ w. option_has w p) e ∙ h)

recv_spot : (m : Machine) (t : ℕ) (call : Call) (r : Reply) (v : Option Handles) (p : Place) → IsAmong t m.tasks
    → (tasked m t).frame ≡ None → first_voucher (tasked m t).queue ≡ v
    → spot (begin_recv m t call r v) p ≡ spot m p
recv_spot m t call r None p l e g = first_spot m t (tasked m t).queue p l refl g
recv_spot m t call r (Some v) p l e g =
    fresh_spot m t v _ p l e (λ h. or_right (list_any (λ (n : Named). has_place n.voucher p) (tasked m t).names) _
    (first_known (tasked m t).queue v p g h))

found_spot : (m : Machine) (t : ℕ) (call : Call) (r : Reply) (name : ℕ) (v : Option Handles) (p : Place)
    → IsAmong t m.tasks → (tasked m t).frame ≡ None → handles_of (tasked m t).names name ≡ v
    → spot (elim v [
      | None ↦ replied m t call r
      | Some w ↦ with_frame m t
          (Some (fresh_frame w (key_if keys.Bank w.bank)))
    ]) p ≡ spot m p
found_spot m t call r name None p l e g = refl
found_spot m t call r name (Some v) p l e g = fresh_spot m t v _ p l e
    (λ h. or_left _ _ (named_holds (tasked m t).names name v p g h))

-- every task number of a scenario is a place of the list
abbrev pub InRange : Scenario → Machine → Type 0
InRange sc m = (t : ℕ) → is_task sc t ≡ true → IsAmong t m.tasks

send_spot : (sc : Scenario) (m : Machine) (t : ℕ) (call : Call) (to name id : ℕ) (r : Reply) (p : Place)
    → InRange sc m → IsAmong t m.tasks → (tasked m t).frame ≡ None
    → spot (begin_send sc m t call to name id r (handles_of (tasked m t).names name)) p ≡ spot m p
send_spot sc m t call to name id r p range l e =
    spot_either m _ _ (not (is_task sc to)) p (λ _. refl)
    (λ task. spot_either m _ _ (name == 0) p
    (λ _. spot_either m m (enqueued m to (record { sender = t; id = id; voucher = None })) (is_full sc m to) p
    (λ _. refl)
    (λ _. enqueued_spot m to (record { sender = t; id = id; voucher = None }) p
    (range to (not_false (is_task sc to) task)) (λ h. cc)))
    (λ _. found_spot m t call r name (handles_of (tasked m t).names name) p l e refl))
  where
    not_false : (b : Bool) → not b ≡ false → b ≡ true
    not_false b g = grind arith

-- Begin changes no spot; m has the call counted
pub begin_spot : (sc : Scenario) (want : Bool) (m : Machine) (t : ℕ) (call : Call) (r : Reply) (p : Place)
    → InRange sc m → IsAmong t m.tasks → (tasked m t).frame ≡ None
    → spot (begin_call sc want m t call r) p ≡ spot m p
begin_spot sc want m t (calls.Create bytes) r p range l e =
    spot_either m _ _ ((length bytes == 0) || nat_lt ARRAY_BYTES (length bytes)) p (λ _. refl)
    (λ _. fresh_spot m t no_handles [] p l e (λ h. let k : has_place no_handles p ≡ false = nothing_has p.key p.handle
    in cc))
begin_spot sc want m t (calls.GiveUp name) r p range l e = dropped_spot m t (calls.GiveUp name) r name p l e
begin_spot sc want m t (calls.Send to moving name id) r p range l e =
    send_spot sc m t (calls.Send to moving name id) to name id r p range l e
begin_spot sc want m t calls.Recv r p range l e = recv_spot m t calls.Recv r
    (first_voucher (tasked m t).queue) p l e refl
begin_spot sc want m t (calls.Extract name key) r p range l e = refl
begin_spot sc want m t (calls.Recipes name) r p range l e = refl
begin_spot sc want m t (calls.Extern name adding n) r p range l e = refl
begin_spot sc want m t (calls.Charge name n) r p range l e = refl
begin_spot sc want m t calls.Ledger r p range l e = refl
begin_spot sc want m t calls.Assertions r p range l e = refl
begin_spot sc want m t calls.Live r p range l e = refl
begin_spot sc want m t calls.Exit r p range l e = exiting_spot m t p l e
