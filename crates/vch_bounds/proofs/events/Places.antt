-- Place: the call is answered, and the handles of two vouchers at most are to be let go.
use Rattle.std.proofs.Common.{◌≡◌, ℕ, ◌≤◌, Bool, List, [], ◌∷◌, ◌++◌, refl, true, false, arith, length, length-append, Some, None, Option}
use Rattle.vch_base.specs.declared.codes.TheConstants.{KERN_RESOURCE_SHORTAGE, MACH_SEND_TIMED_OUT}
use Rattle.vch_model.specs.declared.call.Call.{Call}
use Rattle.vch_model.specs.declared.call.Call.TheVariants as calls
use Rattle.vch_model.specs.declared.entry.Reply.{Reply}
use Rattle.vch_model.specs.declared.entry.Reply.TheVariants as replies
use Rattle.vch_model.specs.declared.lists.Scenario.{Scenario}
use Rattle.vch_machine.specs.State.{Handles, Place, Message, Frame, Tasked, Machine, tasked, with_tasked}
use Rattle.vch_machine.specs.Beginning.{enqueued, is_full}
use Rattle.vch_machine.specs.Frames.{with_frame, replied}
use Rattle.vch_machine.specs.Naming.{name_of, name_for, one_less, with_name, handles_of, orphaned, doubled}
use Rattle.vch_machine.specs.Placing.{ended, moved_name, place_create, place_send, place_recv, do_place}
use Rattle.vch_legal.specs.Facts.{most_lets}
use Rattle.vch_legal.proofs.CallerLemmas.{Near, near_self, near_then, near_own, near_queued, named_begun, orphaned_few, doubled_few}
use Rattle.vch_bounds.proofs.events.Paid.{Pays, answered_pays}
use Rattle.vch_bounds.proofs.events.Open.{Calls, MayPay, pay_if, refuse_pays}

-- the call is over, in a state that the event passes through
ended_pays : (sc : Scenario) (t : ℕ) (m mid : Machine) (f : Frame) (call : Call) (reply : Reply) (lets : List Place) → Calls sc t m f call
    → Near t m mid → mid.past ≡ m.past → length lets ≤ most_lets → Pays sc t m (replied (with_frame mid t (ended f lets)) t call reply)
ended_pays sc t m mid f call reply lets c near past few =
    answered_pays sc t m mid f (record f { forming = None; answered = true; keys = []; lets = f.lets ++ lets }) call reply lets
    c.frame c.unanswered c.among near past refl refl refl few

create_pays : (sc : Scenario) (t : ℕ) (m : Machine) (f : Frame) (v : Handles) (call : Call) → Calls sc t m f call
    → Pays sc t m (place_create m t f v call)
create_pays sc t m f v call c =
    ended_pays sc t m (with_tasked m t (with_name (tasked m t) v (name_of (tasked m t).names v))) f call
    (replies.Created (name_for (tasked m t) (name_of (tasked m t).names v))) (doubled m v) c
    (near_own t m (with_name (tasked m t) v (name_of (tasked m t).names v)) (named_begun (tasked m t) v (name_of (tasked m t).names v))) refl
    (let a = doubled_few m v in omega (arith, a))

two_vouchers : (m n : Machine) (v : Handles) (w : Option Handles) → length (doubled m v ++ orphaned n w) ≤ most_lets
two_vouchers m n v w =
    let a = length-append (doubled m v) (orphaned n w) in
    let b = doubled_few m v in
    let c = orphaned_few n w in
    omega (arith, a, b, c)

-- the name that a send moves loses a reference
near_moved : (t : ℕ) (m : Machine) (moving : Bool) (name : ℕ) → Near t m (moved_name m t moving name)
near_moved t m true name = near_own t m (record (tasked m t) { names = one_less (tasked m t).names name }) refl
near_moved t m false name = near_self t m

past_moved : (t : ℕ) (m : Machine) (moving : Bool) (name : ℕ) → (moved_name m t moving name).past ≡ m.past
past_moved t m true name = refl
past_moved t m false name = refl

send_pays : (sc : Scenario) (t : ℕ) (m : Machine) (f : Frame) (v : Handles) (call : Call) (to : ℕ) (moving : Bool) (name id : ℕ)
    → Calls sc t m f call → Pays sc t m (place_send m t f v call to moving name id)
send_pays sc t m f v call to moving name id c =
    ended_pays sc t m (moved_name mid t moving name) f call replies.Done
    (doubled m v ++ orphaned (moved_name mid t moving name) (handles_of (tasked m t).names name)) c
    (near_then t m mid (moved_name mid t moving name) (near_queued t to m (record { sender = t; id = id; voucher = Some v }))
    (near_moved t mid moving name)) (past_moved t mid moving name)
    (two_vouchers m (moved_name mid t moving name) v (handles_of (tasked m t).names name))
  where
    mid : Machine
    mid = enqueued m to (record { sender = t; id = id; voucher = Some v })

nothing_pays : (sc : Scenario) (t : ℕ) (m : Machine) → Pays sc t m m
nothing_pays sc t m = record { refers = omega arith; claims = omega arith; made = omega arith; used = λ k. omega arith }

recv_pays : (sc : Scenario) (t : ℕ) (m : Machine) (f : Frame) (v : Handles) (call : Call) (queue : List Message)
    → Calls sc t m f call → Pays sc t m (place_recv m t f v call queue)
recv_pays sc t m f v call [] c = nothing_pays sc t m
recv_pays sc t m f v call (q ∷ queue) c =
    ended_pays sc t m (with_tasked m t (with_name x v (name_of x.names v))) f call
    (replies.Received q.sender q.id (name_for x (name_of x.names v)))
    (doubled m v ++ orphaned (with_tasked m t (with_name x v (name_of x.names v))) q.voucher) c
    (near_own t m (with_name x v (name_of x.names v)) (named_begun x v (name_of x.names v))) refl
    (two_vouchers m (with_tasked m t (with_name x v (name_of x.names v))) v q.voucher)
  where
    x : Tasked
    x = record (tasked m t) { queue = queue }

pub place_pays : (sc : Scenario) (want : Bool) (t : ℕ) (m : Machine) (f : Frame) (v : Handles) (call : Call) → Calls sc t m f call
    → MayPay sc t m (do_place sc want m t f v call)
place_pays sc want t m f v (calls.Create bytes) c =
    pay_if sc t m want _ _ (refuse_pays sc t m f (calls.Create bytes) KERN_RESOURCE_SHORTAGE c.among c.frame c.unanswered)
    (create_pays sc t m f v (calls.Create bytes) c)
place_pays sc want t m f v (calls.Send to moving name id) c =
    pay_if sc t m (is_full sc m to) _ _ (refuse_pays sc t m f (calls.Send to moving name id) MACH_SEND_TIMED_OUT c.among c.frame c.unanswered)
    (pay_if sc t m want _ _ (refuse_pays sc t m f (calls.Send to moving name id) KERN_RESOURCE_SHORTAGE c.among c.frame c.unanswered)
    (send_pays sc t m f v (calls.Send to moving name id) to moving name id c))
place_pays sc want t m f v calls.Recv c =
    pay_if sc t m want _ _ (refuse_pays sc t m f calls.Recv KERN_RESOURCE_SHORTAGE c.among c.frame c.unanswered)
    (recv_pays sc t m f v calls.Recv (tasked m t).queue c)
place_pays sc want t m f v (calls.GiveUp name) c = tt
place_pays sc want t m f v (calls.Extract name key) c = tt
place_pays sc want t m f v (calls.Recipes name) c = tt
place_pays sc want t m f v (calls.Extern name adding n) c = tt
place_pays sc want t m f v (calls.Charge name n) c = tt
place_pays sc want t m f v calls.Ledger c = tt
place_pays sc want t m f v calls.Assertions c = tt
place_pays sc want t m f v calls.Live c = tt
place_pays sc want t m f v calls.Exit c = tt
