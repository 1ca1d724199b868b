-- Begin and its own task, from the state n in which the call is counted.
use Rattle.std.proofs.Common.{◌≡◌, ℕ, ◌≤◌, Bool, List, [], ◌∷◌, ◌++◌, refl, true, false, arith, sym, ap, ◌∙◌, subst, length, Some, None, Option}
use Rattle.std.specs.Prelude.{if◌then◌else◌, ◌==◌, ◌||◌, nat_lt, not}
use Rattle.vch_base.specs.declared.key.Key.{Key}
use Rattle.vch_base.specs.declared.key.Key.TheVariants as keys
use Rattle.vch_base.specs.declared.limits.TheConstants.{ARRAY_BYTES}
use Rattle.vch_base.specs.Keys.{every_key}
use Rattle.vch_base.specs.Tasks.{at_task}
use Rattle.vch_model.specs.declared.call.Call.{Call}
use Rattle.vch_model.specs.declared.call.Call.TheVariants as calls
use Rattle.vch_model.specs.declared.entry.Reply.{Reply}
use Rattle.vch_model.specs.declared.lists.Scenario.{Scenario}
use Rattle.vch_model.specs.Lines.{is_task}
use Rattle.vch_machine.specs.State.{Handles, Place, Frame, Tasked, Machine, Message, idle, tasked, with_tasked, no_handles}
use Rattle.vch_machine.specs.Beginning.{dropped, begin_call, begin_recv, begin_send, is_full, fresh_frame, leaving_frame, exiting_frame, key_if, dequeued, enqueued, first_voucher, or_want}
use Rattle.vch_machine.specs.Frames.{closed, replied, with_frame}
use Rattle.vch_machine.specs.Naming.{one_less, handles_of, orphaned}
use Rattle.vch_legal.specs.Facts.{FrameFits, OptionFits, most_lets}
use Rattle.vch_legal.proofs.steps.ExitOwn.{Formless, put_formless}
use Rattle.vch_legal.proofs.tasks.OwnTask.{set_keeps, Near, near_self, near_own, near_framed, near_replied, near_queued, orphaned_few}
use Rattle.vch_legal.proofs.tasks.OwnFrame.{own_frame, plain_fits, closed_fits}

-- the own frame, and a send that begins
pub record BeginsOwn (sc : Scenario) (t : ℕ) (call : Call) (n o : Machine) : Type 0 where
  pub near : Near t n o
  pub own : OptionFits (tasked o t).frame
  pub sent : (f : Frame) (to : ℕ) (moving : Bool) (name id : ℕ) → (tasked o t).frame ≡ Some f
      → call ≡ calls.Send to moving name id → is_task sc to ≡ true
  pub exits : call ≡ calls.Exit → Formless (tasked o t).frame

-- an answer at once
begins_none : (sc : Scenario) (t : ℕ) (call : Call) (n o : Machine) → (tasked o t).frame ≡ None → Near t n o
    → BeginsOwn sc t call n o
begins_none sc t call n o e near =
    record {
      near = near;
      own = subst OptionFits (sym e) tt;
      sent = λ f to moving name id g c. let k : None
          ≡ Some f = sym e ∙ g in cc;
      exits = λ _. subst Formless (sym e) tt;
    }

begins_either : (sc : Scenario) (t : ℕ) (call : Call) (n a b : Machine) (c : Bool) → (c ≡ true → BeginsOwn sc t call n a)
    → (c ≡ false → BeginsOwn sc t call n b) → BeginsOwn sc t call n (if c then a else b)
begins_either sc t call n a b true x y = x refl
begins_either sc t call n a b false x y = y refl

-- a frame begins
begins_frame : (sc : Scenario) (t : ℕ) (call : Call) (n o : Machine) (g : Option Frame) → OptionFits g → Near t n o
    → ((to : ℕ) (moving : Bool) (name id : ℕ) → call ≡ calls.Send to moving name id → is_task sc to ≡ true)
    → (call ≡ calls.Exit → Formless g)
    → BeginsOwn sc t call n (with_frame o t g)
begins_frame sc t call n o g fits near sent exits =
    record {
      near = near_framed t n o g near;
      own = own_frame o t g fits;
      sent = λ f to moving name id e c. sent to
          moving name id c;
      exits = λ e. put_formless o t g (exits e);
    }

fresh_fits : (v : Handles) (ks : List Key) → FrameFits (fresh_frame v ks)
fresh_fits v ks = plain_fits (fresh_frame v ks) refl (λ h. cc) none_yet
  where
    none_yet : 0 ≤ most_lets
    none_yet = omega arith

exiting_fits : FrameFits exiting_frame
exiting_fits = plain_fits exiting_frame refl (λ h. refl) none_yet
  where
    none_yet : 0 ≤ most_lets
    none_yet = omega arith

replied_begins : (sc : Scenario) (t : ℕ) (call : Call) (n o : Machine) (c : Call) (r : Reply) → BeginsOwn sc t call n o
    → BeginsOwn sc t call n (replied o t c r)
replied_begins sc t call n o c r b =
    record { near = near_replied t n o c r b.near; own = b.own; sent = b.sent; exits = b.exits }

queued_frame : (n : Machine) (t to : ℕ) (q : Message) → (tasked n t).frame ≡ None
    → (tasked (enqueued n to q) t).frame ≡ None
queued_frame n t to q e =
    set_keeps (λ y. y.frame ≡ None) n.tasks to t
    (record (tasked n to) { queue = (tasked n to).queue ++ q ∷ [] })
    (λ k. ap (λ i. (at_task n.tasks i idle).frame) k ∙ e) e

dequeued_begins : (sc : Scenario) (t : ℕ) (call : Call) (n : Machine) (queue : List Message)
    → (tasked n t).frame ≡ None → BeginsOwn sc t call n (dequeued n t queue)
dequeued_begins sc t call n [] e = begins_none sc t call n n e (near_self t n)
dequeued_begins sc t call n (q ∷ queue) e =
    begins_none sc t call n (dequeued n t (q ∷ queue)) (set_keeps (λ y. y.frame ≡ None) n.tasks t t
    (record (tasked n t) { queue = queue }) (λ k. e) e)
    (near_own t n (record (tasked n t) { queue = queue }) refl)

recv_begins : (sc : Scenario) (t : ℕ) (n : Machine) (r : Reply) (v : Option Handles) → (tasked n t).frame ≡ None
    → BeginsOwn sc t calls.Recv n (begin_recv n t calls.Recv r v)
recv_begins sc t n r None e = replied_begins sc t calls.Recv n _ calls.Recv r
    (dequeued_begins sc t calls.Recv n (tasked n t).queue e)
recv_begins sc t n r (Some v) e = begins_frame sc t calls.Recv n n _ (fresh_fits v _) (near_self t n)
    (λ to moving name id c. cc) (λ x. cc)

found_begins : (sc : Scenario) (t to : ℕ) (moving : Bool) (name id : ℕ) (n : Machine) (r : Reply) (v : Option Handles)
    → (tasked n t).frame ≡ None → is_task sc to ≡ true
    → BeginsOwn sc t (calls.Send to moving name id) n (elim v [
      | None ↦ replied n t (calls.Send to moving name id) r
      | Some w ↦ with_frame n t (Some (fresh_frame w (key_if keys.Bank w.bank)))
    ])
found_begins sc t to moving name id n r None e task =
    replied_begins sc t (calls.Send to moving name id) n n (calls.Send to moving name id) r
    (begins_none sc t (calls.Send to moving name id) n n e (near_self t n))
found_begins sc t to moving name id n r (Some w) e task = begins_frame sc t _ n n _ (fresh_fits w _) (near_self t n)
    (λ to2 moving2 name2 id2 c. same_to c) (λ x. cc)
  where
    same_to : {to2 : ℕ} {moving2 : Bool} {name2 id2 : ℕ} → calls.Send to moving name id
        ≡ calls.Send to2 moving2 name2 id2 → is_task sc to2 ≡ true
    same_to {to2} c = let k : to ≡ to2 = cc in rw (sym k) task

send_begins : (sc : Scenario) (t to : ℕ) (moving : Bool) (name id : ℕ) (n : Machine) (r : Reply) (v : Option Handles)
    → (tasked n t).frame ≡ None
    → BeginsOwn sc t (calls.Send to moving name id) n (begin_send sc n t (calls.Send to moving name id) to name id r v)
send_begins sc t to moving name id n r v e =
    begins_either sc t _ n _ _ (not (is_task sc to)) (λ _. replied_begins sc t _ n n (calls.Send to moving name id) r
    (begins_none sc t _ n n e (near_self t n)))
    (λ task. begins_either sc t _ n _ _ (name == 0)
    (λ _. replied_begins sc t _ n _ (calls.Send to moving name id) r
    (begins_either sc t _ n n (enqueued n to (record { sender = t; id = id; voucher = None })) (is_full sc n to)
    (λ _. begins_none sc t _ n n e (near_self t n))
    (λ _. begins_none sc t _ n _ (queued_frame n t to _ e) (near_queued t to n _))))
    (λ _. found_begins sc t to moving name id n r v e (not_false (is_task sc to) task)))
  where
    not_false : (b : Bool) → not b ≡ false → b ≡ true
    not_false b g = grind arith

dropped_begins : (sc : Scenario) (t name : ℕ) (n : Machine) (r : Reply) (v : Option Handles)
    → BeginsOwn sc t (calls.GiveUp name) n (dropped n t (calls.GiveUp name) r v name)
dropped_begins sc t name n r v =
    replied_begins sc t (calls.GiveUp name) n (with_frame mid t (closed (leaving_frame (orphaned mid v))))
    (calls.GiveUp name) r
    (begins_frame sc t (calls.GiveUp name) n mid (closed (leaving_frame (orphaned mid v)))
    (closed_fits (leaving_frame (orphaned mid v)) (plain_fits (leaving_frame (orphaned mid v)) refl (λ _. refl)
    (few (orphaned mid v) (orphaned_few mid v))))
    (near_own t n less refl) (λ to moving name2 id c. cc) (λ x. cc))
  where
    less : Tasked
    less = record (tasked n t) { names = one_less (tasked n t).names name }

    mid : Machine
    mid = with_tasked n t less

    few : (lets : List Place) → length lets ≤ length every_key → length lets ≤ most_lets
    few lets h = omega arith

answered_begins : (sc : Scenario) (t : ℕ) (call : Call) (n : Machine) (r : Reply) → (tasked n t).frame ≡ None
    → BeginsOwn sc t call n (replied n t call r)
answered_begins sc t call n r e = replied_begins sc t call n n call r (begins_none sc t call n n e (near_self t n))

pub call_begins : (sc : Scenario) (want : Bool) (t : ℕ) (call : Call) (n : Machine) (r : Reply)
    → (tasked n t).frame ≡ None → BeginsOwn sc t call n (begin_call sc want n t call r)
call_begins sc want t (calls.Create bytes) n r e =
    begins_either sc t (calls.Create bytes) n _ _ ((length bytes == 0) || nat_lt ARRAY_BYTES (length bytes))
    (λ _. answered_begins sc t (calls.Create bytes) n r e)
    (λ _. begins_frame sc t (calls.Create bytes) n n _ (fresh_fits no_handles []) (near_self t n)
    (λ to moving name id c. cc) (λ x. cc))
call_begins sc want t (calls.GiveUp name) n r e = dropped_begins sc t name n r (handles_of (tasked n t).names name)
call_begins sc want t (calls.Extract name key) n r e = answered_begins sc t (calls.Extract name key) n
    (or_want want r) e
call_begins sc want t (calls.Recipes name) n r e = answered_begins sc t (calls.Recipes name) n (or_want want r) e
call_begins sc want t (calls.Send to moving name id) n r e =
    send_begins sc t to moving name id n r (handles_of (tasked n t).names name) e
call_begins sc want t calls.Recv n r e = recv_begins sc t n r (first_voucher (tasked n t).queue) e
call_begins sc want t (calls.Extern name adding k) n r e = answered_begins sc t (calls.Extern name adding k) n r e
call_begins sc want t (calls.Charge name k) n r e = answered_begins sc t (calls.Charge name k) n r e
call_begins sc want t calls.Ledger n r e = answered_begins sc t calls.Ledger n r e
call_begins sc want t calls.Assertions n r e = answered_begins sc t calls.Assertions n r e
call_begins sc want t calls.Live n r e = answered_begins sc t calls.Live n r e
call_begins sc want t calls.Exit n r e = begins_frame sc t calls.Exit n n (Some exiting_frame) exiting_fits
    (near_self t n)
    (λ to moving name id c. cc) (λ _. refl)
