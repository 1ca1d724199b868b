-- A call with a frame is refused: by the store's code, or by being out of memory where that may be.
use Rattle.std.proofs.Common.{◌≡◌, inl, inr, ℕ, Bool, List, [], ◌∷◌, ◌++◌, refl, true, false, not, ◌&&◌, ◌||◌, arith, sym, ap, ◌∙◌, subst, length, Some, None, Option, Err, Result}
use Rattle.std.specs.Prelude.{if◌then◌else◌, ◌==◌, nat_lt, nat_le, is_some, ℤ}
use Rattle.vch_base.specs.declared.codes.TheConstants.{KERN_RESOURCE_SHORTAGE}
use Rattle.vch_base.specs.declared.limits.TheConstants.{ARRAY_BYTES}
use Rattle.vch_model.specs.declared.call.Call.{Call}
use Rattle.vch_model.specs.declared.call.Call.TheVariants as calls
use Rattle.vch_model.specs.declared.entry.Entry.TheVariants as entries
use Rattle.vch_model.specs.declared.lists.Scenario.{Scenario}
use Rattle.vch_model.specs.Voucher.{Voucher, nothing}
use Rattle.vch_model.specs.Store as store
use Rattle.vch_model.specs.Store.{Member, Message, member, voucher_of}
use Rattle.vch_model.specs.Eval.{create, eval_all, made_of}
use Rattle.vch_model.specs.Words.{word_of}
use Rattle.vch_model.specs.After.{is_want, placed, store_after_call}
use Rattle.vch_model.specs.Lines.{is_task}
use Rattle.vch_model.specs.Replies.{refused, created}
use Rattle.vch_model.specs.Legal.{IsAnswer, option_all_live, voucher_made, may_want, may_send, first_has_voucher, reaches}
use Rattle.vch_machine.specs.State.{Handles, Frame, Tasked, Machine, tasked, seen, member_of}
use Rattle.vch_machine.specs.Frames.{closed, with_frame, refuse}
use Rattle.vch_machine.specs.Naming.{option_places}
use Rattle.vch_machine.specs.Next.{nth_call}
use Rattle.vch_legal.specs.Tie.{first_in, is_answering}
use Rattle.vch_legal.proofs.seen.SeenTasks.{member_seen, seen_frame, own_task, frame_in}
use Rattle.vch_legal.proofs.forming.Records.{seen_names}
use Rattle.vch_legal.proofs.steps.Standing.{Step}
use Rattle.vch_legal.proofs.tasks.OwnSteps.{Before, Answered, answered_step, closed_answered}

-- the names of a task, as the store sees them
pub names_seen : (m : Machine) (t : ℕ) → voucher_of (member (seen m) t).names ≡ seen_names m.live (tasked m t).names
names_seen m t = ap (λ (x : Member). voucher_of x.names) (member_seen m t)

-- a task whose call forms a voucher
pub record Calling (sc : Scenario) (t : ℕ) (m : Machine) (f : Frame) (call : Call) : Type 0 where
  pub before : Before sc t m
  pub frame : (tasked m t).frame ≡ Some f
  pub map : Handles
  pub forming : f.forming ≡ Some map
  pub unanswered : f.answered ≡ false
  pub there : nth_call sc t (tasked m t).begun ≡ Some call

pub calling_answers : (sc : Scenario) (t : ℕ) (m : Machine) (f : Frame) (call : Call) → Calling sc t m f call
    → is_answering (tasked m t).frame ≡ true
calling_answers sc t m f call c = ap is_answering c.frame ∙ ap not c.unanswered

-- a refusal that leaves the store, and that is the store's or out of memory
pub refuse_step : (sc : Scenario) (t : ℕ) (m : Machine) (f : Frame) (call : Call) (code : ℤ) → Calling sc t m f call
    → (if is_want (refused code) then seen m else store_after_call sc (seen m) t call) ≡ seen m
    → IsAnswer sc m.past (seen m) t call (refused code) → Step sc t m (refuse m t f call code)
refuse_step sc t m f call code c store answer =
    answered_step sc t m (refuse m t f call code) call (refused code) c.before (calling_answers sc t m f call c)
    c.there
    (ap (λ (x : Tasked). entries.Call t x.begun (word_of call) (refused code) ∷ m.past) own) refl
    (ap (λ (x : Tasked). x.begun) own)
    (subst (λ (x : Tasked). Answered x.frame) (sym own) (closed_answered g refl refl))
    (seen_frame m t (closed g) ∙ sym store) answer
  where
    g : Frame
    g = record f { forming = None; answered = true; keys = []; lets = f.lets ++ option_places f.forming }

    own : tasked (with_frame m t (closed g)) t ≡ record (tasked m t) { frame = closed g }
    own = own_task m t (record (tasked m t) { frame = closed g }) (frame_in m t f c.frame)

want_step : (sc : Scenario) (t : ℕ) (m : Machine) (f : Frame) (call : Call) → Calling sc t m f call
    → may_want sc m.past (seen m) t call ≡ true → Step sc t m (refuse m t f call (KERN_RESOURCE_SHORTAGE))
want_step sc t m f call c may = refuse_step sc t m f call (KERN_RESOURCE_SHORTAGE) c refl (inr (inl (refl, may)))

-- a create of some bytes, and not too many, is the fold over all
pub create_is : (version : ℕ) (names : ℕ → Option Voucher) (t : ℕ) (bytes : List ℕ) → (length bytes == 0) ≡ false
    → nat_lt ARRAY_BYTES (length bytes) ≡ false
    → create version names t bytes ≡ made_of (eval_all version (length bytes) names t nothing bytes)
unfolding create
create_is version names t bytes some few = rw (few, some) refl

-- what a create makes in the store
pub create_seen : (version : ℕ) (m : Machine) (t : ℕ) (bytes : List ℕ) (x : Result Voucher ℤ)
    → (length bytes == 0) ≡ false
    → nat_lt ARRAY_BYTES (length bytes) ≡ false
    → eval_all version (length bytes) (seen_names m.live (tasked m t).names) t nothing bytes ≡ x
    → create version (voucher_of (member (seen m) t).names) t bytes ≡ made_of x
create_seen version m t bytes x some few e =
    ap (λ names. create version names t bytes) (names_seen m t) ∙
    (create_is version (seen_names m.live (tasked m t).names) t bytes some few ∙ ap made_of e)

pub if_same : {A : Type 0} (b : Bool) (x y : A) → y ≡ x → (if b then x else y) ≡ x
if_same true x y e = refl
if_same false x y e = e

-- a create is refused by the code of one of its records
pub create_refused : (sc : Scenario) (t : ℕ) (m : Machine) (f : Frame) (bytes : List ℕ) (code : ℤ)
    → Calling sc t m f (calls.Create bytes) → (length bytes == 0) ≡ false → nat_lt ARRAY_BYTES (length bytes) ≡ false
    → eval_all sc.version (length bytes) (seen_names m.live (tasked m t).names) t nothing bytes ≡ Err code
    → Step sc t m (refuse m t f (calls.Create bytes) code)
create_refused sc t m f bytes code c some few e =
    refuse_step sc t m f (calls.Create bytes) code c
    (if_same (is_want (refused code)) (seen m) _ (ap (placed (seen m) t) made))
    (inl (refl, sym (ap (created (seen m) t) made), ap (λ x. option_all_live (seen m) (voucher_made x)) made))
  where
    made : create sc.version (voucher_of (member (seen m) t).names) t bytes ≡ Err code
    made = create_seen sc.version m t bytes (Err code) some few e

-- a create wants memory at its end or at a record that asks a manager
pub create_wants : (sc : Scenario) (t : ℕ) (m : Machine) (f : Frame) (bytes : List ℕ)
    → Calling sc t m f (calls.Create bytes) → (length bytes == 0) ≡ false → nat_lt ARRAY_BYTES (length bytes) ≡ false
    → reaches sc.version (length bytes) (seen_names m.live (tasked m t).names) t nothing bytes ≡ true
    → Step sc t m (refuse m t f (calls.Create bytes) (KERN_RESOURCE_SHORTAGE))
create_wants sc t m f bytes c some few e =
    want_step sc t m f (calls.Create bytes) c
    (both (not_none (length bytes) some) (not_more (length bytes) few)
    (ap (λ names. reaches sc.version (length bytes) names t nothing bytes) (names_seen m t) ∙ e))
  where
    not_none : (n : ℕ) → (n == 0) ≡ false → nat_lt 0 n ≡ true
    not_none n h = grind arith

    not_more : (n : ℕ) → nat_lt ARRAY_BYTES n ≡ false → nat_le n ARRAY_BYTES ≡ true
    not_more n h = below n ARRAY_BYTES h
      where
        below : (a b : ℕ) → nat_lt b a ≡ false → nat_le a b ≡ true
        below a b h = grind arith

    both : {a b d : Bool} → a ≡ true → b ≡ true → d ≡ true → (a && (b && d)) ≡ true
    both x y z = rw (x, y, z) refl

-- a send wants memory where the bank is asked, or the queue is not full
pub send_wants : (sc : Scenario) (t : ℕ) (m : Machine) (f : Frame) (to : ℕ) (moving : Bool) (name id : ℕ)
    (v : Voucher) → Calling sc t m f (calls.Send to moving name id) → is_task sc to ≡ true → (name == 0) ≡ false
    → seen_names m.live (tasked m t).names name ≡ Some v →
    (is_some v.bank || not (store.is_full sc (seen m) to)) ≡ true
    → Step sc t m (refuse m t f (calls.Send to moving name id) (KERN_RESOURCE_SHORTAGE))
send_wants sc t m f to moving name id v c task named known room =
    want_step sc t m f (calls.Send to moving name id) c
    (both task (ap (λ names. may_send sc (seen m) to name (names name)) (names_seen m t)
    ∙ (ap (may_send sc (seen m) to name) known ∙ sent_part named room)))
  where
    both : {a b : Bool} → a ≡ true → b ≡ true → (a && b) ≡ true
    both x y = rw (x, y) refl

    sent_part : {a b : Bool} → a ≡ false → b ≡ true → (not a && b) ≡ true
    sent_part x y = rw (x, y) refl

-- a recv wants memory where its first message has a voucher
pub recv_wants : (sc : Scenario) (t : ℕ) (m : Machine) (f : Frame) (v : Voucher) → Calling sc t m f calls.Recv
    → first_in (member_of m.live (tasked m t)).queue ≡ Some v
    → Step sc t m (refuse m t f calls.Recv (KERN_RESOURCE_SHORTAGE))
recv_wants sc t m f v c first =
    want_step sc t m f calls.Recv c (ap (λ (x : Member). first_has_voucher x.queue) (member_seen m t)
    ∙ by_queue (member_of m.live (tasked m t)).queue first)
  where
    by_queue : (queue : List Message) → first_in queue ≡ Some v → first_has_voucher queue ≡ true
    by_queue [] e = cc
    by_queue (q ∷ queue) e = ap is_some e
