-- Begin lowers what is left.
use Rattle.std.proofs.Common.{◌≡◌, ℕ, zero, suc, ◌+◌, ◌-◌, ◌*◌, ◌≤◌, Bool, List, [], ◌∷◌, ◌++◌, refl, true, false, not, ◌||◌, arith, sym, ap, ◌∙◌, subst, length, length-append, drop, Some, None, Option}
use Rattle.std.specs.Prelude.{if◌then◌else◌, ◌==◌, nat_lt, slice_get}
use Rattle.vch_base.specs.declared.limits.TheConstants.{ARRAY_BYTES}
use Rattle.vch_base.specs.declared.key.Key.{Key}
use Rattle.vch_base.specs.declared.key.Key.TheVariants as keys
use Rattle.vch_base.specs.Keys.{every_key}
use Rattle.vch_base.proofs.CallerLemmas.{own_item, as_long}
use Rattle.vch_model.specs.declared.call.Call.{Call}
use Rattle.vch_model.specs.declared.call.Call.TheVariants as calls
use Rattle.vch_model.specs.declared.call.Line.{Line}
use Rattle.vch_model.specs.declared.entry.Reply.{Reply}
use Rattle.vch_model.specs.declared.lists.Scenario.{Scenario}
use Rattle.vch_model.specs.Lines.{is_task, lines_of}
use Rattle.vch_machine.specs.State.{Handles, no_handles, idle, Message, Frame, Tasked, Machine, tasked, with_tasked}
use Rattle.vch_machine.specs.Beginning.{begun_one, fresh_frame, leaving_frame, key_if, store_reply, or_want, dropped, dequeued, enqueued, is_full, first_voucher, begin_recv, begin_call, begin_line, do_begin}
use Rattle.vch_machine.specs.Frames.{closed, with_frame, replied}
use Rattle.vch_machine.specs.Naming.{one_less, handles_of, orphaned}
use Rattle.vch_machine.specs.Next.{nth_call, call_in}
use Rattle.vch_legal.specs.Left.{event_left, steps_left, call_left, frame_left, lines_left, owned_left}
use Rattle.vch_legal.proofs.tasks.OwnTask.{orphaned_few}
use Rattle.vch_legal.proofs.tasks.TaskLists.{IsAmong}
use Rattle.vch_legal.proofs.steps.BeginSteps.{counted}
use Rattle.vch_legal.proofs.bounds.LeftTasks.{Left, call_now, task_set, frame_set, same_task, closed_left}
use Rattle.vch_legal.proofs.bounds.LeftFrames.{Lower}
use Rattle.vch_legal.proofs.bounds.LeftMakes.{MayLower, few_managed}
use Rattle.vch_legal.proofs.bounds.LeftPlaces.{fewer_owned, one_less_few, queue_owned}

-- a task that begins its next call
record BeginsCall (sc : Scenario) (t : ℕ) (m : Machine) (call : Call) : Type 0 where
  among : IsAmong t m.tasks
  frame : (tasked m t).frame ≡ None
  there : nth_call sc t ((tasked m t).begun + 1) ≡ Some call

-- the line of the call is over
line_over : (xs : List (ℕ × Line)) (i : ℕ) (call : Call) → call_in (slice_get xs i) ≡ Some call
    → lines_left (drop (i + 1) xs) + call_left call ≡ lines_left (drop i xs)
line_over [] i call e = cc
line_over (x ∷ xs) zero call e = let g : x.1.call ≡ call = some_eq e in let h : call_left x.1.call
    ≡ call_left call = ap call_left g in omega arith
  where
    some_eq : {a b : Call} → Some a ≡ Some b → a ≡ b
    some_eq h = cc
line_over (x ∷ xs) (suc i) call e = ap (λ n. lines_left (drop n (x ∷ xs)) + call_left call) (next i)
    ∙ line_over xs i call e
  where
    next : (i : ℕ) → suc i + 1 ≡ suc (i + 1)
    next i = omega arith

counted_left : (sc : Scenario) (t : ℕ) (m : Machine) (call : Call) → BeginsCall sc t m call
    → Left sc (counted m t) + call_left call ≡ Left sc m
counted_left sc t m call c =
    over _ _ _ _ _ _ (call_left call) (owned_left (tasked m t)) (task_set sc t m (begun_one (tasked m t)) c.among)
    (ap (frame_left sc.version (nth_call sc t (tasked m t).begun)) c.frame)
    (ap (frame_left sc.version (nth_call sc t ((tasked m t).begun + 1))) c.frame)
    (line_over (lines_of sc t) (tasked m t).begun call
    (ap (λ i. call_in (slice_get (lines_of sc t) i)) (sym (back (tasked m t).begun)) ∙ c.there))
  where
    back : (n : ℕ) → n + 1 - 1 ≡ n
    back n = omega arith

    over : (a b c d f g k o : ℕ) → a + (b + f + o) ≡ c + (d + g + o) → f ≡ 0 → g ≡ 0 → d + k ≡ b → a + k ≡ c
    over a b c d f g k o p q r s = omega arith

call_some : (call : Call) → 10 ≤ call_left call
call_some (calls.Create bytes) =
    at_least (if nat_lt ARRAY_BYTES (length bytes) then 0 else event_left * (2 + length every_key + length bytes))
  where
    at_least : (n : ℕ) → 10 ≤ 10 + n
    at_least n = omega arith
call_some (calls.GiveUp name) = omega arith
call_some (calls.Extract name key) = omega arith
call_some (calls.Recipes name) = omega arith
call_some (calls.Send to moving name id) = omega arith
call_some calls.Recv = omega arith
call_some (calls.Extern name adding n) = omega arith
call_some (calls.Charge name n) = omega arith
call_some calls.Ledger = omega arith
call_some calls.Assertions = omega arith
call_some calls.Live = omega arith
call_some calls.Exit = omega arith

-- the call is answered, in a state with so much more left
over_with : (sc : Scenario) (t k : ℕ) (m mid : Machine) (call : Call) (reply : Reply) → BeginsCall sc t m call
    → Left sc mid ≤ Left sc (counted m t) + k → k + 1 ≤ call_left call → Lower sc m (replied mid t call reply)
over_with sc t k m mid call reply c more few = less _ _ _ _ k more (counted_left sc t m call c) few
  where
    less : (a b c d k : ℕ) → a ≤ b + k → b + d ≡ c → k + 1 ≤ d → a + 1 ≤ c
    less a b c d k p q r = omega arith

answered_lower : (sc : Scenario) (t : ℕ) (m : Machine) (call : Call) (reply : Reply) → BeginsCall sc t m call
    → Lower sc m (replied (counted m t) t call reply)
answered_lower sc t m call reply c =
    over_with sc t 0 m (counted m t) call reply c (same (Left sc (counted m t))) (some _ (call_some call))
  where
    same : (a : ℕ) → a ≤ a + 0
    same a = omega arith

    some : (a : ℕ) → 10 ≤ a → 0 + 1 ≤ a
    some a h = omega arith

counted_own : (t : ℕ) (m : Machine) → IsAmong t m.tasks → tasked (counted m t) t ≡ begun_one (tasked m t)
counted_own t m l = own_item m.tasks t (begun_one (tasked m t)) idle l.0 l.1

counted_among : (t : ℕ) (m : Machine) → IsAmong t m.tasks → IsAmong t (counted m t).tasks
counted_among t m l = (l.0, subst (λ i. t ≤ i) (sym (as_long m.tasks t (begun_one (tasked m t)))) l.1)

-- the frame of a call that begins, whether or not it forms a voucher
abbrev begun_frame : Option Handles → List Key → Frame
begun_frame v ks = record {
  forming = v;
  answered = false;
  at_byte = 0;
  keys = ks;
  receipt = None;
  lets = [];
  claim =
      None;
}

-- a frame begins
fresh_lower : (sc : Scenario) (t : ℕ) (m : Machine) (call : Call) (v : Option Handles) (ks : List Key)
    → BeginsCall sc t m call
    → event_left * steps_left sc.version (Some call) 0 ks + 1 ≤ call_left call
    → Lower sc m (with_frame (counted m t) t (Some (begun_frame v ks)))
fresh_lower sc t m call v ks c few =
    less _ _ _ _ _ _ _ (frame_set sc t (counted m t) (Some (begun_frame v ks)) (counted_among t m c.among))
    (counted_left sc t m call c)
    (ap (λ o. frame_left sc.version o (Some (begun_frame v ks)))
    (ap (λ (x : Tasked). nth_call sc t x.begun) (counted_own t m c.among) ∙ c.there)) few
  where
    less : (a b c d e f g : ℕ) → a + b ≡ c + d → c + e ≡ f → d ≡ event_left * g + 0 + 3 * 0 + 0
        → event_left * g + 1 ≤ e → a + 1 ≤ f
    less a b c d e f g p q r s = omega arith

-- a voucher's handles are let go
drop_lower : (sc : Scenario) (t : ℕ) (m : Machine) (name : ℕ) (reply : Reply) → BeginsCall sc t m (calls.GiveUp name)
    → Lower sc m (dropped (counted m t) t (calls.GiveUp name) reply (handles_of (tasked (counted m t) t).names name)
    name)
drop_lower sc t m name reply c =
    less _ _ _ _ _ _ _ (frame_set sc t mid (closed g)
    (c.among.0, subst (λ i. t ≤ i) (sym (as_long (counted m t).tasks t x)) (counted_among t m c.among).1))
    (closed_left sc.version (call_now sc t mid) g)
    (same_task sc t 0 (counted m t) x refl refl (fewer_owned (tasked (counted m t) t)
    (one_less (tasked (counted m t) t).names name) (one_less_few (tasked (counted m t) t).names name)))
    (counted_left sc t m (calls.GiveUp name) c)
    (orphaned_few mid (handles_of (tasked (counted m t) t).names name))
  where
    x : Tasked
    x = record (tasked (counted m t) t) { names = one_less (tasked (counted m t) t).names name }

    mid : Machine
    mid = with_tasked (counted m t) t (record (tasked (counted m t) t)
        { names = one_less (tasked (counted m t) t).names name })

    g : Frame
    g = leaving_frame (orphaned (with_tasked (counted m t) t (record (tasked (counted m t) t)
        { names = one_less (tasked (counted m t) t).names name })) (handles_of (tasked (counted m t) t).names name))

    less : (a b c d n f h : ℕ) → a + b ≡ c + d → d ≡ 0 + 0 + 3 * n + 0 → c ≤ f + 0
        → f + (10 + event_left * (2 + length every_key)) ≡ h → n ≤ length every_key → a + 1 ≤ h
    less a b c d n f h p q r s t = omega arith

lower_if : (sc : Scenario) (m a b : Machine) (c : Bool) → Lower sc m a → Lower sc m b → Lower sc m (if c then a else b)
lower_if sc m a b true x y = x
lower_if sc m a b false x y = y

-- a create that begins a frame has no more than 5,120 bytes
create_if : (sc : Scenario) (m a b : Machine) (none long : Bool) → Lower sc m a → (long ≡ false → Lower sc m b)
    → Lower sc m (if none || long then a else b)
create_if sc m a b true long x y = x
create_if sc m a b false true x y = x
create_if sc m a b false false x y = y refl

left_if : (sc : Scenario) (k : ℕ) (m a b : Machine) (c : Bool) → Left sc a ≤ Left sc m + k → Left sc b ≤ Left sc m + k
    → Left sc (if c then a else b) ≤ Left sc m + k
left_if sc k m a b true x y = x
left_if sc k m a b false x y = y

one_key : (k : Key) (x : Option ℕ) → length (key_if k x) ≤ 1
one_key k None = omega arith
one_key k (Some h) = omega arith

send_named : (sc : Scenario) (t : ℕ) (m : Machine) (to : ℕ) (moving : Bool) (name id : ℕ) (reply : Reply)
    (v : Option Handles) → BeginsCall sc t m (calls.Send to moving name id)
    → Lower sc m (elim v [
      | None ↦ replied (counted m t) t (calls.Send to moving name id) reply
      | Some w
          ↦ with_frame (counted m t) t (Some (fresh_frame w (key_if keys.Bank w.bank)))
    ])
send_named sc t m to moving name id reply None c = answered_lower sc t m (calls.Send to moving name id) reply c
send_named sc t m to moving name id reply (Some w) c =
    fresh_lower sc t m (calls.Send to moving name id) (Some w) (key_if keys.Bank w.bank) c
    (few _ (one_key keys.Bank w.bank))
  where
    few : (n : ℕ) → n ≤ 1 → event_left * (2 + n) + 1 ≤ 10 + event_left * (2 + length every_key)
    few n h = omega arith

-- a send without a voucher
bare_lower : (sc : Scenario) (t : ℕ) (m : Machine) (to : ℕ) (moving : Bool) (name id : ℕ) (reply : Reply) (q : Message)
    → BeginsCall sc t m (calls.Send to moving name id)
    → Lower sc m (replied (if is_full sc (counted m t) to then counted m t else enqueued (counted m t) to q) t
    (calls.Send to moving name id) reply)
bare_lower sc t m to moving name id reply q c =
    over_with sc t event_left m (if is_full sc (counted m t) to then counted m t else enqueued (counted m t) to q)
    (calls.Send to moving name id) reply c
    (left_if sc event_left (counted m t) _ _ (is_full sc (counted m t) to) (same (Left sc (counted m t)))
    (same_task sc to event_left (counted m t) _ refl refl (queue_owned (tasked (counted m t) to) q)))
    (omega arith)
  where
    same : (a : ℕ) → a ≤ a + event_left
    same a = omega arith

-- the first message is taken
taken_left : (sc : Scenario) (t : ℕ) (m : Machine) (queue : List Message) → (tasked m t).queue ≡ queue
    → Left sc (dequeued m t queue) ≤ Left sc m + 0
taken_left sc t m [] e = same (Left sc m)
  where
    same : (a : ℕ) → a ≤ a + 0
    same a = omega arith
taken_left sc t m (q ∷ queue) e =
    same_task sc t 0 m (record (tasked m t) { queue = queue }) refl refl
    (fewer (length (tasked m t).names) _ _ (ap length e))
  where
    fewer : (n a b : ℕ) → a ≡ suc b → event_left * (n + b) ≤ event_left * (n + a) + 0
    fewer n a b e = omega arith

recv_begin : (sc : Scenario) (t : ℕ) (m : Machine) (reply : Reply) (v : Option Handles) → BeginsCall sc t m calls.Recv
    → Lower sc m (begin_recv (counted m t) t calls.Recv reply v)
recv_begin sc t m reply None c = over_with sc t 0 m (dequeued (counted m t) t (tasked (counted m t) t).queue)
    calls.Recv reply c (taken_left sc t (counted m t) (tasked (counted m t) t).queue refl) (omega arith)
recv_begin sc t m reply (Some v) c =
    fresh_lower sc t m calls.Recv (Some v) (key_if keys.Importance v.importance ++ key_if keys.Bank v.bank) c
    (few _ _ _ (length-append (key_if keys.Importance v.importance) (key_if keys.Bank v.bank))
    (one_key keys.Importance v.importance) (one_key keys.Bank v.bank))
  where
    few : (a b c : ℕ) → a ≡ b + c → b ≤ 1 → c ≤ 1 → event_left * (2 + a) + 1 ≤ 10 + event_left * (2 + length every_key)
    few a b c e h k = omega arith

-- a create begins with no more steps than it is counted with
create_few : (version : ℕ) (bytes : List ℕ) → nat_lt ARRAY_BYTES (length bytes) ≡ false
    → event_left * steps_left version (Some (calls.Create bytes)) 0 [] + 1 ≤ call_left (calls.Create bytes)
create_few version bytes short = rw short (few (length bytes) _ (few_managed version))
  where
    few : (n k : ℕ) → k ≤ length every_key
        → event_left * (2 + n + k) + 1 ≤ 10 + event_left * (2 + length every_key + n)
    few n k h = omega arith

begin_lower : (sc : Scenario) (want : Bool) (t : ℕ) (m : Machine) (call : Call) (reply : Reply) → BeginsCall sc t m call
    → Lower sc m (begin_call sc want (counted m t) t call reply)
begin_lower sc want t m (calls.Create bytes) reply c =
    create_if sc m _ _ (length bytes == 0) (nat_lt ARRAY_BYTES (length bytes))
    (answered_lower sc t m (calls.Create bytes) reply c)
    (λ short. fresh_lower sc t m (calls.Create bytes) (Some no_handles) [] c (create_few sc.version bytes short))
begin_lower sc want t m (calls.GiveUp name) reply c = drop_lower sc t m name reply c
begin_lower sc want t m (calls.Extract name key) reply c =
    answered_lower sc t m (calls.Extract name key) (or_want want reply) c
begin_lower sc want t m (calls.Recipes name) reply c = answered_lower sc t m (calls.Recipes name) (or_want want reply) c
begin_lower sc want t m (calls.Send to moving name id) reply c =
    lower_if sc m _ _ (not (is_task sc to)) (answered_lower sc t m (calls.Send to moving name id) reply c)
    (lower_if sc m _ _ (name == 0)
    (bare_lower sc t m to moving name id reply (record { sender = t; id = id; voucher = None }) c)
    (send_named sc t m to moving name id reply (handles_of (tasked (counted m t) t).names name) c))
begin_lower sc want t m calls.Recv reply c = recv_begin sc t m reply (first_voucher (tasked (counted m t) t).queue) c
begin_lower sc want t m (calls.Extern name adding n) reply c =
    answered_lower sc t m (calls.Extern name adding n) reply c
begin_lower sc want t m (calls.Charge name n) reply c = answered_lower sc t m (calls.Charge name n) reply c
begin_lower sc want t m calls.Ledger reply c = answered_lower sc t m calls.Ledger reply c
begin_lower sc want t m calls.Assertions reply c = answered_lower sc t m calls.Assertions reply c
begin_lower sc want t m calls.Live reply c = answered_lower sc t m calls.Live reply c
begin_lower sc want t m calls.Exit reply c = fresh_lower sc t m calls.Exit None [] c (omega arith)

-- Begin
pub do_begin_lower : (sc : Scenario) (want : Bool) (t : ℕ) (m : Machine) → IsAmong t m.tasks → (tasked m t).frame ≡ None
    → MayLower sc m (do_begin sc want m t)
do_begin_lower sc want t m among frame = by_call (nth_call sc t ((tasked m t).begun + 1)) refl
  where
    by_call : (o : Option Call) → nth_call sc t ((tasked m t).begun + 1) ≡ o → MayLower sc m (begin_line sc want m t o)
    by_call None e = tt
    by_call (Some call) e = begin_lower sc want t m call (store_reply sc m t call)
        (record { among = among; frame = frame; there = e })
