-- Begin: a call brings what it may take.
use Rattle.std.proofs.Common.{◌≡◌, ◌≢◌, ◌⊎◌, inl, inr, get_or, zero, suc, ℕ, ◌+◌, ◌*◌, ◌≤◌, Bool, List, [], ◌∷◌, ◌++◌, refl, true, false, not, ◌||◌, arith, sym, ap, ◌∙◌, subst, length, length-append, Some, None, Option}
use Rattle.std.specs.Prelude.{if◌then◌else◌, ◌==◌, nat_lt}
use Rattle.std.proofs.Math.ListN.{set}
use Rattle.std.proofs.lemmas.Bool.{cases_eq}
use Rattle.vch_base.specs.Tasks.{at_task, set_task}
use Rattle.vch_base.proofs.CallerLemmas.{as_long, other_items}
use Rattle.vch_base.specs.declared.limits.TheConstants.{ARRAY_BYTES}
use Rattle.vch_base.specs.declared.key.Key.{Key}
use Rattle.vch_base.specs.declared.key.Key.TheVariants as keys
use Rattle.vch_base.specs.Keyed.{Keyed, of_key}
use Rattle.vch_model.specs.declared.call.Call.{Call}
use Rattle.vch_model.specs.declared.call.Call.TheVariants as calls
use Rattle.vch_model.specs.declared.entry.Reply.{Reply}
use Rattle.vch_model.specs.declared.lists.Scenario.{Scenario}
use Rattle.vch_model.specs.Lines.{is_task}
use Rattle.vch_machine.specs.State.{Handles, no_handles, idle, Message, Pool, Frame, Tasked, Machine, tasked, with_tasked}
use Rattle.vch_machine.specs.Beginning.{begun_one, fresh_frame, leaving_frame, exiting_frame, key_if, store_reply, or_want, dropped, dequeued, enqueued, is_full, first_voucher, begin_recv, begin_call, begin_line, do_begin}
use Rattle.vch_machine.specs.Frames.{closed, with_frame, replied}
use Rattle.vch_machine.specs.Naming.{one_less, handles_of, orphaned}
use Rattle.vch_machine.specs.Next.{nth_call}
use Rattle.vch_legal.proofs.CallerLemmas.{IsAmong, own_task, Near, near_self, near_own, near_queued, orphaned_few}
use Rattle.vch_bounds.specs.Rooms.{made_in, given_up_in}
use Rattle.vch_bounds.specs.Spent.{call_takes, call_lets, given_lets, takes_of, lets_of, flying_of, takes_in, lets_in, flying_in}
use Rattle.vch_bounds.proofs.events.Paid.{Pays, Own, own_framed, near_among, closed_takes, closed_lets}
use Rattle.vch_bounds.proofs.events.Open.{MayPay}

-- the state in which the call is counted as begun
abbrev counted : Machine → ℕ → Machine
counted m t = with_tasked m t (begun_one (tasked m t))

still_among : (t : ℕ) (m : Machine) (x : Tasked) → IsAmong t m.tasks → IsAmong t (with_tasked m t x).tasks
still_among t m x among = (among.0, subst (λ i. t ≤ i) (sym (as_long m.tasks t x)) among.1)

-- a queue is longer, and no frame is another
queued_frame : (t to : ℕ) (m : Machine) (q : Message) → (tasked (enqueued m to q) t).frame ≡ (tasked m t).frame
queued_frame t to m q = by_task (cases_eq t to)
  where
    own : (xs : List Tasked) (u : ℕ) (x : Tasked) → x.frame ≡ (at_task xs u idle).frame
        → (at_task (set_task xs u x) u idle).frame ≡ (at_task xs u idle).frame
    own xs zero x e = refl
    own xs (suc i) x e = from_place xs i e
      where
        from_place : (xs : List Tasked) (i : ℕ) → x.frame ≡ (get_or xs i idle).frame
            → (get_or (set xs i x) i idle).frame ≡ (get_or xs i idle).frame
        from_place [] i e = refl
        from_place (y ∷ xs) zero e = e
        from_place (y ∷ xs) (suc i) e = from_place xs i e

    by_task : (t ≡ to) ⊎ (t ≢ to) → (tasked (enqueued m to q) t).frame ≡ (tasked m t).frame
    by_task (inl e) = subst (λ u. (tasked (enqueued m to q) u).frame ≡ (tasked m u).frame) (sym e)
        (own m.tasks to (record (tasked m to) { queue = (tasked m to).queue ++ q ∷ [] }) refl)
    by_task (inr e) = ap (λ (x : Tasked). x.frame)
        (other_items m.tasks to t (record (tasked m to) { queue = (tasked m to).queue ++ q ∷ [] }) idle e)

-- a task that begins its next call
record BeginsCall (sc : Scenario) (t : ℕ) (m : Machine) (call : Call) : Type 0 where
  among : IsAmong t m.tasks
  frame : (tasked m t).frame ≡ None
  there : nth_call sc t ((tasked m t).begun + 1) ≡ Some call

-- a frame that takes no more than a call may
record IsFew (version : ℕ) (call : Call) (g : Option Frame) : Type 0 where
  takes : takes_of version (Some call) g ≤ call_takes
  lets : lets_of version (Some call) g ≤ call_lets

begun_pays : (sc : Scenario) (t : ℕ) (m n : Machine) (call : Call) (g : Option Frame) → BeginsCall sc t m call → Own t (counted m t) n g
    → n.tally ≡ m.tally → n.pools ≡ m.pools → made_in n.past ≡ made_in m.past → given_up_in n.past ≡ given_up_in m.past
    → IsFew sc.version call g → Pays sc t m n
begun_pays sc t m n call g c own tally pools made given few =
    let b : (tasked n t).begun ≡ (tasked m t).begun + 1 =
    own.begun ∙ ap (λ (x : Tasked). x.begun) (own_task m t (begun_one (tasked m t)) c.among) in
    let there : nth_call sc t (tasked n t).begun ≡ Some call = ap (nth_call sc t) b ∙ c.there in
    let x : takes_in sc t (tasked m t) ≡ 0 = ap (takes_of sc.version (nth_call sc t (tasked m t).begun)) c.frame in
    let y : takes_in sc t (tasked n t) ≡ takes_of sc.version (Some call) g =
    ap (λ o. takes_of sc.version o (tasked n t).frame) there ∙ ap (takes_of sc.version (Some call)) own.frame in
    let v : lets_in sc t (tasked m t) ≡ 0 = ap (lets_of sc.version (nth_call sc t (tasked m t).begun)) c.frame in
    let w : lets_in sc t (tasked n t) ≡ lets_of sc.version (Some call) g =
    ap (λ o. lets_of sc.version o (tasked n t).frame) there ∙ ap (lets_of sc.version (Some call)) own.frame in
    let p : flying_in t (tasked m t) ≡ 0 = ap flying_of c.frame in
    let r = ap (λ q. q.refers) tally in
    let l = ap (λ q. q.claims) tally in
    record {
      refers = take _ _ _ _ _ _ _ b x y r few.takes;
      claims = let_go _ _ _ _ _ _ _ _ _ b v w l given few.lets;
      made = make _ _ _ _ _ _ p r made;
      used = λ k. let a = ap (λ (q : Keyed Pool). (of_key k q).used) pools in omega (arith, a, made);
    }
  where
    take : (tn tm bn bm rn rm y : ℕ) → bn ≡ bm + 1 → tm ≡ 0 → tn ≡ y → rn ≡ rm → y ≤ call_takes
        → 4 * rn + tn + call_takes * bm ≤ 4 * rm + tm + call_takes * bn
    take tn tm bn bm rn rm y b e h k l = omega arith

    let_go : (ln lm bn bm cn cm gn gm y : ℕ) → bn ≡ bm + 1 → lm ≡ 0 → ln ≡ y → cn ≡ cm → gn ≡ gm → y ≤ call_lets
        → 4 * cn + ln + call_lets * bm + given_lets * gm ≤ 4 * cm + lm + call_lets * bn + given_lets * gn
    let_go ln lm bn bm cn cm gn gm y b e h k l q = omega arith

    make : (fn fm rn rm mn mm : ℕ) → fm ≡ 0 → rn ≡ rm → mn ≡ mm → mn + rm + fm ≤ mm + rn + fn
    make fn fm rn rm mn mm e h k = omega arith

none_few : (version : ℕ) (call : Call) → IsFew version call None
none_few version call = record { takes = omega arith; lets = omega arith }

-- the call is answered at once, in a state that the event passes through
over_pays : (sc : Scenario) (t : ℕ) (m mid : Machine) (call : Call) (reply : Reply) → BeginsCall sc t m call → Near t (counted m t) mid
    → (tasked mid t).frame ≡ (tasked (counted m t) t).frame → mid.past ≡ m.past → Pays sc t m (replied mid t call reply)
over_pays sc t m mid call reply c near frame past =
    begun_pays sc t m (replied mid t call reply) call None c
    (record {
      begun = near.begun;
      frame = frame ∙ (ap (λ (x : Tasked). x.frame) (own_task m t (begun_one (tasked m t)) c.among) ∙ c.frame);
    })
    near.tally near.pools (let a = ap made_in past in omega (arith, a)) (let a = ap given_up_in past in omega (arith, a))
    (none_few sc.version call)

answered_pays : (sc : Scenario) (t : ℕ) (m : Machine) (call : Call) (reply : Reply) → BeginsCall sc t m call
    → Pays sc t m (replied (counted m t) t call reply)
answered_pays sc t m call reply c = over_pays sc t m (counted m t) call reply c (near_self t (counted m t)) refl refl

counted_among : (t : ℕ) (m : Machine) → IsAmong t m.tasks → IsAmong t (counted m t).tasks
counted_among t m among = still_among t m (begun_one (tasked m t)) among

-- a frame begins
fresh_pays : (sc : Scenario) (t : ℕ) (m : Machine) (call : Call) (g : Frame) → BeginsCall sc t m call → IsFew sc.version call (Some g)
    → Pays sc t m (with_frame (counted m t) t (Some g))
fresh_pays sc t m call g c few =
    begun_pays sc t m (with_frame (counted m t) t (Some g)) call (Some g) c
    (own_framed t (counted m t) (counted m t) (Some g) (counted_among t m c.among) refl) refl refl refl refl few

-- a voucher's handles are let go
drop_pays : (sc : Scenario) (t : ℕ) (m : Machine) (name : ℕ) (v : Option Handles) (reply : Reply) → BeginsCall sc t m (calls.GiveUp name)
    → Pays sc t m (dropped (counted m t) t (calls.GiveUp name) reply v name)
drop_pays sc t m name v reply c =
    begun_pays sc t m (dropped (counted m t) t (calls.GiveUp name) reply v name) (calls.GiveUp name) (closed (leaving_frame (orphaned mid v))) c
    (record { begun = own.begun ∙ near.begun; frame = own.frame }) refl refl (omega arith) (omega arith)
    (let a = closed_takes sc.version (Some (calls.GiveUp name)) (leaving_frame (orphaned mid v)) in
    let b = closed_lets sc.version (Some (calls.GiveUp name)) (leaving_frame (orphaned mid v)) in
    let d = orphaned_few mid v in
    record { takes = omega (arith, a); lets = omega (arith, b, d) })
  where
    mid : Machine
    mid = with_tasked (counted m t) t (record (tasked (counted m t) t) { names = one_less (tasked (counted m t) t).names name })

    near : Near t (counted m t) mid
    near = near_own t (counted m t) (record (tasked (counted m t) t) { names = one_less (tasked (counted m t) t).names name }) refl

    own : Own t mid (with_frame mid t (closed (leaving_frame (orphaned mid v)))) (closed (leaving_frame (orphaned mid v)))
    own = own_framed t mid mid (closed (leaving_frame (orphaned mid v)))
        (near_among t (counted m t) mid near (counted_among t m c.among)) refl

-- a create that begins a frame has no more than 5,120 bytes
create_if : (sc : Scenario) (t : ℕ) (m a b : Machine) (none long : Bool) → Pays sc t m a → (long ≡ false → Pays sc t m b)
    → Pays sc t m (if none || long then a else b)
create_if sc t m a b true long x y = x
create_if sc t m a b false true x y = x
create_if sc t m a b false false x y = y refl

pays_if : (sc : Scenario) (t : ℕ) (m a b : Machine) (c : Bool) → Pays sc t m a → Pays sc t m b → Pays sc t m (if c then a else b)
pays_if sc t m a b true x y = x
pays_if sc t m a b false x y = y

bytes_few : (version : ℕ) (bytes : List ℕ) → nat_lt ARRAY_BYTES (length bytes) ≡ false
    → IsFew version (calls.Create bytes) (Some (fresh_frame no_handles []))
bytes_few version bytes e = let a = at_most (length bytes) e in record { takes = omega (arith, a); lets = omega (arith, a) }
  where
    at_most : (n : ℕ) → nat_lt ARRAY_BYTES n ≡ false → n ≤ ARRAY_BYTES
    at_most n e = grind arith

one_key : (k : Key) (x : Option ℕ) → length (key_if k x) ≤ 1
one_key k None = omega arith
one_key k (Some h) = omega arith

send_pays : (sc : Scenario) (t : ℕ) (m : Machine) (to : ℕ) (moving : Bool) (name id : ℕ) (reply : Reply) (v : Option Handles)
    → BeginsCall sc t m (calls.Send to moving name id) → Pays sc t m (elim v [
      | None ↦ replied (counted m t) t (calls.Send to moving name id) reply
      | Some w ↦ with_frame (counted m t) t (Some (fresh_frame w (key_if keys.Bank w.bank)))
    ])
send_pays sc t m to moving name id reply None c = answered_pays sc t m (calls.Send to moving name id) reply c
send_pays sc t m to moving name id reply (Some w) c =
    fresh_pays sc t m (calls.Send to moving name id) (fresh_frame w (key_if keys.Bank w.bank)) c
    (let a = one_key keys.Bank w.bank in record { takes = omega (arith, a); lets = omega (arith, a) })

-- a send without a voucher
bare_pays : (sc : Scenario) (t : ℕ) (m : Machine) (to : ℕ) (call : Call) (reply : Reply) (q : Message) → BeginsCall sc t m call
    → Pays sc t m (replied (if is_full sc (counted m t) to then counted m t else enqueued (counted m t) to q) t call reply)
bare_pays sc t m to call reply q c = by_full (is_full sc (counted m t) to)
  where
    by_full : (b : Bool) → Pays sc t m (replied (if b then counted m t else enqueued (counted m t) to q) t call reply)
    by_full true = answered_pays sc t m call reply c
    by_full false =
        over_pays sc t m (enqueued (counted m t) to q) call reply c (near_queued t to (counted m t) q)
        (queued_frame t to (counted m t) q) refl

recv_pays : (sc : Scenario) (t : ℕ) (m : Machine) (reply : Reply) (v : Option Handles) → BeginsCall sc t m calls.Recv
    → Pays sc t m (begin_recv (counted m t) t calls.Recv reply v)
recv_pays sc t m reply None c = by_queue (tasked (counted m t) t).queue
  where
    by_queue : (queue : List Message) → Pays sc t m (replied (dequeued (counted m t) t queue) t calls.Recv reply)
    by_queue [] = answered_pays sc t m calls.Recv reply c
    by_queue (q ∷ queue) =
        over_pays sc t m (with_tasked (counted m t) t (record (tasked (counted m t) t) { queue = queue })) calls.Recv reply c
        (near_own t (counted m t) (record (tasked (counted m t) t) { queue = queue }) refl)
        (ap (λ (x : Tasked). x.frame) (own_task (counted m t) t (record (tasked (counted m t) t) { queue = queue }) (counted_among t m c.among)))
        refl
recv_pays sc t m reply (Some v) c =
    fresh_pays sc t m calls.Recv (fresh_frame v (key_if keys.Importance v.importance ++ key_if keys.Bank v.bank)) c
    (let a = one_key keys.Importance v.importance in
    let b = one_key keys.Bank v.bank in
    let d = length-append (key_if keys.Importance v.importance) (key_if keys.Bank v.bank) in
    record { takes = omega (arith, a, b, d); lets = omega (arith, a, b, d) })

begin_pays : (sc : Scenario) (want : Bool) (t : ℕ) (m : Machine) (call : Call) (reply : Reply) → BeginsCall sc t m call
    → Pays sc t m (begin_call sc want (counted m t) t call reply)
begin_pays sc want t m (calls.Create bytes) reply c =
    create_if sc t m _ _ (length bytes == 0) (nat_lt ARRAY_BYTES (length bytes)) (answered_pays sc t m (calls.Create bytes) reply c)
    (λ short. fresh_pays sc t m (calls.Create bytes) (fresh_frame no_handles []) c (bytes_few sc.version bytes short))
begin_pays sc want t m (calls.GiveUp name) reply c = drop_pays sc t m name (handles_of (tasked (counted m t) t).names name) reply c
begin_pays sc want t m (calls.Extract name key) reply c = answered_pays sc t m (calls.Extract name key) (or_want want reply) c
begin_pays sc want t m (calls.Recipes name) reply c = answered_pays sc t m (calls.Recipes name) (or_want want reply) c
begin_pays sc want t m (calls.Send to moving name id) reply c =
    pays_if sc t m _ _ (not (is_task sc to)) (answered_pays sc t m (calls.Send to moving name id) reply c)
    (pays_if sc t m _ _ (name == 0)
    (bare_pays sc t m to (calls.Send to moving name id) reply (record { sender = t; id = id; voucher = None }) c)
    (send_pays sc t m to moving name id reply (handles_of (tasked (counted m t) t).names name) c))
begin_pays sc want t m calls.Recv reply c = recv_pays sc t m reply (first_voucher (tasked (counted m t) t).queue) c
begin_pays sc want t m (calls.Extern name adding n) reply c = answered_pays sc t m (calls.Extern name adding n) reply c
begin_pays sc want t m (calls.Charge name n) reply c = answered_pays sc t m (calls.Charge name n) reply c
begin_pays sc want t m calls.Ledger reply c = answered_pays sc t m calls.Ledger reply c
begin_pays sc want t m calls.Assertions reply c = answered_pays sc t m calls.Assertions reply c
begin_pays sc want t m calls.Live reply c = answered_pays sc t m calls.Live reply c
begin_pays sc want t m calls.Exit reply c =
    fresh_pays sc t m calls.Exit exiting_frame c (record { takes = omega arith; lets = omega arith })

pub do_begin_pays : (sc : Scenario) (want : Bool) (t : ℕ) (m : Machine) → IsAmong t m.tasks → (tasked m t).frame ≡ None
    → MayPay sc t m (do_begin sc want m t)
do_begin_pays sc want t m among frame = by_line (nth_call sc t ((tasked m t).begun + 1)) refl
  where
    by_line : (o : Option Call) → nth_call sc t ((tasked m t).begun + 1) ≡ o → MayPay sc t m (begin_line sc want m t o)
    by_line None e = tt
    by_line (Some call) e =
        begin_pays sc want t m call (store_reply sc m t call) (record { among = among; frame = frame; there = e })
