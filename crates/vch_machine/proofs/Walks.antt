-- One walk over all events: a relation of two states that holds where the task itself is replaced, a queue is, claims are changed
-- but for their answers, or values and tally are and entries are appended, and that joins, holds of every event of the task.
use Rattle.std.proofs.Common.{◌≡◌, ℕ, ◌+◌, ◌≤◌, Bool, List, [], ◌∷◌, ◌++◌, refl, true, false, not, ◌&&◌, ◌||◌, arith, subst, length, Some, None, Option, Ok, Err, Result}
use Rattle.std.specs.Prelude.{is_some, if◌then◌else◌, ◌==◌, nat_lt, ℤ}
use Rattle.vch_base.specs.Keyed.{Keyed}
use Rattle.vch_base.specs.declared.codes.TheConstants.{KERN_RESOURCE_SHORTAGE, MACH_SEND_TIMED_OUT}
use Rattle.vch_base.specs.declared.limits.TheConstants.{ARRAY_BYTES}
use Rattle.vch_base.specs.Keys.{number_of}
use Rattle.vch_base.specs.declared.key.Key.{Key}
use Rattle.vch_base.specs.declared.key.Key.TheVariants as keys
use Rattle.vch_base.specs.declared.value.Value.{Value}
use Rattle.vch_base.specs.declared.kind.Kind.{Kind}
use Rattle.vch_base.specs.declared.kind.Kind.TheVariants as kinds
use Rattle.vch_model.specs.Lines.{phases_in, is_task}
use Rattle.vch_model.specs.Replies.{refused}
use Rattle.vch_model.specs.Words.{word_of}
use Rattle.vch_model.specs.declared.call.Call.{Call}
use Rattle.vch_model.specs.declared.call.Call.TheVariants as calls
use Rattle.vch_model.specs.declared.entry.Entry.{Entry}
use Rattle.vch_model.specs.declared.entry.Entry.TheVariants as entries
use Rattle.vch_model.specs.declared.entry.Reply.{Reply}
use Rattle.vch_model.specs.declared.entry.Reply.TheVariants as replies_of
use Rattle.vch_model.specs.declared.lists.Scenario.{Scenario}
use Rattle.vch_machine.specs.State.{Handles, Place, Living, Pool, Claim, Frame, Tasked, Tally, Machine, Message, tasked, with_tasked, handle_of, same_place, living_at}
use Rattle.vch_machine.specs.Beginning.{begun_one, fresh_frame, key_if, or_want, dequeued, enqueued, is_full, begin_recv, begin_send, begin_call, begin_line}
use Rattle.vch_machine.specs.Events.{on_formed, work_event, on_place, on_lets, on_the_claim, frame_event, event_of, event}
use Rattle.vch_machine.specs.Frames.{tallied, closed, with_frame, replied, refuse}
use Rattle.vch_machine.specs.Leaving.{more_claims, one_ask, made_of, claim_if, do_let_go, released, do_ask, do_recheck}
use Rattle.vch_machine.specs.Making.{one_refer, asked_by, minted, race_claim, back_claim, on_claims, given_receipt, made_at, make_done, make_asked, do_make, do_refer, Asked}
use Rattle.vch_machine.specs.Naming.{name_of, lowest, with_name, option_places}
use Rattle.vch_machine.specs.Next.{nth_call, next_kind}
use Rattle.vch_machine.specs.Placing.{place_create, moved_name, place_send, place_recv, do_place}
use Rattle.vch_machine.specs.Working.{work_done, do_work, do_gone, do_lost, do_left, exit_queue, exit_names, do_exit, WorkDone}

-- what decides of a claim which event is next: only its answer
abbrev pub still_claim : Claim → Claim
still_claim c = record c { raced = false; back = false }

race_still : (q : Place) (c : Claim) → still_claim (race_claim q c) ≡ still_claim c
race_still q c = by_test (same_place c.place q && not (is_some c.answer))
  where
    by_test : (b : Bool) → still_claim (if b then record c { raced = true } else c) ≡ still_claim c
    by_test true = refl
    by_test false = refl

back_still : (q : Place) (c : Claim) → still_claim (back_claim q c) ≡ still_claim c
back_still q c = by_test (same_place c.place q)
  where
    by_test : (b : Bool) → still_claim (if b then record c { back = true } else c) ≡ still_claim c
    by_test true = refl
    by_test false = refl

pub record PastWalk (t : ℕ) (R : Machine → Machine → Type 0) : Type 0 where
  pub self_ : (m : Machine) → R m m
  pub joined : (m n o : Machine) → R m n → R n o → R m o
  pub own : (m : Machine) (x : Tasked) → (tasked m t).begun ≤ x.begun → R m (with_tasked m t x)
  pub queued : (m : Machine) (u : ℕ) (queue : List Message) → R m (with_tasked m u (record (tasked m u) { queue = queue }))
  pub claims : (m : Machine) (g : Claim → Claim) → ((c : Claim) → still_claim (g c) ≡ still_claim c) → R m (on_claims g m)
  pub others : (m : Machine) (live : List Living) (pools : Keyed Pool) (newer : List Entry) (tally : Tally)
      → phases_in (newer ++ m.past) ≡ phases_in m.past
      → R m (record m { live = live; pools = pools; past = newer ++ m.past; tally = tally })

-- the same for a relation that holds whatever the history is, as long as its phases are
pub record Walk (t : ℕ) (R : Machine → Machine → Type 0) : Type 0 where
  pub self_ : (m : Machine) → R m m
  pub joined : (m n o : Machine) → R m n → R n o → R m o
  pub own : (m : Machine) (x : Tasked) → (tasked m t).begun ≤ x.begun → R m (with_tasked m t x)
  pub queued : (m : Machine) (u : ℕ) (queue : List Message) → R m (with_tasked m u (record (tasked m u) { queue = queue }))
  pub claims : (m : Machine) (g : Claim → Claim) → ((c : Claim) → still_claim (g c) ≡ still_claim c) → R m (on_claims g m)
  pub others : (m : Machine) (live : List Living) (pools : Keyed Pool) (past : List Entry) (tally : Tally) → phases_in past ≡ phases_in m.past
      → R m (record m { live = live; pools = pools; past = past; tally = tally })

pub past_walk : (t : ℕ) (R : Machine → Machine → Type 0) → Walk t R → PastWalk t R
past_walk t R w = record {
  self_ = w.self_;
  joined = w.joined;
  own = w.own;
  queued = w.queued;
  claims = w.claims;
  others = λ m live pools newer tally e. w.others m live pools (newer ++ m.past) tally e;
}

-- the same where there may be no state
abbrev pub May : (Machine → Type 0) → Option Machine → Type 0
May R None = Unit {0}
May R (Some n) = R n

module _ (t : ℕ) (R : Machine → Machine → Type 0) (w : PastWalk t R) where
  same_count : (n : ℕ) → n ≤ n
  same_count n = omega arith

  -- the frame of the task is replaced, its names are, and a call answered
  framed : (m : Machine) (f : Option Frame) → R m (with_frame m t f)
  framed m f = w.own m (record (tasked m t) { frame = f }) (same_count (tasked m t).begun)

  answered : (m n : Machine) (call : Call) (r : Reply) → R m n → R m (replied n t call r)
  answered m n call r l = w.joined m n (replied n t call r) l (w.others n n.live n.pools (entries.Call t (tasked n t).begun (word_of call) r ∷ []) n.tally refl)

  refuses : (m : Machine) (f : Frame) (call : Call) (code : ℤ) → R m (refuse m t f call code)
  refuses m f call code = answered m (with_frame m t (closed (record f { forming = None; answered = true; keys = []; lets = f.lets ++ option_places f.forming }))) call (refused code) (framed m _)

  either : (m n o : Machine) (b : Bool) → R m n → R m o → R m (if b then n else o)
  either m n o true x y = x
  either m n o false x y = y

  may_either : (m : Machine) (n o : Option Machine) (b : Bool) → May (R m) n → May (R m) o → May (R m) (if b then n else o)
  may_either m n o true x y = x
  may_either m n o false x y = y

  work : (m : Machine) (f : Frame) (call : Call) (size : ℕ) (r : Result WorkDone ℤ) → R m (work_done m t f call size r)
  work m f call size (Ok x) = framed m _
  work m f call size (Err code) = refuses m f call code

  adds : (m n : Machine) (e : Entry) → phases_in (e ∷ n.past) ≡ phases_in n.past → R m n → R m (record n { past = e ∷ n.past })
  adds m n e same l = w.joined m n _ l (w.others n n.live n.pools (e ∷ []) n.tally same)

  gives_up : (m : Machine) (f : Frame) (name : ℕ) → R m (do_gone m t f name)
  gives_up m f name = adds m _ _ refl (w.joined m _ _ (w.own m _ (same_count (tasked m t).begun)) (framed _ _))

  throws : (m : Machine) (f : Frame) (q : Message) (queue : List Message) → R m (do_lost m t f q queue)
  throws m f q queue = adds m _ _ refl (w.joined m _ _ (w.own m _ (same_count (tasked m t).begun)) (framed _ _))

  leaves : (m : Machine) (f : Frame) → R m (do_left m t f)
  leaves m f = answered m _ calls.Exit replies_of.Done (framed m _)

  exits_queue : (m : Machine) (f : Frame) (queue : List Message) → R m (exit_queue m t f queue)
  exits_queue m f [] = leaves m f
  exits_queue m f (q ∷ queue) = throws m f q queue

  exits_names : (m : Machine) (f : Frame) (name : Option ℕ) → R m (exit_names m t f name)
  exits_names m f None = exits_queue m f (tasked m t).queue
  exits_names m f (Some name) = gives_up m f name

  exits : (m : Machine) (f : Frame) → R m (do_exit m t f)
  exits m f = exits_names m f (lowest (tasked m t).names)

  given : (m : Machine) (f : Frame) (q : Place) → R m (given_receipt m t f q)
  given m f q = w.joined m _ _ (framed m (Some (record f { receipt = Some q }))) (w.claims _ (race_claim q) (race_still q))

  made : (m : Machine) (f : Frame) (k : Key) (x : Value) (found : Option ℕ) → R m (made_at m t f k x found)
  made m f k x (Some h) = given m f _
  made m f k x None = w.joined m (minted m k x) _ (w.others m (minted m k x).live (minted m k x).pools (entries.Made (number_of k) x ∷ []) m.tally refl) (given (minted m k x) f _)

  make : (version : ℕ) (m : Machine) (f : Frame) (v : Handles) (call : Call) (k : Key) (r : Result (Option Value) ℤ) → R m (make_done version m t f v call k r)
  make version m f v call k (Err code) = refuses m f call code
  make version m f v call k (Ok None) = framed m _
  make version m f v call k (Ok (Some x)) = made m f k x (handle_of m.live k x)

  asks : (version : ℕ) (m : Machine) (f : Frame) (v : Handles) (call : Call) (a : Option Asked) → May (R m) (make_asked version m t f v call a)
  asks version m f v call None = tt
  asks version m f v call (Some a) = make version m f v call a.key a.reply

  makes : (sc : Scenario) (want : Bool) (m : Machine) (f : Frame) (v : Handles) (call : Call) → May (R m) (do_make sc want m t f v call)
  makes sc want m f v call = may_either m _ _ want (refuses m f call KERN_RESOURCE_SHORTAGE) (asks sc.version m f v call (asked_by sc m t f v call))

  tallies : (g : Tally → Tally) (m n : Machine) → R m n → R m (tallied g n)
  tallies g m n l = w.joined m n (tallied g n) l (w.others n n.live n.pools [] (g n.tally) refl)

  refers : (version : ℕ) (m : Machine) (f : Frame) (v : Handles) (call : Call) (q : Place) → R m (do_refer version m t f v call q)
  refers version m f v call q = tallies one_refer m _ (w.joined m (on_claims (back_claim q) m) _ (w.claims m (back_claim q) (back_still q)) (framed (on_claims (back_claim q) m) _))

  lets_go : (m : Machine) (f : Frame) (q : Place) (rest : List Place) → R m (do_let_go m t f q rest)
  lets_go m f q rest = tallies (more_claims (claim_if (with_frame m t (Some (record f { lets = rest }))) q)) m _ (framed m _)

  takes_back : (m : Machine) (q : Place) → R m (released m q)
  takes_back m q = w.others m (released m q).live (released m q).pools (entries.Released (made_of (living_at m.live q)) ∷ []) m.tally refl

  questions : (m : Machine) (f : Frame) (c : Claim) → R m (do_ask m t f c)
  questions m f c = tallies one_ask m _ (either m _ _ c.raced (framed m _) (w.joined m (released m c.place) _ (takes_back m c.place) (framed (released m c.place) _)))

  rechecks : (m : Machine) (f : Frame) (c : Claim) → R m (do_recheck m t f c)
  rechecks m f c = framed m _

  queues : (m : Machine) (to : ℕ) (q : Message) → R m (enqueued m to q)
  queues m to q = w.queued m to ((tasked m to).queue ++ q ∷ [])

  moves : (m : Machine) (moving : Bool) (name : ℕ) → R m (moved_name m t moving name)
  moves m moving name = either m _ _ moving (w.own m _ (same_count (tasked m t).begun)) (w.self_ m)

  -- a voucher gets a name of the task
  naming : (m : Machine) (x : Tasked) (v : Handles) (o : Option ℕ) → (tasked m t).begun ≤ x.begun → R m (with_tasked m t (with_name x v o))
  naming m x v None l = w.own m _ l
  naming m x v (Some n) l = w.own m _ l

  puts_create : (m : Machine) (f : Frame) (v : Handles) (call : Call) → R m (place_create m t f v call)
  puts_create m f v call = answered m _ call _ (w.joined m _ _ (naming m (tasked m t) v (name_of (tasked m t).names v) (same_count (tasked m t).begun)) (framed _ _))

  puts_send : (m : Machine) (f : Frame) (v : Handles) (call : Call) (to : ℕ) (moving : Bool) (name id : ℕ) → R m (place_send m t f v call to moving name id)
  puts_send m f v call to moving name id =
      answered m _ call _ (w.joined m _ _ (w.joined m _ _ (queues m to _) (moves _ moving name)) (framed _ _))

  puts_recv : (m : Machine) (f : Frame) (v : Handles) (call : Call) (queue : List Message) → R m (place_recv m t f v call queue)
  puts_recv m f v call [] = w.self_ m
  puts_recv m f v call (q ∷ queue) = answered m _ call _ (w.joined m _ _ (naming m (record (tasked m t) { queue = queue }) v _ (same_count (tasked m t).begun)) (framed _ _))

  puts : (sc : Scenario) (want : Bool) (m : Machine) (f : Frame) (v : Handles) (call : Call) → May (R m) (do_place sc want m t f v call)
  puts sc want m f v (calls.Create bytes) = may_either m _ _ want (refuses m f (calls.Create bytes) KERN_RESOURCE_SHORTAGE) (puts_create m f v (calls.Create bytes))
  puts sc want m f v (calls.Send to moving name id) =
      may_either m _ _ (is_full sc m to) (refuses m f (calls.Send to moving name id) MACH_SEND_TIMED_OUT)
      (may_either m _ _ want (refuses m f (calls.Send to moving name id) KERN_RESOURCE_SHORTAGE) (puts_send m f v (calls.Send to moving name id) to moving name id))
  puts sc want m f v calls.Recv = may_either m _ _ want (refuses m f calls.Recv KERN_RESOURCE_SHORTAGE) (puts_recv m f v calls.Recv (tasked m t).queue)
  puts sc want m f v (calls.GiveUp name) = tt
  puts sc want m f v (calls.Extract name key) = tt
  puts sc want m f v (calls.Recipes name) = tt
  puts sc want m f v (calls.Extern name adding n) = tt
  puts sc want m f v (calls.Charge name n) = tt
  puts sc want m f v calls.Ledger = tt
  puts sc want m f v calls.Assertions = tt
  puts sc want m f v calls.Live = tt
  puts sc want m f v calls.Exit = tt

  dequeues : (m : Machine) (queue : List Message) → R m (dequeued m t queue)
  dequeues m [] = w.self_ m
  dequeues m (q ∷ queue) = w.queued m t queue

  recv : (m : Machine) (call : Call) (r : Reply) (v : Option Handles) → R m (begin_recv m t call r v)
  recv m call r None = answered m _ call r (dequeues m (tasked m t).queue)
  recv m call r (Some v) = framed m _

  replies : (m : Machine) (call : Call) (r : Reply) → R m (replied m t call r)
  replies m call r = answered m m call r (w.self_ m)

  send_found : (m : Machine) (call : Call) (r : Reply) (v : Option Handles)
      → R m (elim v [ None ↦ replied m t call r | Some x ↦ with_frame m t (Some (fresh_frame x (key_if keys.Bank x.bank))) ])
  send_found m call r None = replies m call r
  send_found m call r (Some x) = framed m _

  sends : (sc : Scenario) (m : Machine) (call : Call) (to name id : ℕ) (r : Reply) (v : Option Handles) → R m (begin_send sc m t call to name id r v)
  sends sc m call to name id r v =
      either m _ _ (not (is_task sc to)) (replies m call r)
      (either m _ _ (name == 0)
      (answered m _ call r (either m _ _ (is_full sc m to) (w.self_ m) (queues m to _)))
      (send_found m call r v))

  begins : (sc : Scenario) (want : Bool) (m : Machine) (call : Call) (r : Reply) → R m (begin_call sc want m t call r)
  begins sc want m (calls.Create bytes) r = either m _ _ ((length bytes == 0) || nat_lt ARRAY_BYTES (length bytes)) (replies m (calls.Create bytes) r) (framed m _)
  begins sc want m (calls.GiveUp name) r = answered m _ (calls.GiveUp name) r (w.joined m _ _ (w.own m _ (same_count (tasked m t).begun)) (framed _ _))
  begins sc want m (calls.Extract name key) r = replies m (calls.Extract name key) (or_want want r)
  begins sc want m (calls.Recipes name) r = replies m (calls.Recipes name) (or_want want r)
  begins sc want m (calls.Send to moving name id) r = sends sc m (calls.Send to moving name id) to name id r _
  begins sc want m calls.Recv r = recv m calls.Recv r _
  begins sc want m (calls.Extern name adding n) r = replies m (calls.Extern name adding n) r
  begins sc want m (calls.Charge name n) r = replies m (calls.Charge name n) r
  begins sc want m calls.Ledger r = replies m calls.Ledger r
  begins sc want m calls.Assertions r = replies m calls.Assertions r
  begins sc want m calls.Live r = replies m calls.Live r
  begins sc want m calls.Exit r = framed m _

  line : (sc : Scenario) (want : Bool) (m : Machine) (call : Option Call) → May (R m) (begin_line sc want m t call)
  line sc want m None = tt
  line sc want m (Some call) = w.joined m _ _ (w.own m (begun_one (tasked m t)) (one_more (tasked m t).begun)) (begins sc want _ call _)
    where
      one_more : (n : ℕ) → n ≤ n + 1
      one_more n = omega arith

  forms : (m : Machine) (g : Handles → Call → Option Machine) (v : Option Handles) (call : Option Call)
      → ((x : Handles) (c : Call) → May (R m) (g x c)) → May (R m) (on_formed g v call)
  forms m g None call h = tt
  forms m g (Some v) None h = tt
  forms m g (Some v) (Some call) h = h v call

  formed : (version : ℕ) (m : Machine) (f : Frame) (call : Option Call) → May (R m) (on_formed (λ v c. Some (do_work version m t f v c)) f.forming call)
  formed version m f call = forms m _ f.forming call (λ v c. work m f c _ _)

  works : (version : ℕ) (m : Machine) (f : Frame) (call : Option Call) → May (R m) (work_event version m t f call)
  works version m f None = formed version m f None
  works version m f (Some (calls.Create bytes)) = formed version m f (Some (calls.Create bytes))
  works version m f (Some (calls.GiveUp name)) = formed version m f (Some (calls.GiveUp name))
  works version m f (Some (calls.Extract name key)) = formed version m f (Some (calls.Extract name key))
  works version m f (Some (calls.Recipes name)) = formed version m f (Some (calls.Recipes name))
  works version m f (Some (calls.Send to moving name id)) = formed version m f (Some (calls.Send to moving name id))
  works version m f (Some calls.Recv) = formed version m f (Some calls.Recv)
  works version m f (Some (calls.Extern name adding n)) = formed version m f (Some (calls.Extern name adding n))
  works version m f (Some (calls.Charge name n)) = formed version m f (Some (calls.Charge name n))
  works version m f (Some calls.Ledger) = formed version m f (Some calls.Ledger)
  works version m f (Some calls.Assertions) = formed version m f (Some calls.Assertions)
  works version m f (Some calls.Live) = formed version m f (Some calls.Live)
  works version m f (Some calls.Exit) = exits m f

  on_receipt : (m : Machine) (g : Place → Machine) (p : Option Place) → ((q : Place) → R m (g q)) → May (R m) (on_place g p)
  on_receipt m g None h = tt
  on_receipt m g (Some p) h = h p

  on_first : (m : Machine) (g : Place → List Place → Machine) (lets : List Place) → ((q : Place) (rest : List Place) → R m (g q rest)) → May (R m) (on_lets g lets)
  on_first m g [] h = tt
  on_first m g (p ∷ rest) h = h p rest

  on_claimed : (m : Machine) (g : Claim → Machine) (c : Option Claim) → ((d : Claim) → R m (g d)) → May (R m) (on_the_claim g c)
  on_claimed m g None h = tt
  on_claimed m g (Some c) h = h c

  frames : (sc : Scenario) (want : Bool) (m : Machine) (f : Frame) (kind : Kind) → May (R m) (frame_event sc want m t f kind)
  frames sc want m f kinds.Begin = tt
  frames sc want m f kinds.Work = works sc.version m f _
  frames sc want m f kinds.Make = forms m _ f.forming _ (λ v call. makes sc want m f v call)
  frames sc want m f kinds.Refer = forms m _ f.forming _ (λ v call. on_receipt m _ f.receipt (λ q. refers sc.version m f v call q))
  frames sc want m f kinds.Place = forms m _ f.forming _ (λ v call. puts sc want m f v call)
  frames sc want m f kinds.LetGo = on_first m _ f.lets (λ q rest. lets_go m f q rest)
  frames sc want m f kinds.Ask = on_claimed m _ f.claim (λ c. questions m f c)
  frames sc want m f kinds.Recheck = on_claimed m _ f.claim (λ c. rechecks m f c)
  frames sc want m f kinds.Phase = tt

  kinds_of : (sc : Scenario) (want : Bool) (m : Machine) (f : Option Frame) (kind : Option Kind) → May (R m) (event_of sc want m t f kind)
  kinds_of sc want m f None = tt
  kinds_of sc want m None (Some kind) = line sc want m (nth_call sc t ((tasked m t).begun + 1))
  kinds_of sc want m (Some f) (Some kind) = frames sc want m f kind

  pub walked : (sc : Scenario) (want : Bool) (m : Machine) → May (R m) (event sc want m t)
  unfolding event
  walked sc want m = may_either m _ _ (is_task sc t) (kinds_of sc want m (tasked m t).frame (next_kind sc m t)) tt

  pub past_walked : (sc : Scenario) (want : Bool) (m n : Machine) → event sc want m t ≡ Some n → R m n
  past_walked sc want m n e = of_some (event sc want m t) e (walked sc want m)
    where
      of_some : (o : Option Machine) → o ≡ Some n → May (R m) o → R m n
      of_some None k l = cc
      of_some (Some x) k l = let g : x ≡ n = cc in subst (λ (y : Machine). R m y) g l

pub event_walked : (t : ℕ) (R : Machine → Machine → Type 0) → Walk t R
    → (sc : Scenario) (want : Bool) (m n : Machine) → event sc want m t ≡ Some n → R m n
event_walked t R w sc want m n e = past_walked t R (past_walk t R w) sc want m n e
