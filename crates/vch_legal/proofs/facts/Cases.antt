-- An event by cases: what is to be shown of the state after an event, by what the event does to values and handles.
use Rattle.std.proofs.Common.{◌≡◌, ℕ, ◌+◌, ◌≤◌, Bool, List, [], ◌∷◌, refl, true, false, arith, sym, ap, ◌∙◌, subst, length, Some, None, Option, Ok, Err, Result}
use Rattle.std.specs.Prelude.{is_some, if◌then◌else◌, ◌&&◌, nat_lt, ℤ}
use Rattle.vch_base.proofs.CallerLemmas.{own_item, as_long}
use Rattle.vch_base.specs.declared.codes.TheConstants.{KERN_RESOURCE_SHORTAGE, MACH_SEND_TIMED_OUT}
use Rattle.vch_base.specs.declared.key.Key.{Key}
use Rattle.vch_base.specs.declared.value.Value.{Value}
use Rattle.vch_base.specs.declared.kind.Kind.{Kind}
use Rattle.vch_base.specs.declared.kind.Kind.TheVariants as kinds
use Rattle.vch_model.specs.declared.call.Call.{Call}
use Rattle.vch_model.specs.declared.call.Call.TheVariants as calls
use Rattle.vch_model.specs.declared.lists.Scenario.{Scenario}
use Rattle.vch_model.specs.Lines.{is_task, phases_in}
use Rattle.vch_machine.specs.State.{Handles, Place, Claim, Frame, Machine, idle, tasked, with_tasked, handle_of}
use Rattle.vch_machine.specs.Beginning.{begin_line, begin_call, begun_one, store_reply, is_full}
use Rattle.vch_machine.specs.Events.{event, event_of, frame_event, work_event, on_formed, on_place, on_lets, on_the_claim}
use Rattle.vch_machine.specs.Leaving.{do_let_go, do_ask, do_recheck}
use Rattle.vch_machine.specs.Making.{make_asked, make_done, made_at, asked_by, Asked, do_refer}
use Rattle.vch_machine.specs.Next.{next_kind, task_next, current, nth_call}
use Rattle.vch_machine.specs.Placing.{do_place}
use Rattle.vch_machine.specs.Working.{do_work, first_at, work_first}
use Rattle.vch_legal.specs.Facts.{Fits, FrameFits, OptionFits, spot}
use Rattle.vch_legal.proofs.tasks.TaskLists.{IsAmong}
use Rattle.vch_legal.proofs.spots.BeginSpots.{InRange, begun_spot, begin_spot}
use Rattle.vch_legal.proofs.spots.Shapes.{Shape, shape_of}
use Rattle.vch_legal.proofs.steps.BeginOwn.{BeginsOwn, call_begins}
use Rattle.vch_legal.proofs.spots.PlainEvents.{Plain, Underway, Forms, refuse_plain, work_plain, lost_plain, create_plain, send_plain, recv_plain}
use Rattle.vch_legal.proofs.steps.ExitEvents.{exit_plain}

-- the cases of an event of the task t in a state m; the call of a frame is the current one
pub record Cases (sc : Scenario) (t : ℕ) (m : Machine) (P : Machine → Type 0) : Type 0 where
  pub plain : (n : Machine) → Plain sc t m n → P n
  pub make : (f : Frame) (v : Handles) (call : Call) (k : Key) (x : Value) → (tasked m t).frame ≡ Some f
      → f.forming ≡ Some v → current sc m t ≡ Some call
      → f.receipt ≡ None → f.claim ≡ None → f.lets ≡ [] → asked_by sc m t f v call ≡ Some
      (record { key = k; reply = Ok (Some x) })
      → P (made_at m t f k x (handle_of m.live k x))
  pub refer : (f : Frame) (v : Handles) (call : Call) (q : Place) → (tasked m t).frame ≡ Some f → f.forming ≡ Some v
      → current sc m t ≡ Some call
      → f.receipt ≡ Some q → P (do_refer sc.version m t f v call q)
  pub let_go : (f : Frame) (q : Place) (rest : List Place) → (tasked m t).frame ≡ Some f → f.lets ≡ q ∷ rest
      → f.receipt ≡ None → f.claim ≡ None
      → P (do_let_go m t f q rest)
  pub ask : (f : Frame) (c : Claim) → (tasked m t).frame ≡ Some f → f.claim ≡ Some c → is_some c.answer ≡ false
      → P (do_ask m t f c)
  pub recheck : (f : Frame) (c : Claim) → (tasked m t).frame ≡ Some f → f.claim ≡ Some c → is_some c.answer ≡ true
      → P (do_recheck m t f c)

abbrev pub May : (Machine → Type 0) → Option Machine → Type 0
May P None = Unit {0}
May P (Some n) = P n

either : (P : Machine → Type 0) (b : Bool) (n o : Option Machine) → May P n → May P o → May P (if b then n else o)
either P true n o x y = x
either P false n o x y = y

made_case : (sc : Scenario) (t : ℕ) (m : Machine) (P : Machine → Type 0) (f : Frame) (v : Handles) (call : Call)
    (k : Key) (r : Result (Option Value) ℤ) → Cases sc t m P → Forms sc t m f v → current sc m t ≡ Some call
    → asked_by sc m t f v call ≡ Some (record { key = k; reply = r }) → P (make_done sc.version m t f v call k r)
made_case sc t m P f v call k (Err code) h u now eq = h.plain _ (refuse_plain sc t m f v call code u)
made_case sc t m P f v call k (Ok None) h u now eq = h.plain _ (lost_plain sc t m f v call k u)
made_case sc t m P f v call k (Ok (Some x)) h u now eq =
    h.make f v call k x u.under.frame u.forming now u.receipt u.claim u.lets eq

asked_case : (sc : Scenario) (t : ℕ) (m : Machine) (P : Machine → Type 0) (f : Frame) (v : Handles) (call : Call)
    (a : Option Asked) → Cases sc t m P → Forms sc t m f v → current sc m t ≡ Some call
    → asked_by sc m t f v call ≡ a → May P (make_asked sc.version m t f v call a)
asked_case sc t m P f v call None h u now eq = tt
asked_case sc t m P f v call (Some a) h u now eq = made_case sc t m P f v call a.key a.reply h u now eq

place_case : (sc : Scenario) (want : Bool) (t : ℕ) (m : Machine) (P : Machine → Type 0) (f : Frame) (v : Handles)
    (call : Call) → Cases sc t m P → Forms sc t m f v → current sc m t ≡ Some call
    → May P (do_place sc want m t f v call)
place_case sc want t m P f v (calls.Create bytes) h u now =
    either P want _ _ (h.plain _ (refuse_plain sc t m f v (calls.Create bytes) KERN_RESOURCE_SHORTAGE u))
    (h.plain _ (create_plain sc t m f v (calls.Create bytes) u))
place_case sc want t m P f v (calls.Send to moving name id) h u now =
    either P (is_full sc m to) _ _ (h.plain _ (refuse_plain sc t m f v (calls.Send to moving name id)
    MACH_SEND_TIMED_OUT u))
    (either P want _ _ (h.plain _ (refuse_plain sc t m f v (calls.Send to moving name id) KERN_RESOURCE_SHORTAGE u))
    (h.plain _ (send_plain sc t m f v (calls.Send to moving name id) to moving name id u
    (u.under.sends t f to moving name id u.under.task u.under.frame now))))
place_case sc want t m P f v calls.Recv h u now =
    either P want _ _ (h.plain _ (refuse_plain sc t m f v calls.Recv KERN_RESOURCE_SHORTAGE u))
    (h.plain _ (recv_plain sc t m f v calls.Recv (tasked m t).queue u refl))
place_case sc want t m P f v (calls.GiveUp name) h u now = tt
place_case sc want t m P f v (calls.Extract name key) h u now = tt
place_case sc want t m P f v (calls.Recipes name) h u now = tt
place_case sc want t m P f v (calls.Extern name adding n) h u now = tt
place_case sc want t m P f v (calls.Charge name n) h u now = tt
place_case sc want t m P f v calls.Ledger h u now = tt
place_case sc want t m P f v calls.Assertions h u now = tt
place_case sc want t m P f v calls.Live h u now = tt
place_case sc want t m P f v calls.Exit h u now = tt

formed_case : (P : Machine → Type 0) (g : Handles → Call → Option Machine) (v : Option Handles) (call : Option Call)
    → ((w : Handles) (c : Call) → v ≡ Some w → call ≡ Some c → May P (g w c)) → May P (on_formed g v call)
formed_case P g None call h = tt
formed_case P g (Some v) None h = tt
formed_case P g (Some v) (Some call) h = h v call refl refl

receipt_case : (P : Machine → Type 0) (g : Place → Machine) (p : Option Place) → ((q : Place) → p ≡ Some q → P (g q))
    → May P (on_place g p)
receipt_case P g None h = tt
receipt_case P g (Some p) h = h p refl

lets_case : (P : Machine → Type 0) (g : Place → List Place → Machine) (lets : List Place)
    → ((q : Place) (rest : List Place) → lets ≡ q ∷ rest → P (g q rest)) → May P (on_lets g lets)
lets_case P g [] h = tt
lets_case P g (p ∷ rest) h = h p rest refl

claim_case : (P : Machine → Type 0) (g : Claim → Machine) (c : Option Claim) → ((d : Claim) → c ≡ Some d → P (g d))
    → May P (on_the_claim g c)
claim_case P g None h = tt
claim_case P g (Some c) h = h c refl

same_answer : (o : Option Claim) (c d : Claim) (b : Bool) → o ≡ Some c → o ≡ Some d → is_some c.answer ≡ b
    → is_some d.answer ≡ b
same_answer o c d b x y z = let k : c ≡ d = cc in subst (λ (a : Claim). is_some a.answer ≡ b) k z

-- a call that is under way and forms a voucher, with nothing else left to do
forms : (sc : Scenario) (t : ℕ) (m : Machine) (f : Frame) (v : Handles) → Underway sc t m f → f.forming ≡ Some v
    → (f.receipt ≡ None) × (f.claim ≡ None) × (f.lets ≡ []) → Forms sc t m f v
forms sc t m f v u forming s = record { under = u; forming = forming; receipt = s.0; claim = s.1; lets = s.2 }

work_case : (sc : Scenario) (t : ℕ) (m : Machine) (P : Machine → Type 0) (f : Frame) (call : Option Call)
    → Cases sc t m P → Underway sc t m f → (f.receipt ≡ None) × (f.claim ≡ None) × (f.lets ≡ [])
    → current sc m t ≡ call → May P (work_event sc.version m t f call)
work_case sc t m P f (Some calls.Exit) h u s now = h.plain _ (exit_plain sc t m f u now s.0 s.2)
work_case sc t m P f call h u s now =
    formed_case P (λ v c. Some (do_work sc.version m t f v c)) f.forming call (λ v c g k. h.plain _
    (work_plain sc t m f v c (work_first sc.version (tasked m t).names (first_at f c) v) (forms sc t m f v u g s) refl))

kind_case : (sc : Scenario) (want : Bool) (t : ℕ) (m : Machine) (P : Machine → Type 0) (f : Frame) (kind : Kind)
    → Cases sc t m P → Underway sc t m f → Shape f kind → May P (frame_event sc want m t f kind)
kind_case sc want t m P f kinds.Begin h u s = tt
kind_case sc want t m P f kinds.Work h u s = work_case sc t m P f (current sc m t) h u s refl
kind_case sc want t m P f kinds.Make h u s =
    formed_case P _ f.forming (current sc m t) (λ v call g k.
    either P want _ _ (h.plain _ (refuse_plain sc t m f v call KERN_RESOURCE_SHORTAGE (forms sc t m f v u g s)))
    (asked_case sc t m P f v call (asked_by sc m t f v call) h (forms sc t m f v u g s) k refl))
kind_case sc want t m P f kinds.Refer h u s =
    formed_case P _ f.forming (current sc m t) (λ v call g k. receipt_case P _ f.receipt
    (λ q r. h.refer f v call q u.frame g k r))
kind_case sc want t m P f kinds.Place h u s =
    formed_case P _ f.forming (current sc m t) (λ v call g k. place_case sc want t m P f v call h
    (forms sc t m f v u g s) k)
kind_case sc want t m P f kinds.LetGo h u s =
    lets_case P _ f.lets (λ q rest l. h.let_go f q rest u.frame l s.0 s.1)
kind_case sc want t m P f kinds.Ask h u s =
    claim_case P _ f.claim (λ c k. h.ask f c u.frame k (same_answer f.claim s.0 c false s.1 k s.2))
kind_case sc want t m P f kinds.Recheck h u s =
    claim_case P _ f.claim (λ c k. h.recheck f c u.frame k (same_answer f.claim s.0 c true s.1 k s.2))
kind_case sc want t m P f kinds.Phase h u s = tt

-- Begin.

-- the state in which the call is counted
abbrev counted : Machine → ℕ → Machine
counted m t = with_tasked m t (begun_one (tasked m t))

begin_plain : (sc : Scenario) (t : ℕ) (m o : Machine) (call : Call) → IsAmong t m.tasks
    → nth_call sc t ((tasked m t).begun + 1) ≡ Some call
    → BeginsOwn sc t call (counted m t) o → ((p : Place) → spot o p ≡ spot m p) → Plain sc t m o
begin_plain sc t m o call l line b spots = record {
  live = b.near.live;
  pools = b.near.pools;
  tally = b.near.tally;
  older = b.near.older;
  tasks = b.near.tasks ∙ as_long m.tasks t (begun_one (tasked m t));
  own = b.own;
  sent = λ f to moving name id e c. b.sent f to moving name id e (some_call (sym (now ∙ line) ∙ c));
  exits = λ c. b.exits (some_call (sym (now ∙ line) ∙ c));
  spots = spots;
}
  where
    now : current sc o t ≡ nth_call sc t ((tasked m t).begun + 1)
    now = ap (λ k. nth_call sc t k) (b.near.begun ∙ ap (λ y. y.begun)
        (own_item m.tasks t (begun_one (tasked m t)) idle l.0 l.1))

    some_call : {a c : Call} → Some a ≡ Some c → a ≡ c
    some_call e = cc

line_case : (sc : Scenario) (want : Bool) (t : ℕ) (m : Machine) (P : Machine → Type 0) (call : Option Call)
    → nth_call sc t ((tasked m t).begun + 1) ≡ call → Cases sc t m P → InRange sc m → is_task sc t ≡ true
    → (tasked m t).frame ≡ None → May P (begin_line sc want m t call)
line_case sc want t m P None line h range task e = tt
line_case sc want t m P (Some call) line h range task e =
    h.plain _ (begin_plain sc t m (begin_call sc want (counted m t) t call (store_reply sc m t call)) call l line
    (call_begins sc want t call (counted m t) (store_reply sc m t call) frame)
    (λ p. begin_spot sc want (counted m t) t call (store_reply sc m t call) p
    (λ u k. longer u (range u k)) (longer t l) frame ∙ begun_spot m t p l))
  where
    l : IsAmong t m.tasks
    l = range t task

    longer : (u : ℕ) → IsAmong u m.tasks → IsAmong u (counted m t).tasks
    longer u k = (k.0, rw (as_long m.tasks t (begun_one (tasked m t))) k.1)

    frame : (tasked (counted m t) t).frame ≡ None
    frame = ap (λ y. y.frame) (own_item m.tasks t (begun_one (tasked m t)) idle l.0 l.1) ∙ e

of_case : (sc : Scenario) (want : Bool) (t : ℕ) (m : Machine) (P : Machine → Type 0) (frame : Option Frame)
    (kind : Option Kind) → Cases sc t m P → Fits sc m → InRange sc m → is_task sc t ≡ true
    → (tasked m t).frame ≡ frame → task_next sc (phases_in m.past) t (tasked m t) frame ≡ kind
    → May P (event_of sc want m t frame kind)
of_case sc want t m P frame None h fits range task e k = tt
of_case sc want t m P None (Some kind) h fits range task e k =
    line_case sc want t m P (nth_call sc t ((tasked m t).begun + 1)) refl h range task e
of_case sc want t m P (Some f) (Some kind) h fits range task e k =
    kind_case sc want t m P f kind h (record {
      range = range;
      sends = fits.sends;
      exits = fits.exits;
      task = task;
      frame = e;
      fits = subst OptionFits e (fits.frames t);
    }) (shape_of f sc.version (tasked m t).names (nth_call sc t (tasked m t).begun) kind k)

pub in_range_of : (sc : Scenario) (m : Machine) → length m.tasks ≡ length sc.flags → InRange sc m
in_range_of sc m e t task = (first t (length sc.flags) task, rw e (last t (length sc.flags) task))
  where
    first : (t n : ℕ) → (nat_lt 0 t && nat_lt t (n + 1)) ≡ true → 1 ≤ t
    first t n g = grind arith

    last : (t n : ℕ) → (nat_lt 0 t && nat_lt t (n + 1)) ≡ true → t ≤ n
    last t n g = grind arith

-- an event, by its cases, from a state that meets the facts
pub event_case : (sc : Scenario) (want : Bool) (t : ℕ) (m : Machine) (P : Machine → Type 0) → Fits sc m
    → (is_task sc t ≡ true → Cases sc t m P) → May P (event sc want m t)
unfolding event
event_case sc want t m P fits h = by_task (is_task sc t) refl
  where
    by_task : (b : Bool) → is_task sc t ≡ b → May P (if b then event_of sc want m t (tasked m t).frame
        (next_kind sc m t) else None)
    by_task true task = of_case sc want t m P (tasked m t).frame (next_kind sc m t) (h task) fits
        (in_range_of sc m fits.tasks) task refl refl
    by_task false task = tt

-- the frame of a task, of a state that meets the facts
pub fits_at : (sc : Scenario) (t : ℕ) (m : Machine) (f : Frame) → Fits sc m → (tasked m t).frame ≡ Some f → FrameFits f
fits_at sc t m f h e = subst OptionFits e (h.frames t)

-- where something is formed, the call is not answered
pub still_going : (f : Frame) (v : Handles) → FrameFits f → f.forming ≡ Some v → f.answered ≡ false
still_going f v h forming = by_answered f.answered refl
  where
    by_answered : (b : Bool) → f.answered ≡ b → f.answered ≡ false
    by_answered true e = let k : None ≡ Some v = sym (h.answered e) ∙ forming in cc
    by_answered false e = e
