-- Every event pays.
use Rattle.std.proofs.Common.{◌≡◌, ℕ, Bool, List, [], ◌∷◌, refl, true, subst, Some, None, Option}
use Rattle.vch_base.specs.declared.kind.Kind.{Kind}
use Rattle.vch_base.specs.declared.kind.Kind.TheVariants as kinds
use Rattle.vch_model.specs.declared.call.Call.{Call}
use Rattle.vch_model.specs.declared.call.Call.TheVariants as calls
use Rattle.vch_model.specs.declared.lists.Scenario.{Scenario}
use Rattle.vch_model.specs.Lines.{is_task, phases_in}
use Rattle.vch_machine.specs.State.{Handles, Place, Claim, Frame, Machine, tasked}
use Rattle.vch_machine.specs.Events.{event_of, frame_event, work_event, on_formed, on_place, on_lets, on_the_claim}
use Rattle.vch_machine.specs.Working.{do_work}
use Rattle.vch_machine.specs.Next.{next_kind, task_next, nth_call, call_next, frame_next}
use Rattle.vch_legal.specs.Facts.{Fits, OptionFits}
use Rattle.vch_legal.specs.Tie.{Ties}
use Rattle.vch_legal.proofs.CallerLemmas.{IsAmong, is_among, Before, Called, called, Shape, shape_of, still_open, no_work}
use Rattle.vch_bounds.proofs.events.Paid.{Pays}
use Rattle.vch_bounds.proofs.events.Leaves.{let_go_pays, ask_pays, recheck_pays}
use Rattle.vch_bounds.proofs.events.Makes.{make_pays, refer_pays}
use Rattle.vch_bounds.proofs.events.Open.{Calls, MayPay}
use Rattle.vch_bounds.proofs.events.Works.{work_pays, exit_pays}
use Rattle.vch_bounds.proofs.events.Places.{place_pays}
use Rattle.vch_bounds.proofs.events.Begins.{do_begin_pays}

formed_pays : (sc : Scenario) (t : ℕ) (m : Machine) (g : Handles → Call → Option Machine) (v : Option Handles) (call : Option Call)
    → ((w : Handles) (c : Call) → v ≡ Some w → call ≡ Some c → MayPay sc t m (g w c)) → MayPay sc t m (on_formed g v call)
formed_pays sc t m g None call h = tt
formed_pays sc t m g (Some v) None h = tt
formed_pays sc t m g (Some v) (Some call) h = h v call refl refl

receipt_pays : (sc : Scenario) (t : ℕ) (m : Machine) (g : Place → Machine) (p : Option Place)
    → ((q : Place) → p ≡ Some q → Pays sc t m (g q)) → MayPay sc t m (on_place g p)
receipt_pays sc t m g None h = tt
receipt_pays sc t m g (Some p) h = h p refl

lets_pays : (sc : Scenario) (t : ℕ) (m : Machine) (g : Place → List Place → Machine) (lets : List Place)
    → ((q : Place) (rest : List Place) → lets ≡ q ∷ rest → Pays sc t m (g q rest)) → MayPay sc t m (on_lets g lets)
lets_pays sc t m g [] h = tt
lets_pays sc t m g (p ∷ rest) h = h p rest refl

claim_pays : (sc : Scenario) (t : ℕ) (m : Machine) (g : Claim → Machine) (c : Option Claim)
    → ((d : Claim) → Pays sc t m (g d)) → MayPay sc t m (on_the_claim g c)
claim_pays sc t m g None h = tt
claim_pays sc t m g (Some c) h = h c

-- Work is of a create or of an exit
formed_work : (sc : Scenario) (t : ℕ) (m : Machine) (f : Frame) (call : Call) → Before sc t m → Calls sc t m f call → f.receipt ≡ None
    → call_next sc.version (tasked m t).names f.at_byte f.keys (Some call) ≡ Some kinds.Work
    → MayPay sc t m (on_formed (λ v c. Some (do_work sc.version m t f v c)) f.forming (Some call))
formed_work sc t m f call s c receipt next =
    formed_pays sc t m (λ v d. Some (do_work sc.version m t f v d)) f.forming (Some call)
    (λ v d g h. subst (λ (x : Call). Pays sc t m (do_work sc.version m t f v x)) (some_eq h) (work_pays sc t m f v call s c g receipt next))
  where
    some_eq : {a b : Call} → Some a ≡ Some b → a ≡ b
    some_eq h = cc

work_by_call : (sc : Scenario) (t : ℕ) (m : Machine) (f : Frame) (call : Call) → Before sc t m → Calls sc t m f call → f.receipt ≡ None
    → call_next sc.version (tasked m t).names f.at_byte f.keys (Some call) ≡ Some kinds.Work
    → MayPay sc t m (work_event sc.version m t f (Some call))
work_by_call sc t m f (calls.Create bytes) s c receipt next = formed_work sc t m f (calls.Create bytes) s c receipt next
work_by_call sc t m f calls.Exit s c receipt next = exit_pays sc t m f c
work_by_call sc t m f (calls.GiveUp name) s c receipt next = absurd (no_work _ next)
work_by_call sc t m f (calls.Extract name key) s c receipt next = absurd (no_work _ next)
work_by_call sc t m f (calls.Recipes name) s c receipt next = absurd (no_work _ next)
work_by_call sc t m f (calls.Send to moving name id) s c receipt next = absurd (no_work _ next)
work_by_call sc t m f calls.Recv s c receipt next = absurd (no_work _ next)
work_by_call sc t m f (calls.Extern name adding n) s c receipt next = absurd (no_work _ next)
work_by_call sc t m f (calls.Charge name n) s c receipt next = absurd (no_work _ next)
work_by_call sc t m f calls.Ledger s c receipt next = absurd (no_work _ next)
work_by_call sc t m f calls.Assertions s c receipt next = absurd (no_work _ next)
work_by_call sc t m f calls.Live s c receipt next = absurd (no_work _ next)

-- what is known of a frame at its event
record Framed (sc : Scenario) (t : ℕ) (m : Machine) (f : Frame) : Type 0 where
  before : Before sc t m
  among : IsAmong t m.tasks
  frame : (tasked m t).frame ≡ Some f

work_now : (sc : Scenario) (t : ℕ) (m : Machine) (f : Frame) (call : Option Call) → Framed sc t m f
    → nth_call sc t (tasked m t).begun ≡ call → Called sc.version (tasked m t).names f call kinds.Work
    → MayPay sc t m (work_event sc.version m t f call)
work_now sc t m f None framed e c = absurd (none c.next)
  where
    none : ◌≡◌ {A = Option Kind} None (Some kinds.Work) → ⊥
    none e = cc
work_now sc t m f (Some call) framed e c =
    work_by_call sc t m f call framed.before
    (record { among = framed.among; frame = framed.frame; unanswered = c.unanswered; there = e }) c.receipt c.next

kind_pays : (sc : Scenario) (want : Bool) (t : ℕ) (m : Machine) (f : Frame) (kind : Kind) → Fits sc m → Framed sc t m f
    → frame_next sc.version (tasked m t).names f (nth_call sc t (tasked m t).begun) f.receipt ≡ Some kind
    → Shape f kind → MayPay sc t m (frame_event sc want m t f kind)
kind_pays sc want t m f kinds.Begin fits c next shape = tt
kind_pays sc want t m f kinds.Work fits c next shape =
    work_now sc t m f (nth_call sc t (tasked m t).begun) c refl
    (called sc.version (tasked m t).names f (nth_call sc t (tasked m t).begun) kinds.Work next refl)
kind_pays sc want t m f kinds.Make fits c next shape =
    let d : Called sc.version (tasked m t).names f (nth_call sc t (tasked m t).begun) kinds.Make =
    called sc.version (tasked m t).names f (nth_call sc t (tasked m t).begun) kinds.Make next refl in
    formed_pays sc t m _ f.forming _ (λ v call g k. make_pays sc want t m f v call
    (record { among = c.among; frame = c.frame; unanswered = d.unanswered; there = k }) shape.0)
kind_pays sc want t m f kinds.Refer fits c next shape =
    formed_pays sc t m _ f.forming _ (λ v call g k. receipt_pays sc t m _ f.receipt
    (λ q r. refer_pays sc t m f v call q (record {
      among = c.among;
      frame = c.frame;
      unanswered = still_open f v (subst OptionFits c.frame (fits.frames t)) g;
      there = k;
    }) r))
kind_pays sc want t m f kinds.Place fits c next shape =
    let d : Called sc.version (tasked m t).names f (nth_call sc t (tasked m t).begun) kinds.Place =
    called sc.version (tasked m t).names f (nth_call sc t (tasked m t).begun) kinds.Place next refl in
    formed_pays sc t m _ f.forming _ (λ v call g k. place_pays sc want t m f v call
    (record { among = c.among; frame = c.frame; unanswered = d.unanswered; there = k }))
kind_pays sc want t m f kinds.LetGo fits c next shape =
    lets_pays sc t m _ f.lets (λ q rest l. let_go_pays sc t m f q rest c.among c.frame l)
kind_pays sc want t m f kinds.Ask fits c next shape = claim_pays sc t m _ f.claim (λ d. ask_pays sc t m f d c.among c.frame)
kind_pays sc want t m f kinds.Recheck fits c next shape = claim_pays sc t m _ f.claim (λ d. recheck_pays sc t m f d c.among c.frame)
kind_pays sc want t m f kinds.Phase fits c next shape = tt

of_pays : (sc : Scenario) (want : Bool) (t : ℕ) (m : Machine) (frame : Option Frame) (kind : Option Kind) → Fits sc m
    → Before sc t m → IsAmong t m.tasks → (tasked m t).frame ≡ frame
    → task_next sc (phases_in m.past) t (tasked m t) frame ≡ kind → MayPay sc t m (event_of sc want m t frame kind)
of_pays sc want t m frame None fits s among e k = tt
of_pays sc want t m None (Some kind) fits s among e k = do_begin_pays sc want t m among e
of_pays sc want t m (Some f) (Some kind) fits s among e k =
    kind_pays sc want t m f kind fits (record { before = s; among = among; frame = e }) k
    (shape_of f sc.version (tasked m t).names (nth_call sc t (tasked m t).begun) kind k)

-- an event of a task pays, and the task is one of the scenario
pub event_pays : (sc : Scenario) (want : Bool) (t : ℕ) (m : Machine) → Ties sc m → is_task sc t ≡ true
    → MayPay sc t m (event_of sc want m t (tasked m t).frame (next_kind sc m t))
event_pays sc want t m s task =
    of_pays sc want t m (tasked m t).frame (next_kind sc m t) s.fits (s.tasks t task) (is_among sc t m s.fits task) refl refl
