-- Every event, to its own task.
use Rattle.std.proofs.Common.{◌≡◌, ℕ, ◌+◌, ◌≤◌, Bool, List, [], ◌∷◌, refl, true, false, ◌&&◌, arith, sym, ap, ◌∙◌, subst, length, Some, None, Option}
use Rattle.std.specs.Prelude.{if◌then◌else◌, nat_lt, is_some}
use Rattle.vch_base.specs.declared.kind.Kind.{Kind}
use Rattle.vch_base.specs.declared.kind.Kind.TheVariants as kinds
use Rattle.vch_model.specs.declared.call.Call.{Call}
use Rattle.vch_model.specs.declared.call.Call.TheVariants as calls
use Rattle.vch_model.specs.declared.lists.Scenario.{Scenario}
use Rattle.vch_model.specs.Lines.{is_task, phases_in}
use Rattle.vch_machine.specs.State.{Handles, Place, Claim, Frame, Machine, tasked}
use Rattle.vch_machine.specs.Events.{event, event_of, work_event, frame_event, on_formed, on_place, on_lets, on_the_claim}
use Rattle.vch_machine.specs.Next.{next_kind, task_next, nth_call, call_next, frame_next}
use Rattle.vch_machine.specs.Placing.{do_place}
use Rattle.vch_machine.specs.Working.{do_work}
use Rattle.vch_legal.specs.Facts.{FrameFits, OptionFits, Fits}
use Rattle.vch_legal.specs.Tie.{Ties}
use Rattle.vch_model.specs.Legal.{is_exit}
use Rattle.vch_legal.proofs.facts.Choices.{cases_bool, not_true}
use Rattle.vch_legal.proofs.tasks.TaskLists.{IsAmong}
use Rattle.vch_legal.proofs.steps.ExitSteps.{exit_step}
use Rattle.vch_legal.proofs.spots.Shapes.{Shape, shape_of}
use Rattle.vch_legal.proofs.steps.Standing.{Step, stands_after}
use Rattle.vch_legal.proofs.facts.Keeps.{event_keeps}
use Rattle.vch_legal.proofs.tasks.OwnSteps.{Before}
use Rattle.vch_legal.proofs.steps.LeaveSteps.{let_go_step, ask_step, recheck_step}
use Rattle.vch_legal.proofs.steps.Nexts.{Called, called, forms_at}
use Rattle.vch_legal.proofs.steps.Refusals.{Calling}
use Rattle.vch_legal.proofs.steps.WorkSteps.{work_step}
use Rattle.vch_legal.proofs.steps.MakeSteps.{MayStep, make_step, refer_step}
use Rattle.vch_legal.proofs.steps.PlaceSteps.{IsStep, create_ends}
use Rattle.vch_legal.proofs.steps.CarrySteps.{send_ends, recv_ends}
use Rattle.vch_legal.proofs.steps.BeginCalls.{do_begin_step}

may_be : (sc : Scenario) (t : ℕ) (m : Machine) (o : Option Machine) → IsStep sc t m o → MayStep sc t m o
may_be sc t m None s = tt
may_be sc t m (Some n) s = λ _. s

formed_step : (sc : Scenario) (t : ℕ) (m : Machine) (g : Handles → Call → Option Machine) (v : Option Handles)
    (call : Option Call) → ((w : Handles) (c : Call) → v ≡ Some w → call ≡ Some c → MayStep sc t m (g w c))
    → MayStep sc t m (on_formed g v call)
formed_step sc t m g None call h = tt
formed_step sc t m g (Some v) None h = tt
formed_step sc t m g (Some v) (Some call) h = h v call refl refl

receipt_step : (sc : Scenario) (t : ℕ) (m : Machine) (g : Place → Machine) (p : Option Place)
    → ((q : Place) → p ≡ Some q → Step sc t m (g q)) → MayStep sc t m (on_place g p)
receipt_step sc t m g None h = tt
receipt_step sc t m g (Some p) h = λ _. h p refl

lets_step : (sc : Scenario) (t : ℕ) (m : Machine) (g : Place → List Place → Machine) (lets : List Place)
    → ((q : Place) (rest : List Place) → Step sc t m (g q rest)) → MayStep sc t m (on_lets g lets)
lets_step sc t m g [] h = tt
lets_step sc t m g (p ∷ rest) h = λ _. h p rest

claim_step : (sc : Scenario) (t : ℕ) (m : Machine) (g : Claim → Machine) (c : Option Claim)
    → ((d : Claim) → c ≡ Some d → Step sc t m (g d)) → MayStep sc t m (on_the_claim g c)
claim_step sc t m g None h = tt
claim_step sc t m g (Some c) h = λ _. h c refl

pub same_answer : (o : Option Claim) (c d : Claim) (b : Bool) → o ≡ Some c → o ≡ Some d → is_some c.answer ≡ b
    → is_some d.answer ≡ b
same_answer o c d b x y z = let k : c ≡ d = cc in subst (λ (a : Claim). is_some a.answer ≡ b) k z

-- Place, by call
place_step : (sc : Scenario) (want : Bool) (t : ℕ) (m : Machine) (f : Frame) (v : Handles) (call : Call) → Fits sc m
    → Calling sc t m f call → f.forming ≡ Some v → f.receipt ≡ None
    → call_next sc.version (tasked m t).names f.at_byte f.keys (Some call) ≡ Some kinds.Place
    → IsStep sc t m (do_place sc want m t f v call)
place_step sc want t m f v (calls.Create bytes) fits c forming receipt next =
    create_ends sc want t m f v bytes fits c forming
    (forms_at sc t m f v None (calls.Create bytes) c.before c.frame forming receipt c.there) next
place_step sc want t m f v (calls.Send to moving name id) fits c forming receipt next =
    send_ends sc want t m f v to moving name id fits c forming
    (forms_at sc t m f v None (calls.Send to moving name id) c.before c.frame forming receipt c.there) next
place_step sc want t m f v calls.Recv fits c forming receipt next = recv_ends sc want t m f v fits c forming
    (forms_at sc t m f v None calls.Recv c.before c.frame forming receipt c.there) next
place_step sc want t m f v (calls.GiveUp name) fits c forming receipt next = tt
place_step sc want t m f v (calls.Extract name key) fits c forming receipt next = tt
place_step sc want t m f v (calls.Recipes name) fits c forming receipt next = tt
place_step sc want t m f v (calls.Extern name adding n) fits c forming receipt next = tt
place_step sc want t m f v (calls.Charge name n) fits c forming receipt next = tt
place_step sc want t m f v calls.Ledger fits c forming receipt next = tt
place_step sc want t m f v calls.Assertions fits c forming receipt next = tt
place_step sc want t m f v calls.Live fits c forming receipt next = tt
place_step sc want t m f v calls.Exit fits c forming receipt next = tt

-- the call that is under way
calling : (sc : Scenario) (t : ℕ) (m : Machine) (f : Frame) (v : Handles) (call : Call) → Before sc t m
    → (tasked m t).frame ≡ Some f → f.answered ≡ false → f.forming ≡ Some v
    → nth_call sc t (tasked m t).begun ≡ Some call
    → Calling sc t m f call
calling sc t m f v call s e unanswered forming there =
    record { before = s; frame = e; map = v; forming = forming; unanswered = unanswered; there = there }

next_of : (sc : Scenario) (t : ℕ) (m : Machine) (f : Frame) (call : Call) (kind : Kind)
    → nth_call sc t (tasked m t).begun ≡ Some call
    → Called sc.version (tasked m t).names f (nth_call sc t (tasked m t).begun)
    kind
    → call_next sc.version (tasked m t).names f.at_byte f.keys (Some call) ≡ Some kind
next_of sc t m f call kind there c = ap (call_next sc.version (tasked m t).names f.at_byte f.keys) (sym there) ∙ c.next

-- what is formed is of a call that is not answered
forms_unanswered : (sc : Scenario) (t : ℕ) (m : Machine) (f : Frame) (v : Handles) → Fits sc m
    → (tasked m t).frame ≡ Some f → f.forming ≡ Some v → f.answered ≡ false
forms_unanswered sc t m f v fits e g = not_true f.answered (λ a. none (f.forming) (frame_fits.answered a) g)
  where
    frame_fits : FrameFits f
    frame_fits = subst OptionFits e (fits.frames t)

    none : (o : Option Handles) → o ≡ None → o ≡ Some v → ⊥
    none o x y = cc

-- Work of a call that is no exit
work_is : (version : ℕ) (m : Machine) (t : ℕ) (f : Frame) (call : Call) → is_exit call ≡ false
    → work_event version m t f (Some call) ≡ on_formed (λ v c. Some (do_work version m t f v c)) f.forming (Some call)
work_is version m t f (calls.Create bytes) e = refl
work_is version m t f (calls.GiveUp name) e = refl
work_is version m t f (calls.Extract name key) e = refl
work_is version m t f (calls.Recipes name) e = refl
work_is version m t f (calls.Send to moving name id) e = refl
work_is version m t f calls.Recv e = refl
work_is version m t f (calls.Extern name adding n) e = refl
work_is version m t f (calls.Charge name n) e = refl
work_is version m t f calls.Ledger e = refl
work_is version m t f calls.Assertions e = refl
work_is version m t f calls.Live e = refl
work_is version m t f calls.Exit e = cc

exit_is : (call : Call) → is_exit call ≡ true → call ≡ calls.Exit
exit_is calls.Exit e = refl
exit_is (calls.Create bytes) e = cc
exit_is (calls.GiveUp name) e = cc
exit_is (calls.Extract name key) e = cc
exit_is (calls.Recipes name) e = cc
exit_is (calls.Send to moving name id) e = cc
exit_is calls.Recv e = cc
exit_is (calls.Extern name adding n) e = cc
exit_is (calls.Charge name n) e = cc
exit_is calls.Ledger e = cc
exit_is calls.Assertions e = cc
exit_is calls.Live e = cc

work_kind : (sc : Scenario) (t : ℕ) (m : Machine) (f : Frame) → Fits sc m → Before sc t m
    → (tasked m t).frame ≡ Some f → Called sc.version (tasked m t).names f (nth_call sc t (tasked m t).begun) kinds.Work
    → f.receipt ≡ None → (o : Option Call) → nth_call sc t (tasked m t).begun ≡ o
    → MayStep sc t m (work_event sc.version m t f o)
work_kind sc t m f fits s e c receipt None there = none f.forming
  where
    none : (v : Option Handles) → MayStep sc t m (on_formed (λ v k. Some (do_work sc.version m t f v k)) v None)
    none None = tt
    none (Some v) = tt
work_kind sc t m f fits s e c receipt (Some call) there =
    cases_bool (is_exit call) (MayStep sc t m (work_event sc.version m t f (Some call)))
    (λ exits. subst (λ (k : Call). MayStep sc t m (work_event sc.version m t f (Some k))) (sym (exit_is call exits))
    (λ _. exit_step sc t m f (record {
      before = s;
      frame = e;
      unanswered = c.unanswered;
      there = there ∙ ap Some (exit_is call exits);
    })))
    (λ other. subst (MayStep sc t m) (sym (work_is sc.version m t f call other))
    (formed_step sc t m _ f.forming (Some call) (λ v k g h. λ _.
    work_step sc t m f v k fits (calling sc t m f v k s e c.unanswered g (there ∙ h)) g receipt
    (next_of sc t m f k kinds.Work (there ∙ h) c))))

kind_step : (sc : Scenario) (want : Bool) (t : ℕ) (m : Machine) (f : Frame) (kind : Kind) → Fits sc m → Before sc t m
    → (tasked m t).frame ≡ Some f
    → frame_next sc.version (tasked m t).names f (nth_call sc t (tasked m t).begun) f.receipt
    ≡ Some kind
    → Shape f kind → MayStep sc t m (frame_event sc want m t f kind)
kind_step sc want t m f kinds.Begin fits s e next shape = tt
kind_step sc want t m f kinds.Work fits s e next shape = work_kind sc t m f fits s e
    (called sc.version (tasked m t).names f _ kinds.Work next refl) shape.0 (nth_call sc t (tasked m t).begun) refl
kind_step sc want t m f kinds.Make fits s e next shape =
    formed_step sc t m _ f.forming _ (λ v call g k.
    make_step sc want t m f v call fits (calling sc t m f v call s e
    (called sc.version (tasked m t).names f _ kinds.Make next refl).unanswered g k) g shape.0
    (next_of sc t m f call kinds.Make k (called sc.version (tasked m t).names f _ kinds.Make next refl)))
kind_step sc want t m f kinds.Refer fits s e next shape =
    formed_step sc t m _ f.forming _ (λ v call g k. receipt_step sc t m _ f.receipt
    (λ q r. refer_step sc t m f v call q (calling sc t m f v call s e (forms_unanswered sc t m f v fits e g) g k) g r))
kind_step sc want t m f kinds.Place fits s e next shape =
    formed_step sc t m _ f.forming _ (λ v call g k. may_be sc t m _
    (place_step sc want t m f v call fits (calling sc t m f v call s e
    (called sc.version (tasked m t).names f _ kinds.Place next refl).unanswered g k) g shape.0
    (next_of sc t m f call kinds.Place k (called sc.version (tasked m t).names f _ kinds.Place next refl))))
kind_step sc want t m f kinds.LetGo fits s e next shape = lets_step sc t m _ f.lets
    (λ q rest. let_go_step sc t m f q rest s e)
kind_step sc want t m f kinds.Ask fits s e next shape = claim_step sc t m _ f.claim
    (λ c k. ask_step sc t m f c fits s e k (same_answer f.claim shape.0 c false shape.1 k shape.2))
kind_step sc want t m f kinds.Recheck fits s e next shape = claim_step sc t m _ f.claim
    (λ c k. recheck_step sc t m f c s e)
kind_step sc want t m f kinds.Phase fits s e next shape = tt

begins : (b : Bool) (kind : Kind) → (if b then Some kinds.Begin else None) ≡ Some kind → b ≡ true
begins true kind e = refl
begins false kind e = cc

of_step : (sc : Scenario) (want : Bool) (t : ℕ) (m : Machine) (frame : Option Frame) (kind : Option Kind) → Fits sc m
    → Before sc t m → IsAmong t m.tasks → (tasked m t).frame ≡ frame
    → task_next sc (phases_in m.past) t (tasked m t) frame ≡ kind → MayStep sc t m (event_of sc want m t frame kind)
of_step sc want t m frame None fits s l e k = tt
of_step sc want t m None (Some kind) fits s l e k = may_be sc t m _
    (do_begin_step sc want t m fits s e (begins _ kind k) l)
of_step sc want t m (Some f) (Some kind) fits s l e k =
    kind_step sc want t m f kind fits s e k
    (shape_of f sc.version (tasked m t).names (nth_call sc t (tasked m t).begun) kind k)

pub in_range : (sc : Scenario) (m : Machine) (t : ℕ) → Fits sc m → is_task sc t ≡ true → IsAmong t m.tasks
in_range sc m t fits task =
    (least t (length sc.flags) task, subst (λ n. t ≤ n) (sym fits.tasks) (below t (length sc.flags) task))
  where
    least : (t n : ℕ) → (nat_lt 0 t && nat_lt t (n + 1)) ≡ true → 1 ≤ t
    least t n h = grind arith

    below : (t n : ℕ) → (nat_lt 0 t && nat_lt t (n + 1)) ≡ true → t ≤ n
    below t n h = grind arith

-- the task of an event, and what it does to it
pub record Happened (sc : Scenario) (t : ℕ) (m : Machine) (o : Option Machine) : Type 0 where
  pub task : is_some o ≡ true → is_task sc t ≡ true
  pub step : is_some o ≡ true → MayStep sc t m o

pub event_happens : (sc : Scenario) (want : Bool) (t : ℕ) (m : Machine) → Ties sc m
    → Happened sc t m (event sc want m t)
unfolding event
event_happens sc want t m s = by_task (is_task sc t) refl
  where
    by_task : (b : Bool) → is_task sc t ≡ b → Happened sc t m
        (if b then event_of sc want m t (tasked m t).frame (next_kind sc m t) else None)
    by_task true task = record {
      task = λ _. task;
      step = λ _. of_step sc want t m (tasked m t).frame
          (next_kind sc m t) s.fits (s.tasks t task) (in_range sc m t s.fits task) refl refl;
    }
    by_task false task = record { task = λ h. let k : false ≡ true = h in cc; step = λ _. tt }

-- every event keeps all that stands
pub event_stands : (sc : Scenario) (want : Bool) (t : ℕ) (m n : Machine) → Ties sc m → event sc want m t ≡ Some n
    → Ties sc n
event_stands sc want t m n s e =
    stands_after sc want t m n s (happened.task some) e fits (subst (MayStep sc t m) e (happened.step some) fits)
  where
    happened : Happened sc t m (event sc want m t)
    happened = event_happens sc want t m s

    some : is_some (event sc want m t) ≡ true
    some = ap is_some e

    fits : Fits sc n
    fits = event_keeps sc want t m n s.fits e
