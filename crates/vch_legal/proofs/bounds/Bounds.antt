-- Every move lowers what is left, so each run has a bound, and the schedules come to the end.
use Rattle.std.proofs.Common.{◌≡◌, ◌≢◌, ℕ, suc, ◌+◌, ◌-◌, ◌<◌, ◌≤◌, Bool, List, [], ◌∷◌, refl, true, false, ◌&&◌, arith, sym, ap, ◌∙◌, subst, length, map, Some, None, Option}
use Rattle.std.specs.Prelude.{if◌then◌else◌, nat_lt}
use Rattle.vch_base.specs.declared.kind.Kind.{Kind}
use Rattle.vch_base.specs.declared.kind.Kind.TheVariants as kinds
use Rattle.vch_model.specs.declared.call.Call.{Call}
use Rattle.vch_model.specs.declared.call.Call.TheVariants as calls
use Rattle.vch_model.specs.declared.entry.Entry.TheVariants as entries
use Rattle.vch_model.specs.declared.lists.Scenario.{Scenario}
use Rattle.vch_model.specs.Lines.{is_task, phases_in}
use Rattle.vch_machine.specs.State.{Handles, Place, Message, Claim, Frame, Machine, tasked, message_of, start}
use Rattle.vch_machine.specs.Events.{event, event_of, frame_event, work_event, phase_event, on_formed, on_place, on_lets, on_the_claim, all_at_rest}
use Rattle.vch_machine.specs.Frames.{noted}
use Rattle.vch_machine.specs.Next.{next_kind, task_next, nth_call, call_next, frame_next}
use Rattle.vch_machine.specs.Schedules.{Move, happens, run, run_from_start}
use Rattle.vch_machine.specs.Working.{do_work}
use Rattle.vch_machine.proofs.CallerLemmas.{leaves_of}
use Rattle.vch_legal.specs.Facts.{Fits, OptionFits}
use Rattle.vch_legal.specs.Tie.{first_in, Ties}
use Rattle.vch_legal.specs.Left.{work_left}
use Rattle.vch_legal.proofs.spots.Shapes.{Shape, shape_of}
use Rattle.vch_legal.proofs.tasks.OwnSteps.{Before}
use Rattle.vch_legal.proofs.steps.Nexts.{Called, called, forms_at, still_open}
use Rattle.vch_legal.proofs.tasks.TaskLists.{IsAmong}
use Rattle.vch_legal.proofs.steps.EventSteps.{same_answer}
use Rattle.vch_legal.proofs.runs.Runs.{start_stands, happens_stands, reached_stands}
use Rattle.vch_legal.proofs.bounds.LeftTasks.{call_now}
use Rattle.vch_legal.proofs.bounds.LeftFrames.{Framed, Lower, Calls, let_go_lower, recheck_lower, ask_lower, work_lower}
use Rattle.vch_legal.proofs.bounds.LeftMakes.{MayLower, make_lower, refer_lower}
use Rattle.vch_legal.proofs.bounds.LeftPlaces.{place_lower}
use Rattle.vch_legal.proofs.bounds.ExitLeft.{exit_lower}
use Rattle.vch_legal.proofs.bounds.LeftBegins.{do_begin_lower}
use Rattle.vch_legal.proofs.steps.WorkSteps.{no_work}

formed_lower : (sc : Scenario) (m : Machine) (g : Handles → Call → Option Machine) (v : Option Handles)
    (call : Option Call) → ((w : Handles) (c : Call) → v ≡ Some w → call ≡ Some c → MayLower sc m (g w c))
    → MayLower sc m (on_formed g v call)
formed_lower sc m g None call h = tt
formed_lower sc m g (Some v) None h = tt
formed_lower sc m g (Some v) (Some call) h = h v call refl refl

receipt_lower : (sc : Scenario) (m : Machine) (g : Place → Machine) (p : Option Place)
    → ((q : Place) → p ≡ Some q → Lower sc m (g q)) → MayLower sc m (on_place g p)
receipt_lower sc m g None h = tt
receipt_lower sc m g (Some p) h = h p refl

lets_lower : (sc : Scenario) (m : Machine) (g : Place → List Place → Machine) (lets : List Place)
    → ((q : Place) (rest : List Place) → lets ≡ q ∷ rest → Lower sc m (g q rest)) → MayLower sc m (on_lets g lets)
lets_lower sc m g [] h = tt
lets_lower sc m g (p ∷ rest) h = h p rest refl

claim_lower : (sc : Scenario) (m : Machine) (g : Claim → Machine) (c : Option Claim)
    → ((d : Claim) → c ≡ Some d → Lower sc m (g d)) → MayLower sc m (on_the_claim g c)
claim_lower sc m g None h = tt
claim_lower sc m g (Some c) h = h c refl

-- Work is of a create or of an exit
work_by_call : (sc : Scenario) (t : ℕ) (m : Machine) (f : Frame) (call : Call) → Calls sc t m f call
    → f.receipt ≡ None → f.lets ≡ []
    → call_next sc.version (tasked m t).names f.at_byte f.keys (Some call) ≡ Some kinds.Work
    → MayLower sc m (work_event sc.version m t f (Some call))
work_by_call sc t m f (calls.Create bytes) c receipt lets next =
    formed_lower sc m _ f.forming (Some (calls.Create bytes)) (λ v d g h.
    subst (λ (x : Call). Lower sc m (do_work sc.version m t f v x)) (some_eq h)
    (work_lower sc t m f v bytes c receipt lets))
  where
    some_eq : {a b : Call} → Some a ≡ Some b → a ≡ b
    some_eq h = cc
work_by_call sc t m f calls.Exit c receipt lets next = exit_lower sc t m f c
work_by_call sc t m f (calls.GiveUp name) c receipt lets next = absurd (no_work _ next)
work_by_call sc t m f (calls.Extract name key) c receipt lets next = absurd (no_work _ next)
work_by_call sc t m f (calls.Recipes name) c receipt lets next = absurd (no_work _ next)
work_by_call sc t m f (calls.Send to moving name id) c receipt lets next = absurd (no_work _ next)
work_by_call sc t m f calls.Recv c receipt lets next = absurd (no_work _ next)
work_by_call sc t m f (calls.Extern name adding n) c receipt lets next = absurd (no_work _ next)
work_by_call sc t m f (calls.Charge name n) c receipt lets next = absurd (no_work _ next)
work_by_call sc t m f calls.Ledger c receipt lets next = absurd (no_work _ next)
work_by_call sc t m f calls.Assertions c receipt lets next = absurd (no_work _ next)
work_by_call sc t m f calls.Live c receipt lets next = absurd (no_work _ next)

work_now : (sc : Scenario) (t : ℕ) (m : Machine) (f : Frame) (call : Option Call) → Framed t m f
    → call_now sc t m ≡ call
    → f.lets ≡ [] → Called sc.version (tasked m t).names f call kinds.Work
    → MayLower sc m (work_event sc.version m t f call)
work_now sc t m f None framed e lets c = absurd (none c.next)
  where
    none : ◌≡◌ {A = Option Kind} None (Some kinds.Work) → ⊥
    none e = cc
work_now sc t m f (Some call) framed e lets c =
    work_by_call sc t m f call (record { framed = framed; unanswered = c.unanswered; there = e }) c.receipt lets c.next

-- a recv that forms a voucher has a message
message_there : (sc : Scenario) (t : ℕ) (m : Machine) (f : Frame) (v : Handles) (call : Call) → Before sc t m
    → (tasked m t).frame ≡ Some f → f.forming ≡ Some v → f.receipt ≡ None → nth_call sc t (tasked m t).begun
    ≡ Some call
    → call ≡ calls.Recv → 1 ≤ length (tasked m t).queue
message_there sc t m f v call s e forming receipt there same =
    let h : _ = forms_at sc t m f v None calls.Recv s e forming receipt (there ∙ ap Some same) in
    by_queue (tasked m t).queue h.voucher h.first
  where
    by_queue : (queue : List Message) (w : _) → first_in (map (message_of m.live) queue) ≡ Some w → 1 ≤ length queue
    by_queue [] w e = cc
    by_queue (q ∷ queue) w e = omega arith

kind_lower : (sc : Scenario) (want : Bool) (t : ℕ) (m : Machine) (f : Frame) (kind : Kind) → Fits sc m → Before sc t m
    → Framed t m f → frame_next sc.version (tasked m t).names f (nth_call sc t (tasked m t).begun) f.receipt ≡ Some kind
    → Shape f kind → MayLower sc m (frame_event sc want m t f kind)
kind_lower sc want t m f kinds.Begin fits s c next shape = tt
kind_lower sc want t m f kinds.Work fits s c next shape =
    work_now sc t m f (nth_call sc t (tasked m t).begun) c refl shape.2
    (called sc.version (tasked m t).names f (nth_call sc t (tasked m t).begun) kinds.Work next refl)
kind_lower sc want t m f kinds.Make fits s c next shape =
    let d : Called sc.version (tasked m t).names f (nth_call sc t (tasked m t).begun) kinds.Make =
    called sc.version (tasked m t).names f (nth_call sc t (tasked m t).begun) kinds.Make next refl in
    formed_lower sc m _ f.forming _ (λ v call g k. make_lower sc want t m f v call
    (record { framed = c; unanswered = d.unanswered; there = k }) shape.0)
kind_lower sc want t m f kinds.Refer fits s c next shape =
    formed_lower sc m _ f.forming _ (λ v call g k. receipt_lower sc m _ f.receipt
    (λ q r. refer_lower sc t m f v call q fits (record {
      framed = c;
      unanswered = still_open f v (subst OptionFits c.frame (fits.frames t)) g;
      there = k;
    }) r))
kind_lower sc want t m f kinds.Place fits s c next shape =
    let d : Called sc.version (tasked m t).names f (nth_call sc t (tasked m t).begun) kinds.Place =
    called sc.version (tasked m t).names f (nth_call sc t (tasked m t).begun) kinds.Place next refl in
    formed_lower sc m _ f.forming _ (λ v call g k. place_lower sc want t m f v call
    (record { framed = c; unanswered = d.unanswered; there = k })
    (message_there sc t m f v call s c.frame g shape.0 k))
kind_lower sc want t m f kinds.LetGo fits s c next shape = lets_lower sc m _ f.lets
    (λ q rest l. let_go_lower sc t m f q rest c l shape.1)
kind_lower sc want t m f kinds.Ask fits s c next shape = claim_lower sc m _ f.claim
    (λ d k. ask_lower sc t m f d c k (same_answer f.claim shape.0 d false shape.1 k shape.2))
kind_lower sc want t m f kinds.Recheck fits s c next shape = claim_lower sc m _ f.claim
    (λ d k. recheck_lower sc t m f d c k (same_answer f.claim shape.0 d true shape.1 k shape.2))
kind_lower sc want t m f kinds.Phase fits s c next shape = tt

of_lower : (sc : Scenario) (want : Bool) (t : ℕ) (m : Machine) (frame : Option Frame) (kind : Option Kind) → Fits sc m
    → Before sc t m → IsAmong t m.tasks → (tasked m t).frame ≡ frame
    → task_next sc (phases_in m.past) t (tasked m t) frame ≡ kind → MayLower sc m (event_of sc want m t frame kind)
of_lower sc want t m frame None fits s among e k = tt
of_lower sc want t m None (Some kind) fits s among e k = do_begin_lower sc want t m among e
of_lower sc want t m (Some f) (Some kind) fits s among e k =
    kind_lower sc want t m f kind fits s (record { among = among; frame = e }) k
    (shape_of f sc.version (tasked m t).names (nth_call sc t (tasked m t).begun) kind k)

-- a task of the scenario is one of the machine's
pub is_among : (sc : Scenario) (t : ℕ) (m : Machine) → Fits sc m → is_task sc t ≡ true → IsAmong t m.tasks
is_among sc t m fits task =
    subst (λ n. (1 ≤ t) × (t ≤ n)) (sym fits.tasks) (above t (length sc.flags) task, below t (length sc.flags) task)
  where
    above : (t n : ℕ) → (nat_lt 0 t && nat_lt t (n + 1)) ≡ true → 1 ≤ t
    above t n h = grind arith

    below : (t n : ℕ) → (nat_lt 0 t && nat_lt t (n + 1)) ≡ true → t ≤ n
    below t n h = grind arith

may_lower : (sc : Scenario) (want : Bool) (t : ℕ) (m : Machine) → Ties sc m → MayLower sc m (event sc want m t)
unfolding event
may_lower sc want t m s = by_task (is_task sc t) refl
  where
    by_task : (b : Bool) → is_task sc t ≡ b → MayLower sc m
        (if b then event_of sc want m t (tasked m t).frame (next_kind sc m t) else None)
    by_task true task = of_lower sc want t m (tasked m t).frame (next_kind sc m t) s.fits (s.tasks t task)
        (is_among sc t m s.fits task) refl refl
    by_task false task = tt

-- an event lowers what is left
pub event_lowers : (sc : Scenario) (want : Bool) (t : ℕ) (m n : Machine) → Ties sc m → event sc want m t ≡ Some n
    → work_left sc n + 1 ≤ work_left sc m
event_lowers sc want t m n s e =
    let a : Lower sc m n = subst (MayLower sc m) e (may_lower sc want t m s) in
    let b : phases_in n.past ≡ phases_in m.past = (leaves_of sc want t (t + 1) m n (apart t) e).phases in
    let c : length sc.phases - phases_in n.past ≡ length sc.phases - phases_in m.past = ap (λ p. length sc.phases - p)
    b in omega arith
  where
    apart : (t : ℕ) → t + 1 ≢ t
    apart t = λ e. absurd (omega arith)

-- and so does the end of a phase
pub phase_lowers : (sc : Scenario) (m n : Machine) → phase_event sc m ≡ Some n → work_left sc n + 1 ≤ work_left sc m
unfolding phase_event
phase_lowers sc m n e = by_test _ refl e
  where
    right : (a b : Bool) → (a && b) ≡ true → b ≡ true
    right a b h = grind arith

    below : (a b : ℕ) → nat_lt a b ≡ true → a < b
    below a b h = grind arith

    some_eq : {x y : Machine} → Some x ≡ Some y → x ≡ y
    some_eq h = cc

    by_test : (b : Bool) → (all_at_rest sc m && nat_lt (phases_in m.past)
        (length sc.phases)) ≡ b → (if b then Some (noted m entries.Phase) else None) ≡ Some n
        → work_left sc n + 1 ≤ work_left sc m
    by_test true h g = subst (λ (x : Machine). work_left sc x + 1 ≤ work_left sc m) (some_eq g)
        (let k : phases_in m.past < length sc.phases = below _ _
        (right (all_at_rest sc m) _ h) in omega arith)
    by_test false h g = cc

pub move_lowers : (sc : Scenario) (m n : Machine) (move : Move) → Ties sc m → happens sc m move ≡ Some n
    → work_left sc n + 1 ≤ work_left sc m
move_lowers sc m n (Move.Of t want) s e = event_lowers sc want t m n s e
move_lowers sc m n Move.EndPhase s e = phase_lowers sc m n e

-- a run has no more moves than were left
run_bound : (sc : Scenario) (moves : List Move) (m n : Machine) → Ties sc m → run sc moves (Some m) ≡ Some n
    → length moves + work_left sc n ≤ work_left sc m
run_bound sc [] m n s e = let g : m ≡ n = some_eq e in subst (λ (x : Machine). 0 + work_left sc x ≤ work_left sc m) g
    (omega arith)
  where
    some_eq : {x y : Machine} → Some x ≡ Some y → x ≡ y
    some_eq h = cc
run_bound sc (move ∷ moves) m n s e = by_move (happens sc m move) refl e (λ k. run_bound sc moves k n)
  where
    by_move : (o : Option Machine) → happens sc m move ≡ o → run sc moves o ≡ Some n
        → ((k : Machine) → Ties sc k → run sc moves (Some k) ≡ Some n → length moves + work_left sc n ≤ work_left sc k)
        → suc (length moves) + work_left sc n ≤ work_left sc m
    by_move None g h rec = cc
    by_move (Some k) g h rec =
        let a : length moves + work_left sc n ≤ work_left sc k = rec k (happens_stands sc m k move s g) h in
        let b : work_left sc k + 1 ≤ work_left sc m = move_lowers sc m k move s g in omega arith

pub run_bounded : (sc : Scenario) (moves : List Move) (n : Machine) → run_from_start sc moves ≡ Some n
    → length moves + work_left sc n ≤ work_left sc (start sc)
run_bounded sc moves n e = run_bound sc moves (start sc) n (start_stands sc) e

-- along every run
pub reached_lowers : (sc : Scenario) (moves : List Move) (move : Move) (m n : Machine) → run_from_start sc moves
    ≡ Some m → happens sc m move ≡ Some n → work_left sc n + 1 ≤ work_left sc m
reached_lowers sc moves move m n e h = move_lowers sc m n move (reached_stands sc moves m e) h
