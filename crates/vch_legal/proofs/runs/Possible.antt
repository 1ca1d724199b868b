-- Where a task has a next event, it can happen.
use Rattle.std.proofs.Common.{◌≡◌, ℕ, zero, suc, ◌+◌, ◌-◌, ◌<◌, ◌≤◌, Bool, List, [], ◌∷◌, refl, true, false, ◌&&◌, ◌||◌, arith, sym, ap, ◌∙◌, subst, length, drop, Some, None, Option}
use Rattle.std.specs.Prelude.{if◌then◌else◌, ◌==◌, nat_lt, nat_le, is_some, slice_get}
use Rattle.std.specs.List.{filter}
use Rattle.vch_base.specs.declared.commands.TheConstants as commands
use Rattle.vch_base.specs.declared.key.Key.{Key}
use Rattle.vch_base.specs.declared.key.TheConstants.{ALL_KEYS}
use Rattle.vch_base.specs.declared.kind.Kind.{Kind}
use Rattle.vch_base.specs.declared.kind.Kind.TheVariants as kinds
use Rattle.vch_base.specs.declared.value.Value.{Value}
use Rattle.vch_base.specs.Keys.{key_of}
use Rattle.vch_recipe.specs.Recipes.{First, One, End, HeaderCut, ContentCut, first_of}
use Rattle.vch_model.specs.declared.call.Call.{Call}
use Rattle.vch_model.specs.declared.call.Call.TheVariants as calls
use Rattle.vch_model.specs.declared.call.Line.{Line}
use Rattle.vch_model.specs.declared.lists.Scenario.{Scenario}
use Rattle.vch_model.specs.Voucher.{Voucher}
use Rattle.vch_model.specs.Store.{Member}
use Rattle.vch_model.specs.Legal.{is_managers}
use Rattle.vch_model.specs.Lines.{is_task, phases_in, lines_of, lines_until}
use Rattle.vch_machine.specs.State.{Handles, Place, Living, Named, Claim, Frame, Machine, tasked, member_of, is_empty}
use Rattle.vch_machine.specs.Beginning.{begin_line, is_full}
use Rattle.vch_machine.specs.Events.{event, event_of, frame_event, work_event, on_formed, on_place, on_lets, on_the_claim}
use Rattle.vch_machine.specs.Leaving.{do_let_go, do_ask, do_recheck}
use Rattle.vch_machine.specs.Making.{keys_left, head_key, Asked, asked_by, asked_first, asked_record, asked_transfer, make_asked}
use Rattle.vch_machine.specs.Next.{next_kind, task_next, nth_call, call_in, known_name, first_next, call_next, unanswered_next, lets_next, unclaimed_next, frame_next}
use Rattle.vch_machine.specs.Placing.{do_place}
use Rattle.vch_legal.specs.Facts.{Fits, OptionFits}
use Rattle.vch_legal.specs.Tie.{Forms, Ties}
use Rattle.vch_legal.proofs.facts.Choices.{cases_bool}
use Rattle.vch_legal.proofs.tasks.OwnSteps.{Before}
use Rattle.vch_legal.proofs.steps.CallKinds.{not_other}
use Rattle.vch_legal.proofs.steps.Nexts.{forms_at, exits_at, CallThere, call_there, still_open, some_kind}

formed_some : (g : Handles → Call → Option Machine) (v : Handles) (call : Call) (w : Option Handles) (c : Option Call)
    → w ≡ Some v → c ≡ Some call → is_some (g v call) ≡ true → is_some (on_formed g w c) ≡ true
formed_some g v call w c e h i = subst (λ (x : Option Handles). is_some (on_formed g x c) ≡ true) (sym e)
    (subst (λ (x : Option Call). is_some (on_formed g (Some v) x) ≡ true) (sym h) i)

if_some : (b : Bool) (x y : Option Machine) → is_some x ≡ true → is_some y ≡ true → is_some (if b then x else y) ≡ true
if_some true x y h k = h
if_some false x y h k = k

-- a Make asks for something
some_left : (version : ℕ) (ks : List Key) → is_some (head_key (keys_left version ks)) ≡ true
some_left version [] = refl
some_left version (k ∷ ks) = refl

record_asks : (version : ℕ) (live : List Living) (names : List Named) (t : ℕ) (ks : List Key) (v : Handles)
    (first : First)
    → first_next version names first ≡ kinds.Make → is_some (asked_first version live names t ks v first) ≡ true
record_asks version live names t ks v (One r rest) e =
    cases_bool (r.key == ALL_KEYS) (is_some (asked_first version live names t ks v (One r rest)) ≡ true)
    (λ all. rw all (of_key (head_key (keys_left version ks)) (some_left version ks)))
    (λ one. rw one (of_key (key_of version r.key) (managed ((r.previous == 0) || is_some (known_name names r.previous))
    (is_managers r.command) (is_some (key_of version r.key)) (r.command == commands.REDEEM) (r.key == ALL_KEYS)
    (length r.content == 0) one (asking _ e))))
  where
    asking : (b : Bool) → (if b then kinds.Make else kinds.Work) ≡ kinds.Make → b ≡ true
    asking true e = refl
    asking false e = cc

    managed : (k a b c d f : Bool) → d ≡ false → (k && ((a && b) || (c && (d && f)))) ≡ true → b ≡ true
    managed k a b c d f h e = grind arith

    of_key : (k : Option Key) → is_some k ≡ true → is_some (asked_record live names t v r k) ≡ true
    of_key None h = cc
    of_key (Some k) h = refl
record_asks version live names t ks v End e = cc
record_asks version live names t ks v (HeaderCut left) e = cc
record_asks version live names t ks v (ContentCut wanted left) e = cc

keys_ask : (live : List Living) (g : Value → Value) (ks : List Key) (v : Handles)
    → (if is_empty ks then Some kinds.Place else Some kinds.Make) ≡ Some kinds.Make
    → is_some (asked_transfer live g ks v) ≡ true
keys_ask live g [] v e = cc
keys_ask live g (k ∷ ks) v e = refl

asked_some : (sc : Scenario) (t : ℕ) (m : Machine) (f : Frame) (v : Handles) (call : Call) (x : Member) (place : ℕ)
    (ks : List Key) (w : Voucher) → Forms sc x t call place ks w
    → call_next sc.version (tasked m t).names f.at_byte f.keys (Some call) ≡ Some kinds.Make
    → is_some (asked_by sc m t f v call) ≡ true
asked_some sc t m f v (calls.Create bytes) x place ks w h e =
    record_asks sc.version m.live (tasked m t).names t f.keys v
    (first_of (drop f.at_byte bytes)) (some_kind _ kinds.Make e)
asked_some sc t m f v (calls.Send to moving name id) x place ks w h e = keys_ask m.live _ f.keys v e
asked_some sc t m f v calls.Recv x place ks w h e = keys_ask m.live _ f.keys v e
asked_some sc t m f v (calls.GiveUp name) x place ks w h e = absurd h
asked_some sc t m f v (calls.Extract name key) x place ks w h e = absurd h
asked_some sc t m f v (calls.Recipes name) x place ks w h e = absurd h
asked_some sc t m f v (calls.Extern name adding n) x place ks w h e = absurd h
asked_some sc t m f v (calls.Charge name n) x place ks w h e = absurd h
asked_some sc t m f v calls.Ledger x place ks w h e = absurd h
asked_some sc t m f v calls.Assertions x place ks w h e = absurd h
asked_some sc t m f v calls.Live x place ks w h e = absurd h
asked_some sc t m f v calls.Exit x place ks w h e = absurd h

made_some : (version : ℕ) (m : Machine) (t : ℕ) (f : Frame) (v : Handles) (call : Call) (a : Option Asked)
    → is_some a ≡ true → is_some (make_asked version m t f v call a) ≡ true
made_some version m t f v call None e = cc
made_some version m t f v call (Some a) e = refl

placed_some : (sc : Scenario) (want : Bool) (t : ℕ) (m : Machine) (f : Frame) (v : Handles) (call : Call) (x : Member)
    (place : ℕ) (ks : List Key) (w : Voucher) → Forms sc x t call place ks w
    → is_some (do_place sc want m t f v call) ≡ true
placed_some sc want t m f v (calls.Create bytes) x place ks w h = if_some want _ _ refl refl
placed_some sc want t m f v (calls.Send to moving name id) x place ks w h = if_some (is_full sc m to) _ _ refl
    (if_some want _ _ refl refl)
placed_some sc want t m f v calls.Recv x place ks w h = if_some want _ _ refl refl
placed_some sc want t m f v (calls.GiveUp name) x place ks w h = absurd h
placed_some sc want t m f v (calls.Extract name key) x place ks w h = absurd h
placed_some sc want t m f v (calls.Recipes name) x place ks w h = absurd h
placed_some sc want t m f v (calls.Extern name adding n) x place ks w h = absurd h
placed_some sc want t m f v (calls.Charge name n) x place ks w h = absurd h
placed_some sc want t m f v calls.Ledger x place ks w h = absurd h
placed_some sc want t m f v calls.Assertions x place ks w h = absurd h
placed_some sc want t m f v calls.Live x place ks w h = absurd h
placed_some sc want t m f v calls.Exit x place ks w h = absurd h

-- Work of a call that forms a voucher, or of an exit
work_some : (version : ℕ) (m : Machine) (t : ℕ) (f : Frame) (v : Handles) (call : Option Call) → f.forming ≡ Some v
    → is_some call ≡ true → is_some (work_event version m t f call) ≡ true
work_some version m t f v None forming e = cc
work_some version m t f v (Some calls.Exit) forming e = refl
work_some version m t f v (Some (calls.Create bytes)) forming e =
    formed_some _ v (calls.Create bytes) f.forming _ forming refl refl
work_some version m t f v (Some (calls.GiveUp name)) forming e =
    formed_some _ v (calls.GiveUp name) f.forming _ forming refl refl
work_some version m t f v (Some (calls.Extract name key)) forming e =
    formed_some _ v (calls.Extract name key) f.forming _ forming refl refl
work_some version m t f v (Some (calls.Recipes name)) forming e =
    formed_some _ v (calls.Recipes name) f.forming _ forming refl refl
work_some version m t f v (Some (calls.Send to moving name id)) forming e =
    formed_some _ v (calls.Send to moving name id) f.forming _ forming refl refl
work_some version m t f v (Some calls.Recv) forming e = formed_some _ v calls.Recv f.forming _ forming refl refl
work_some version m t f v (Some (calls.Extern name adding n)) forming e =
    formed_some _ v (calls.Extern name adding n) f.forming _ forming refl refl
work_some version m t f v (Some (calls.Charge name n)) forming e =
    formed_some _ v (calls.Charge name n) f.forming _ forming refl refl
work_some version m t f v (Some calls.Ledger) forming e = formed_some _ v calls.Ledger f.forming _ forming refl refl
work_some version m t f v (Some calls.Assertions) forming e =
    formed_some _ v calls.Assertions f.forming _ forming refl refl
work_some version m t f v (Some calls.Live) forming e = formed_some _ v calls.Live f.forming _ forming refl refl

-- the call's own events
called_some : (sc : Scenario) (want : Bool) (t : ℕ) (m : Machine) (f : Frame) (v : Handles) (call : Call)
    (kind : Kind) → Before sc t m → (tasked m t).frame ≡ Some f → f.forming ≡ Some v
    → nth_call sc t (tasked m t).begun ≡ Some call
    → call_next sc.version (tasked m t).names f.at_byte f.keys (Some call) ≡ Some kind
    → is_some (frame_event sc want m t f kind) ≡ true
called_some sc want t m f v call kinds.Work s e forming there next =
    work_some sc.version m t f v (nth_call sc t (tasked m t).begun) forming (ap is_some there)
called_some sc want t m f v call kinds.Make s e forming there next =
    formed_some _ v call f.forming _ forming there
    (if_some want _ _ refl (made_some sc.version m t f v call (asked_by sc m t f v call)
    (asked_some sc t m f v call (member_of m.live (tasked m t)) _ _ _
    (forms_at sc t m f v f.receipt call s e forming refl there) next)))
called_some sc want t m f v call kinds.Place s e forming there next =
    formed_some _ v call f.forming _ forming there
    (placed_some sc want t m f v call (member_of m.live (tasked m t)) _ _ _
    (forms_at sc t m f v f.receipt call s e forming refl there))
called_some sc want t m f v call kinds.Begin s e forming there next = absurd
    (not_other sc.version (tasked m t).names f.at_byte f.keys call kinds.Begin next refl)
called_some sc want t m f v call kinds.Refer s e forming there next = absurd
    (not_other sc.version (tasked m t).names f.at_byte f.keys call kinds.Refer next refl)
called_some sc want t m f v call kinds.LetGo s e forming there next = absurd
    (not_other sc.version (tasked m t).names f.at_byte f.keys call kinds.LetGo next refl)
called_some sc want t m f v call kinds.Ask s e forming there next = absurd
    (not_other sc.version (tasked m t).names f.at_byte f.keys call kinds.Ask next refl)
called_some sc want t m f v call kinds.Recheck s e forming there next = absurd
    (not_other sc.version (tasked m t).names f.at_byte f.keys call kinds.Recheck next refl)
called_some sc want t m f v call kinds.Phase s e forming there next = absurd
    (not_other sc.version (tasked m t).names f.at_byte f.keys call kinds.Phase next refl)

place_some : (g : Place → Machine) (o : Option Place) → is_some o ≡ true → is_some (on_place g o) ≡ true
place_some g None e = cc
place_some g (Some p) e = refl

-- an event of a frame
frame_some : (sc : Scenario) (want : Bool) (t : ℕ) (m : Machine) (f : Frame) (kind : Kind) → Fits sc m → Before sc t m
    → (tasked m t).frame ≡ Some f
    → frame_next sc.version (tasked m t).names f (nth_call sc t (tasked m t).begun) f.receipt ≡ Some kind
    → is_some (frame_event sc want m t f kind) ≡ true
frame_some sc want t m f kind fits s e next = by_receipt f.receipt refl next
  where
    to_kind : (k : Kind) → Some k ≡ Some kind → is_some (frame_event sc want m t f k) ≡ true
        → is_some (frame_event sc want m t f kind) ≡ true
    to_kind k g h = subst (λ (x : Kind). is_some (frame_event sc want m t f x) ≡ true) (some_kind k kind g) h

    exit_some : nth_call sc t (tasked m t).begun ≡ Some calls.Exit
        → call_next sc.version (tasked m t).names f.at_byte f.keys (nth_call sc t (tasked m t).begun) ≡ Some kind
        → is_some (frame_event sc want m t f kind) ≡ true
    exit_some there h = to_kind kinds.Work
        (sym (ap (call_next sc.version (tasked m t).names f.at_byte f.keys) there) ∙ h)
        (subst (λ (o : Option Call). is_some (work_event sc.version m t f o) ≡ true) (sym there) refl)

    by_formed : (v : Option Handles) → f.forming ≡ v → f.answered ≡ false
        → call_next sc.version (tasked m t).names f.at_byte f.keys (nth_call sc t (tasked m t).begun) ≡ Some kind
        → is_some (frame_event sc want m t f kind) ≡ true
    by_formed None g u h = exit_some (exits_at sc t m f s e u g) h
    by_formed (Some v) g u h = of_call (call_there sc t m f s e u)
      where
        of_call : CallThere sc t m → is_some (frame_event sc want m t f kind) ≡ true
        of_call (call, there) = called_some sc want t m f v call kind s e g there
            (ap (call_next sc.version (tasked m t).names f.at_byte f.keys) (sym there) ∙ h)

    by_answer : (b : Bool) → f.answered ≡ b → unanswered_next sc.version (tasked m t).names f
        (nth_call sc t (tasked m t).begun) b ≡ Some kind → is_some (frame_event sc want m t f kind) ≡ true
    by_answer true g h = cc
    by_answer false g h = by_formed f.forming refl g h

    by_lets : (lets : List Place) → f.lets ≡ lets
        → lets_next sc.version (tasked m t).names f (nth_call sc t (tasked m t).begun)
        lets ≡ Some kind → is_some (frame_event sc want m t f kind) ≡ true
    by_lets (p ∷ rest) g h = to_kind kinds.LetGo h
        (subst (λ (xs : List Place). is_some (on_lets (λ p rest. do_let_go m t f p rest) xs) ≡ true) (sym g) refl)
    by_lets [] g h = by_answer f.answered refl h

    of_answer : (c : Claim) (b : Bool) → f.claim ≡ Some c → Some (if b then kinds.Recheck else kinds.Ask) ≡ Some kind
        → is_some (frame_event sc want m t f kind) ≡ true
    of_answer c true g h = to_kind kinds.Recheck h
        (subst (λ (o : Option Claim). is_some (on_the_claim (λ c. do_recheck m t f c) o) ≡ true) (sym g) refl)
    of_answer c false g h = to_kind kinds.Ask h (subst
        (λ (o : Option Claim). is_some (on_the_claim (λ c. do_ask m t f c) o) ≡ true) (sym g) refl)

    by_claim : (c : Option Claim) → f.claim ≡ c → unclaimed_next sc.version (tasked m t).names f
        (nth_call sc t (tasked m t).begun) c ≡ Some kind → is_some (frame_event sc want m t f kind) ≡ true
    by_claim (Some c) g h = of_answer c (is_some c.answer) g h
    by_claim None g h = by_lets f.lets refl h

    referred : (v : Option Handles) → f.forming ≡ v → is_some v ≡ true → is_some f.receipt ≡ true
        → is_some (frame_event sc want m t f kinds.Refer) ≡ true
    referred None g h r = cc
    referred (Some v) g h r =
        of_call (call_there sc t m f s e (still_open f v (subst OptionFits e (fits.frames t)) g))
      where
        of_call : CallThere sc t m → is_some (frame_event sc want m t f kinds.Refer) ≡ true
        of_call (call, there) = formed_some _ v call f.forming _ g there (place_some _ f.receipt r)

    by_receipt : (r : Option Place) → f.receipt ≡ r → frame_next sc.version (tasked m t).names f
        (nth_call sc t (tasked m t).begun) r ≡ Some kind → is_some (frame_event sc want m t f kind) ≡ true
    by_receipt (Some q) g h = to_kind kinds.Refer h
        (referred f.forming refl ((subst OptionFits e (fits.frames t)).forming (ap is_some g)) (ap is_some g))
    by_receipt None g h = by_claim f.claim refl h

-- a call that is left has a line
line_there : (sc : Scenario) (t n p : ℕ) → n + 1 ≤ lines_until sc p t → is_some (nth_call sc t (n + 1)) ≡ true
line_there sc t n p h = by_place (n + 1 - 1) (within (lines_of sc t) n _ h (fewer (λ l. nat_le l.0 p) (lines_of sc t)))
  where
    fewer : (test : ℕ × Line → Bool) (xs : List (ℕ × Line)) → length (filter test xs) ≤ length xs
    fewer test [] = omega arith
    fewer test (x ∷ xs) =
        let i : length (filter test xs) ≤ length xs = fewer test xs in
        cases_bool (test x) (length (filter test (x ∷ xs)) ≤ length (x ∷ xs)) (λ e. rw e (omega arith))
        (λ e. rw e (omega arith))

    within : (xs : List (ℕ × Line)) (n k : ℕ) → n + 1 ≤ k → k ≤ length xs → n + 1 - 1 < length xs
    within xs n k a b = omega arith

    by_place : (i : ℕ) → i < length (lines_of sc t) → is_some (call_in (slice_get (lines_of sc t) i)) ≡ true
    by_place i l = in_list (lines_of sc t) i l
      where
        in_list : (xs : List (ℕ × Line)) (i : ℕ) → i < length xs → is_some (call_in (slice_get xs i)) ≡ true
        in_list [] i l = absurd (omega arith)
        in_list (x ∷ xs) zero l = refl
        in_list (x ∷ xs) (suc i) l = in_list xs i (omega arith)

begun_some : (sc : Scenario) (want : Bool) (m : Machine) (t : ℕ) (call : Option Call) → is_some call ≡ true
    → is_some (begin_line sc want m t call) ≡ true
begun_some sc want m t None e = cc
begun_some sc want m t (Some call) e = refl

-- an event that is next can happen
pub event_some : (sc : Scenario) (want : Bool) (t : ℕ) (m : Machine) → Ties sc m → is_task sc t ≡ true
    → is_some (next_kind sc m t) ≡ true → is_some (event sc want m t) ≡ true
unfolding event
event_some sc want t m s task e = rw task (by_frame (tasked m t).frame (next_kind sc m t) refl refl e)
  where
    at_most : (a b : ℕ) → nat_lt a b ≡ true → a + 1 ≤ b
    at_most a b h = grind arith

    begins : (b : Bool) (kind : Kind) → (if b then Some kinds.Begin else None) ≡ Some kind → b ≡ true
    begins true kind e = refl
    begins false kind e = cc

    by_frame : (f : Option Frame) (kind : Option Kind) → (tasked m t).frame ≡ f
        → task_next sc (phases_in m.past) t (tasked m t) f ≡ kind → is_some kind ≡ true
        → is_some (event_of sc want m t f kind) ≡ true
    by_frame f None g h i = cc
    by_frame None (Some kind) g h i = begun_some sc want m t _
        (line_there sc t (tasked m t).begun (phases_in m.past + 1) (at_most _ _ (begins _ kind h)))
    by_frame (Some f) (Some kind) g h i = frame_some sc want t m f kind s.fits (s.tasks t task) g h
