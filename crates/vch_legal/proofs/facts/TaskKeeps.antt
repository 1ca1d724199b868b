-- Frames, sends that are under way, and the number of tasks, through every event.
use Rattle.std.proofs.Common.{◌≡◌, ◌≢◌, ℕ, ◌≤◌, Bool, List, [], ◌∷◌, refl, true, false, arith, sym, ap, ◌∙◌, subst, length, Some, None, Option}
use Rattle.std.proofs.lemmas.List.{length-map}
use Rattle.std.specs.Prelude.{is_some, if◌then◌else◌, ◌==◌}
use Rattle.vch_base.specs.declared.key.Key.{Key}
use Rattle.vch_base.specs.declared.value.Value.{Value}
use Rattle.vch_base.specs.Keyed.{of_key}
use Rattle.vch_base.specs.Tasks.{at_task}
use Rattle.vch_base.proofs.CallerLemmas.{as_long}
use Rattle.vch_model.specs.declared.call.Call.{Call}
use Rattle.vch_model.specs.declared.lists.Scenario.{Scenario}
use Rattle.vch_model.specs.Lines.{is_task}
use Rattle.vch_machine.specs.State.{Handles, Place, Claim, Frame, Tasked, Machine, idle, tasked, handle_of}
use Rattle.vch_machine.specs.Events.{event}
use Rattle.vch_machine.specs.Frames.{closed, with_frame, tallied}
use Rattle.vch_machine.specs.Leaving.{claim_if, do_let_go, do_recheck, released, with_answer, one_ask, again}
use Rattle.vch_machine.specs.Making.{on_claim, on_frame, on_task, on_claims, race_claim, back_claim, given_receipt, minted, made_at, moved, do_refer}
use Rattle.vch_machine.specs.Next.{nth_call}
use Rattle.vch_machine.proofs.CallerLemmas.{Leaves, leaves_of, still_claim}
use Rattle.vch_legal.specs.Facts.{Fits, FrameFits, OptionFits, SendsToTasks, ExitsFormNothing, most_lets}
use Rattle.vch_legal.proofs.facts.Choices.{cases_bool, number_eq}
use Rattle.vch_legal.proofs.tasks.TaskItems.{at_map}
use Rattle.vch_legal.proofs.tasks.OwnTask.{SentTo, set_keeps, sent_begun, item_fits}
use Rattle.vch_legal.proofs.spots.PlainEvents.{Plain}
use Rattle.vch_legal.proofs.tasks.OwnFrame.{own_frame, plain_fits, closed_fits}
use Rattle.vch_legal.proofs.spots.ReferSpots.{moved_same, referred, still_open}
use Rattle.vch_legal.proofs.steps.ExitOwn.{Formless, ExitAt, frame_formless, put_formless, closed_formless, formed_exit, kept_exit}
use Rattle.vch_legal.proofs.facts.Cases.{Cases, May, event_case, fits_at, still_going}

-- the own task after an event, and the number of tasks
record Own (sc : Scenario) (t : ℕ) (m n : Machine) : Type 0 where
  fits : OptionFits (tasked n t).frame
  sent : SentTo sc t n
  exits : ExitAt sc t n
  tasks : length n.tasks ≡ length m.tasks

-- claims that are changed
on_none : (g : Claim → Claim) (c : Option Claim) → c ≡ None → on_claim g c ≡ None
on_none g c e = ap (on_claim g) e

none_on : (g : Claim → Claim) (c : Option Claim) → on_claim g c ≡ None → c ≡ None
none_on g None e = refl
none_on g (Some c) e = cc

on_fits : (g : Claim → Claim) (f : Option Frame) → OptionFits f → OptionFits (on_frame g f)
on_fits g None h = tt
on_fits g (Some f) h = record {
  claim = λ r. on_none g f.claim
      (h.claim r);
  lets = h.lets;
  forming = h.forming;
  answered = h.answered;
  few = h.few;
}

fits_on : (g : Claim → Claim) (f : Option Frame) → OptionFits (on_frame g f) → OptionFits f
fits_on g None h = tt
fits_on g (Some f) h = record {
  claim = λ r. none_on g f.claim
      (h.claim r);
  lets = h.lets;
  forming = h.forming;
  answered = h.answered;
  few = h.few;
}

-- a state of the claims of which are changed
claims_own : (g : Claim → Claim) (t : ℕ) (m : Machine) → OptionFits (tasked m t).frame
    → OptionFits (tasked (on_claims g m) t).frame
claims_own g t m h = subst (λ (y : Tasked). OptionFits y.frame) (sym (at_map (on_task g) m.tasks t idle))
    (on_fits g (tasked m t).frame h)

claims_begun : (g : Claim → Claim) (t : ℕ) (m : Machine) → (tasked (on_claims g m) t).begun ≡ (tasked m t).begun
claims_begun g t m = ap (λ (y : Tasked). y.begun) (at_map (on_task g) m.tasks t idle)

framed_begun : (m : Machine) (t : ℕ) (g : Option Frame) → (tasked (with_frame m t g) t).begun ≡ (tasked m t).begun
framed_begun m t g = set_keeps (λ y. y.begun ≡ (tasked m t).begun) m.tasks t t
    (record (tasked m t) { frame = g }) (λ _. refl) refl

framed_tasks : (m : Machine) (t : ℕ) (g : Option Frame) → length (with_frame m t g).tasks ≡ length m.tasks
framed_tasks m t g = as_long m.tasks t (record (tasked m t) { frame = g })

given_own : (sc : Scenario) (t : ℕ) (m n : Machine) (f : Frame) (v : Handles) (q : Place) → SendsToTasks sc m
    → ExitsFormNothing sc m → is_task sc t ≡ true
    → (tasked m t).frame ≡ Some f → f.forming ≡ Some v → f.claim ≡ None → f.lets ≡ [] → FrameFits f
    → n.tasks ≡ m.tasks → Own sc t m (given_receipt n t f q)
given_own sc t m n f v q sends exits task e forming claim lets h same = record {
  fits = claims_own (race_claim q) t framed (own_frame n t (Some after)
      (record {
        claim = λ _. claim;
        lets = λ _. lets;
        forming = λ _. ap is_some forming;
        answered = h.answered;
        few = rw lets none_yet;
      }));
  sent = sent_begun sc t m (given_receipt n t f q) f sends task e begun;
  exits = formed_exit sc t m (given_receipt n t f q) f v exits task e forming begun;
  tasks = length-map framed.tasks (on_task (race_claim q)) ∙ (framed_tasks n t (Some after) ∙ ap length same);
}
  where
    after : Frame
    after = record f { receipt = Some q }

    framed : Machine
    framed = with_frame n t (Some after)

    begun : (tasked (given_receipt n t f q) t).begun ≡ (tasked m t).begun
    begun = claims_begun (race_claim q) t framed ∙ (framed_begun n t (Some after)
        ∙ ap (λ xs. (at_task xs t idle).begun) same)

    none_yet : 0 ≤ most_lets
    none_yet = omega arith

made_own : (sc : Scenario) (t : ℕ) (m : Machine) (f : Frame) (v : Handles) (k : Key) (x : Value) (found : Option ℕ)
    → Fits sc m → is_task sc t ≡ true → (tasked m t).frame ≡ Some f → f.forming ≡ Some v
    → f.claim ≡ None → f.lets ≡ [] → Own sc t m (made_at m t f k x found)
made_own sc t m f v k x (Some g) h task e forming claim lets =
    given_own sc t m m f v _ h.sends h.exits task e forming claim lets (fits_at sc t m f h e) refl
made_own sc t m f v k x None h task e forming claim lets =
    given_own sc t m (minted m k x) f v _ h.sends h.exits task e forming claim lets (fits_at sc t m f h e) refl

-- a frame without a receipt is put, which forms nothing where nothing was formed
framed_own : (sc : Scenario) (t : ℕ) (m n : Machine) (f : Frame) (g : Option Frame) → Fits sc m
    → is_task sc t ≡ true → (tasked m t).frame ≡ Some f → n.tasks ≡ m.tasks → OptionFits g
    → (f.forming ≡ None → Formless g) → Own sc t m (with_frame n t g)
framed_own sc t m n f g h task e same fits less = record {
  fits = own_frame n t g fits;
  sent = sent_begun sc t m (with_frame n t g) f h.sends task e begun;
  exits = kept_exit sc t m (with_frame n t g) f h.exits task e (λ none. put_formless n t g (less none)) begun;
  tasks = framed_tasks n t g ∙ ap length same;
}
  where
    begun : (tasked (with_frame n t g) t).begun ≡ (tasked m t).begun
    begun = framed_begun n t g ∙ ap (λ xs. (at_task xs t idle).begun) same

refer_own : (sc : Scenario) (t : ℕ) (m : Machine) (f : Frame) (v : Handles) (call : Call) (q : Place) → Fits sc m
    → is_task sc t ≡ true → (tasked m t).frame ≡ Some f → f.forming ≡ Some v → f.lets ≡ []
    → Own sc t m (do_refer sc.version m t f v call q)
refer_own sc t m f v call q h task e forming lets = record {
  fits = own_frame backed t (closed after) (closed_fits after
      (plain_fits after (moved_same sc.version call (referred f v q)).receipt
      (still_open sc.version call f v q (still_going f v (fits_at sc t m f h e) forming))
      (subst (λ xs. length xs ≤ most_lets)
      (sym (moved_same sc.version call (referred f v q)).lets) (item_fits f.lets q.key (of_key q.key v) lets))));
  sent = sent_begun sc t m (do_refer sc.version m t f v call q) f h.sends task e begun;
  exits = formed_exit sc t m (do_refer sc.version m t f v call q) f v h.exits task e forming begun;
  tasks = framed_tasks backed t (closed after) ∙ length-map m.tasks (on_task (back_claim q));
}
  where
    after : Frame
    after = moved sc.version call (referred f v q)

    backed : Machine
    backed = on_claims (back_claim q) m

    begun : (tasked (do_refer sc.version m t f v call q) t).begun ≡ (tasked m t).begun
    begun = framed_begun backed t (closed after) ∙ claims_begun (back_claim q) t m

no_receipt_of : (f : Frame) (c : Claim) → FrameFits f → f.claim ≡ Some c → f.receipt ≡ None
no_receipt_of f c h e = by_receipt f.receipt refl
  where
    by_receipt : (r : Option Place) → f.receipt ≡ r → f.receipt ≡ None
    by_receipt None g = g
    by_receipt (Some q) g = let k : None ≡ Some c = sym (h.claim (ap is_some g)) ∙ e in cc

let_go_own : (sc : Scenario) (t : ℕ) (m : Machine) (f : Frame) (q : Place) (rest : List Place) → Fits sc m
    → is_task sc t ≡ true → (tasked m t).frame ≡ Some f → f.lets ≡ q ∷ rest → f.receipt ≡ None
    → Own sc t m (do_let_go m t f q rest)
let_go_own sc t m f q rest h task e lets receipt =
    of_framed (framed_own sc t m m f (closed after) h task e refl
    (closed_fits after (plain_fits after receipt fits.answered
    (fewer rest (subst (λ xs. length xs ≤ most_lets) lets fits.few)))) (closed_formless after))
  where
    after : Frame
    after = record f { lets = rest; claim = claim_if (with_frame m t (Some (record f { lets = rest }))) q }

    fits : FrameFits f
    fits = fits_at sc t m f h e

    of_framed : Own sc t m (with_frame m t (closed after)) → Own sc t m (do_let_go m t f q rest)
    of_framed o = record { fits = o.fits; sent = o.sent; exits = o.exits; tasks = o.tasks }

    fewer : (rest : List Place) → length (q ∷ rest) ≤ most_lets → length rest ≤ most_lets
    fewer rest g = omega arith

-- a frame with another claim, whose place is in no receipt
claimed_fits : (f : Frame) (c : Claim) (d : Option Claim) → FrameFits f → f.claim ≡ Some c
    → FrameFits (record f { claim = d })
claimed_fits f c d h claim = plain_fits (record f { claim = d }) (no_receipt_of f c h claim) h.answered h.few

asked_own : (sc : Scenario) (t : ℕ) (m : Machine) (f : Frame) (c : Claim) (b : Bool) → Fits sc m
    → is_task sc t ≡ true → (tasked m t).frame ≡ Some f → f.claim ≡ Some c
    → Own sc t m (tallied one_ask (if b then with_frame m t (with_answer f c false) else with_frame
    (released m c.place) t (with_answer f c true)))
asked_own sc t m f c true h task e claim = of_framed (framed_own sc t m m f (with_answer f c false) h task e refl
    (claimed_fits f c (Some (record c { answer = Some false })) (fits_at sc t m f h e) claim) (λ none. none))
  where
    of_framed : Own sc t m (with_frame m t (with_answer f c false))
        → Own sc t m (tallied one_ask (with_frame m t (with_answer f c false)))
    of_framed o = record { fits = o.fits; sent = o.sent; exits = o.exits; tasks = o.tasks }
asked_own sc t m f c false h task e claim =
    of_framed (framed_own sc t m (released m c.place) f (with_answer f c true) h task e refl
    (claimed_fits f c (Some (record c { answer = Some true })) (fits_at sc t m f h e) claim) (λ none. none))
  where
    of_framed : Own sc t m (with_frame (released m c.place) t (with_answer f c true))
        → Own sc t m (tallied one_ask (with_frame (released m c.place) t (with_answer f c true)))
    of_framed o = record { fits = o.fits; sent = o.sent; exits = o.exits; tasks = o.tasks }

recheck_own : (sc : Scenario) (t : ℕ) (m : Machine) (f : Frame) (c : Claim) → Fits sc m
    → is_task sc t ≡ true → (tasked m t).frame ≡ Some f → f.claim ≡ Some c → Own sc t m (do_recheck m t f c)
recheck_own sc t m f c h task e claim =
    framed_own sc t m m f (closed (record f { claim = again m c })) h task e refl
    (closed_fits (record f { claim = again m c }) (claimed_fits f c (again m c) (fits_at sc t m f h e) claim))
    (closed_formless (record f { claim = again m c }))

own_cases : (sc : Scenario) (t : ℕ) (m : Machine) → Fits sc m → is_task sc t ≡ true → Cases sc t m (λ n. Own sc t m n)
own_cases sc t m h task = record {
  plain = λ n p. record { fits = p.own; sent = p.sent; exits = p.exits; tasks = p.tasks };
  make = λ f v call k x e forming current_ receipt claim lets eq. made_own sc t m f v k x
      (handle_of m.live k x) h task e forming claim lets;
  refer = λ f v call q e forming current_ receipt. refer_own sc t m f v call q h task e forming
      ((fits_at sc t m f h e).lets (ap is_some receipt));
  let_go = λ f q rest e lets receipt claim. let_go_own sc t m f q rest h task e lets receipt;
  ask = λ f c e claim a. asked_own sc t m f c c.raced h task e claim;
  recheck = λ f c e claim a. recheck_own sc t m f c h task e claim;
}

-- another task is as it was but for its queue and the flags of its claim
other_fits : (u : ℕ) (m n : Machine) → Leaves u m n → OptionFits (tasked m u).frame → OptionFits (tasked n u).frame
other_fits u m n l h =
    fits_on still_claim (tasked n u).frame (subst OptionFits (sym (ap (λ (y : Tasked). y.frame) l.task))
    (on_fits still_claim (tasked m u).frame h))

some_on : (g : Claim → Claim) (o : Option Frame) (f : Frame) → on_frame g o ≡ Some f → is_some o ≡ true
some_on g None f e = cc
some_on g (Some x) f e = refl

other_sent : (sc : Scenario) (u : ℕ) (m n : Machine) → Leaves u m n → is_task sc u ≡ true → SendsToTasks sc m
    → SentTo sc u n
other_sent sc u m n l task sends f to moving name id e call =
    of_frame (tasked m u).frame refl (some_on still_claim (tasked m u).frame
    (record f { claim = on_claim still_claim f.claim }) (sym (ap (λ (y : Tasked). y.frame) l.task)
    ∙ ap (on_frame still_claim) e))
  where
    of_frame : (o : Option Frame) → (tasked m u).frame ≡ o → is_some o ≡ true → is_task sc to ≡ true
    of_frame None g s = let k : false ≡ true = s in cc
    of_frame (Some x) g s = sends u x to moving name id task g
        (sym (ap (λ (y : Tasked). nth_call sc u y.begun) l.task) ∙ call)

other_exit : (sc : Scenario) (u : ℕ) (m n : Machine) → Leaves u m n → is_task sc u ≡ true → ExitsFormNothing sc m
    → ExitAt sc u n
other_exit sc u m n l task exits call =
    less_on still_claim (tasked n u).frame (subst Formless (sym (ap (λ (y : Tasked). y.frame) l.task))
    (on_less still_claim (tasked m u).frame (of_frame (tasked m u).frame refl)))
  where
    of_frame : (o : Option Frame) → (tasked m u).frame ≡ o → Formless o
    of_frame None g = tt
    of_frame (Some x) g = exits u x task g (sym (ap (λ (y : Tasked). nth_call sc u y.begun) l.task) ∙ call)

    on_less : (g : Claim → Claim) (o : Option Frame) → Formless o → Formless (on_frame g o)
    on_less g None h = tt
    on_less g (Some x) h = h

    less_on : (g : Claim → Claim) (o : Option Frame) → Formless (on_frame g o) → Formless o
    less_on g None h = tt
    less_on g (Some x) h = h

-- the facts of tasks after an event
pub record TasksFit (sc : Scenario) (n : Machine) : Type 0 where
  pub frames : (u : ℕ) → OptionFits (tasked n u).frame
  pub sends : SendsToTasks sc n
  pub exits : ExitsFormNothing sc n
  pub tasks : length n.tasks ≡ length sc.flags

other_task : (a b : ℕ) → (a == b) ≡ false → a ≢ b
other_task a b e = grind arith

tasks_of : (sc : Scenario) (t : ℕ) (m n : Machine) → Fits sc m → Own sc t m n
    → ((u : ℕ) → u ≢ t → Leaves u m n) → TasksFit sc n
tasks_of sc t m n h own others = record {
  frames = λ u. cases_bool (u == t) (OptionFits (tasked n u).frame)
      (λ same. subst (λ i. OptionFits (tasked n i).frame) (sym (number_eq u t same)) own.fits)
      (λ other. other_fits u m n (others u (other_task u t other)) (h.frames u));
  sends = λ u f to moving name id task e call. cases_bool (u == t) (is_task sc to ≡ true)
      (λ same. subst (λ i. SentTo sc i n) (sym (number_eq u t same)) own.sent f to moving name id e call)
      (λ other. other_sent sc u m n (others u (other_task u t other)) task h.sends f to moving name id e call);
  exits = λ u f task e call. frame_formless f (tasked n u).frame e (cases_bool (u == t) (Formless (tasked n u).frame)
      (λ same. subst (λ i. ExitAt sc i n) (sym (number_eq u t same)) own.exits call)
      (λ other. other_exit sc u m n (others u (other_task u t other)) task h.exits call));
  tasks = own.tasks ∙ h.tasks;
}

-- every event keeps the facts of tasks
pub event_tasks : (sc : Scenario) (want : Bool) (t : ℕ) (m n : Machine) → Fits sc m → event sc want m t ≡ Some n
    → TasksFit sc n
event_tasks sc want t m n h e =
    tasks_of sc t m n h (subst (May (λ o. Own sc t m o)) e (event_case sc want t m (λ o. Own sc t m o) h
    (own_cases sc t m h))) (λ u apart. leaves_of sc want t u m n apart e)

-- and so does an event that leaves values, handles and tally, of one task alone
pub plain_tasks : (sc : Scenario) (t : ℕ) (m n : Machine) → Fits sc m → Plain sc t m n
    → ((u : ℕ) → u ≢ t → Leaves u m n) → TasksFit sc n
plain_tasks sc t m n h p = tasks_of sc t m n h
    (record { fits = p.own; sent = p.sent; exits = p.exits; tasks = p.tasks })
