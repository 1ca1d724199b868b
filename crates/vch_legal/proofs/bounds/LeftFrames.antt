-- Each event of a frame lowers what is left.
use Rattle.std.proofs.Common.{◌≡◌, ℕ, suc, ◌+◌, ◌*◌, ◌<◌, ◌≤◌, Bool, List, [], ◌∷◌, ◌++◌, refl, true, false, not, ◌&&◌, arith, sym, ap, ◌∙◌, subst, length, length-append, drop, Some, None, Option, Ok, Err, Result}
use Rattle.std.specs.Prelude.{if◌then◌else◌, is_some, ℤ}
use Rattle.vch_base.specs.declared.codes.TheConstants.{KERN_INVALID_ARGUMENT}
use Rattle.vch_base.specs.declared.key.Key.{Key}
use Rattle.vch_base.specs.Keys.{every_key}
use Rattle.vch_recipe.specs.Recipes.{First, One, End, HeaderCut, ContentCut, first_of}
use Rattle.vch_recipe.specs.declared.recipe.Recipe.{Recipe}
use Rattle.vch_model.specs.declared.call.Call.{Call}
use Rattle.vch_model.specs.declared.call.Call.TheVariants as calls
use Rattle.vch_model.specs.declared.lists.Scenario.{Scenario}
use Rattle.vch_machine.specs.State.{Handles, Place, Claim, Frame, Machine, tasked, is_held}
use Rattle.vch_machine.specs.Frames.{closed, with_frame, tallied, refuse}
use Rattle.vch_machine.specs.Leaving.{claim_if, new_claim, do_let_go, released, with_answer, one_ask, do_ask, again, do_recheck}
use Rattle.vch_machine.specs.Naming.{option_places}
use Rattle.vch_machine.specs.Working.{WorkDone, work_first, work_done, size_of}
use Rattle.vch_legal.specs.Facts.{most_lets}
use Rattle.vch_legal.specs.Left.{event_left, steps_left, claim_left, receipt_left, answer_left, steps_with, frame_left}
use Rattle.vch_legal.proofs.tasks.OwnTask.{option_few, work_few}
use Rattle.vch_legal.proofs.forming.Forming.{rest_of}
use Rattle.vch_legal.proofs.forming.Creates.{behind}
use Rattle.vch_legal.proofs.bounds.LeftTasks.{Left, call_now, frame_set, closed_left}
use Rattle.vch_legal.proofs.tasks.TaskLists.{IsAmong}

-- a task with a frame
pub record Framed (t : ℕ) (m : Machine) (f : Frame) : Type 0 where
  pub among : IsAmong t m.tasks
  pub frame : (tasked m t).frame ≡ Some f

abbrev pub Lower : Scenario → Machine → Machine → Type 0
Lower sc m n = Left sc n + 1 ≤ Left sc m

-- what is left of a frame that a task may have
abbrev pub now_left : Scenario → ℕ → Machine → Option Frame → ℕ
now_left sc t m g = frame_left sc.version (call_now sc t m) g

-- a frame with less left
pub framed_less : (sc : Scenario) (t n : ℕ) (m : Machine) (f : Frame) (g : Option Frame) → Framed t m f
    → now_left sc t m g + n ≤ now_left sc t m (Some f) → Left sc (with_frame m t g) + n ≤ Left sc m
framed_less sc t n m f g c h =
    let a : Left sc (with_frame m t g) + now_left sc t m (tasked m t).frame ≡ Left sc m + now_left sc t m g =
    frame_set sc t m g c.among in
    let b : now_left sc t m (tasked m t).frame ≡ now_left sc t m (Some f) = ap (now_left sc t m) c.frame in
    less (Left sc (with_frame m t g)) _ (Left sc m) _ _ n a b h
  where
    less : (a b c d e n : ℕ) → a + b ≡ c + d → b ≡ e → d + n ≤ e → a + n ≤ c
    less a b c d e n p q r = omega arith

pub closed_less : (sc : Scenario) (t n : ℕ) (m : Machine) (f g : Frame) → Framed t m f
    → now_left sc t m (Some g) + n ≤ now_left sc t m (Some f) → Left sc (with_frame m t (closed g)) + n ≤ Left sc m
closed_less sc t n m f g c h = framed_less sc t n m f (closed g) c
    (subst (λ k. k + n ≤ now_left sc t m (Some f)) (sym (closed_left sc.version (call_now sc t m) g)) h)

-- LetGo
new_left : (m n : Machine) (q : Place) → claim_left (claim_if m q) ≤ 2
new_left m n q = by_test _
  where
    by_test : (b : Bool) → claim_left (if b then None else Some (new_claim m q)) ≤ 2
    by_test true = omega arith
    by_test false = omega arith

pub let_go_lower : (sc : Scenario) (t : ℕ) (m : Machine) (f : Frame) (q : Place) (rest : List Place) → Framed t m f
    → f.lets ≡ q ∷ rest → f.claim ≡ None → Lower sc m (do_let_go m t f q rest)
let_go_lower sc t m f q rest c lets claim =
    closed_less sc t 1 m f (record f { lets = rest; claim = next }) c
    (let a : claim_left next ≤ 2 = new_left (with_frame m t (Some (record f { lets = rest }))) m q in
    let b : length f.lets ≡ suc (length rest) = ap length lets in
    let d : claim_left f.claim ≡ 0 = ap claim_left claim in omega arith)
  where
    next : Option Claim
    next = claim_if (with_frame m t (Some (record f { lets = rest }))) q

-- Recheck
again_left : (m : Machine) (c : Claim) → is_some c.answer ≡ true → claim_left (again m c) + 1 ≤ claim_left (Some c)
again_left m c e = by_back c.back (is_held m c.place)
  where
    answered : (b : Bool) → is_some c.answer ≡ true → 1 + (if b then 3 else 0) ≤ (if is_some c.answer then 1 else 2) +
        (if b then 3 else 0)
    answered b e = rw e (omega arith)

    by_back : (b h : Bool) → claim_left (if b && not h then Some (new_claim m c.place) else None) + 1 ≤
        (if is_some c.answer then 1 else 2) + (if b then 3 else 0)
    by_back true true = let a : 1 + 3 ≤ (if is_some c.answer then 1 else 2) + 3 = answered true e in omega arith
    by_back true false = let a : 1 + 3 ≤ (if is_some c.answer then 1 else 2) + 3 = answered true e in omega arith
    by_back false h = let a : 1 + 0 ≤ (if is_some c.answer then 1 else 2) + 0 = answered false e in omega arith

pub recheck_lower : (sc : Scenario) (t : ℕ) (m : Machine) (f : Frame) (c : Claim) → Framed t m f → f.claim ≡ Some c
    → is_some c.answer ≡ true → Lower sc m (do_recheck m t f c)
recheck_lower sc t m f c k claim a =
    closed_less sc t 1 m f (record f { claim = again m c }) k
    (let i : claim_left (again m c) + 1 ≤ claim_left (Some c) = again_left m c a in
    let j : claim_left f.claim ≡ claim_left (Some c) = ap claim_left claim in omega arith)

-- Ask
asked_left : (c : Claim) (agreed : Bool) → is_some c.answer ≡ false
    → claim_left (Some (record c { answer = Some agreed })) + 1 ≤ claim_left (Some c)
asked_left c agreed e = more (if c.back then 3 else 0) e
  where
    more : (b : ℕ) → is_some c.answer ≡ false → 1 + b + 1 ≤ (if is_some c.answer then 1 else 2) + b
    more b e = rw e (omega arith)

pub ask_lower : (sc : Scenario) (t : ℕ) (m : Machine) (f : Frame) (c : Claim) → Framed t m f → f.claim ≡ Some c
    → is_some c.answer ≡ false → Lower sc m (do_ask m t f c)
ask_lower sc t m f c k claim a = by_raced c.raced
  where
    fewer : (agreed : Bool) → now_left sc t m
        (Some (record f { claim = Some (record c { answer = Some agreed }) })) + 1 ≤ now_left sc t m (Some f)
    fewer agreed =
        let i : claim_left (Some (record c { answer = Some agreed })) + 1 ≤ claim_left (Some c) = asked_left c agreed
        a in
        let j : claim_left f.claim ≡ claim_left (Some c) = ap claim_left claim in omega arith

    by_raced : (b : Bool) → Lower sc m (tallied one_ask
        (if b then with_frame m t (with_answer f c false) else with_frame (released m c.place) t
        (with_answer f c true)))
    by_raced true = framed_less sc t 1 m f (with_answer f c false) k (fewer false)
    by_raced false = framed_less sc t 1 (released m c.place) f (with_answer f c true)
        (record { among = k.among; frame = k.frame }) (fewer true)

-- a call that is under way has an event left, and one more for what it may give
steps_some : (version : ℕ) (c : Call) (place : ℕ) (ks : List Key) (r : Option Place)
    → 2 ≤ steps_with version (Some c) place ks r
steps_some version (calls.Create bytes) place ks r = omega arith
steps_some version (calls.GiveUp name) place ks r = omega arith
steps_some version (calls.Extract name key) place ks r = omega arith
steps_some version (calls.Recipes name) place ks r = omega arith
steps_some version (calls.Send to moving name id) place ks r = omega arith
steps_some version calls.Recv place ks r = omega arith
steps_some version (calls.Extern name adding n) place ks r = omega arith
steps_some version (calls.Charge name n) place ks r = omega arith
steps_some version calls.Ledger place ks r = omega arith
steps_some version calls.Assertions place ks r = omega arith
steps_some version calls.Live place ks r = omega arith
steps_some version calls.Exit place ks r = omega arith

-- a frame whose call is not answered
pub record Calls (sc : Scenario) (t : ℕ) (m : Machine) (f : Frame) (call : Call) : Type 0 where
  pub framed : Framed t m f
  pub unanswered : f.answered ≡ false
  pub there : call_now sc t m ≡ Some call

pub steps_at : (sc : Scenario) (t : ℕ) (m : Machine) (f g : Frame) (call : Call) (r : Option Place)
    → Calls sc t m f call
    → g.answered ≡ f.answered → g.receipt ≡ r
    → answer_left g.answered (steps_with sc.version (call_now sc t m) g.at_byte g.keys g.receipt)
    ≡ event_left * steps_with sc.version (Some call) g.at_byte g.keys r
steps_at sc t m f g call r c same receipt =
    ap (λ b. answer_left b (steps_with sc.version (call_now sc t m) g.at_byte g.keys g.receipt)) (same ∙ c.unanswered)
    ∙ (ap (λ o. event_left * steps_with sc.version o g.at_byte g.keys g.receipt) c.there
    ∙ ap (λ q. event_left * steps_with sc.version (Some call) g.at_byte g.keys q) receipt)

-- the call is answered, and some handles are to be let go; what is left falls by more than a name or a message has
pub over_lower : (sc : Scenario) (t : ℕ) (m : Machine) (f g : Frame) (call : Call) (lets : List Place)
    → Calls sc t m f call → g.answered ≡ true → g.receipt ≡ f.receipt → g.claim ≡ f.claim → g.lets ≡ f.lets ++ lets
    → length lets ≤ most_lets → Left sc (with_frame m t (closed g)) + (event_left + 2) ≤ Left sc m
over_lower sc t m f g call lets c answered receipt claim added few =
    closed_less sc t (event_left + 2) m f g c.framed
    (let a : length g.lets ≡ length f.lets + length lets = ap length added ∙ length-append f.lets lets in
    let b : answer_left f.answered (steps_with sc.version (call_now sc t m) f.at_byte f.keys f.receipt)
    ≡ event_left * steps_with sc.version (Some call) f.at_byte f.keys f.receipt =
    steps_at sc t m f f call f.receipt c refl refl in
    let d : 2 ≤ steps_with sc.version (Some call) f.at_byte f.keys f.receipt =
    steps_some sc.version call f.at_byte f.keys f.receipt in
    let e : answer_left g.answered (steps_with sc.version (call_now sc t m) g.at_byte g.keys g.receipt) ≡ 0 =
    ap (λ q. answer_left q (steps_with sc.version (call_now sc t m) g.at_byte g.keys g.receipt)) answered in
    let h : receipt_left g.receipt ≡ receipt_left f.receipt = ap receipt_left receipt in
    let i : claim_left g.claim ≡ claim_left f.claim = ap claim_left claim in
    over _ _ _ _ _ _ _ _ _ (length lets) a b d e h i few)
  where
    over : (gs fs gr fr gl fl gc fc steps n : ℕ) → gl ≡ fl + n → fs ≡ event_left * steps → 2 ≤ steps → gs ≡ 0 → gr ≡ fr
        → gc ≡ fc → n ≤ most_lets → gs + gr + 3 * gl + gc + (event_left + 2) ≤ fs + fr + 3 * fl + fc
    over gs fs gr fr gl fl gc fc steps n a b d e h i few = omega arith

pub refuse_lower : (sc : Scenario) (t : ℕ) (m : Machine) (f : Frame) (call : Call) (code : ℤ) → Calls sc t m f call
    → Lower sc m (refuse m t f call code)
refuse_lower sc t m f call code c =
    less _ _ (over_lower sc t m f
    (record f { forming = None; answered = true; keys = []; lets = f.lets ++ option_places f.forming })
    call (option_places f.forming) c refl refl refl refl (few _ (option_few f.forming)))
  where
    few : (n : ℕ) → n ≤ length every_key → n ≤ most_lets
    few n h = omega arith

    less : (a b : ℕ) → a + (event_left + 2) ≤ b → a + 1 ≤ b
    less a b h = omega arith

-- the call goes on with fewer steps left
pub on_lower : (sc : Scenario) (t : ℕ) (m : Machine) (f g : Frame) (call : Call) → Calls sc t m f call
    → g.answered ≡ f.answered → g.receipt ≡ None → f.receipt ≡ None → g.claim ≡ f.claim
    → length g.lets ≤ length f.lets + most_lets → steps_left sc.version (Some call) g.at_byte g.keys + 1 ≤
    steps_left sc.version (Some call) f.at_byte f.keys → Lower sc m (with_frame m t (Some g))
on_lower sc t m f g call c same gone none claim few fewer =
    framed_less sc t 1 m f (Some g) c.framed
    (let a : answer_left f.answered (steps_with sc.version (call_now sc t m) f.at_byte f.keys f.receipt)
    ≡ event_left * steps_left sc.version (Some call) f.at_byte f.keys = steps_at sc t m f f call None c refl none in
    let b : answer_left g.answered (steps_with sc.version (call_now sc t m) g.at_byte g.keys g.receipt)
    ≡ event_left * steps_left sc.version (Some call) g.at_byte g.keys = steps_at sc t m f g call None c same gone in
    let d : receipt_left g.receipt ≡ receipt_left f.receipt = ap receipt_left gone ∙ sym (ap receipt_left none) in
    let e : claim_left g.claim ≡ claim_left f.claim = ap claim_left claim in
    on _ _ _ _ _ _ _ _ _ _ a b d e few fewer)
  where
    on : (gs fs gr fr gl fl gc fc k n : ℕ) → fs ≡ event_left * n → gs ≡ event_left * k → gr ≡ fr → gc ≡ fc
        → gl ≤ fl + most_lets → k + 1 ≤ n → gs + gr + 3 * gl + gc + 1 ≤ fs + fr + 3 * fl + fc
    on gs fs gr fr gl fl gc fc k n a b d e few fewer = omega arith

-- Work
pub work_lower : (sc : Scenario) (t : ℕ) (m : Machine) (f : Frame) (v : Handles) (bytes : List ℕ)
    → Calls sc t m f (calls.Create bytes) → f.receipt ≡ None → f.lets ≡ []
    → Lower sc m (work_done m t f (calls.Create bytes) (size_of (first_of (drop f.at_byte bytes)))
    (work_first sc.version (tasked m t).names (first_of (drop f.at_byte bytes)) v))
work_lower sc t m f v bytes c receipt lets = by_first (first_of (drop f.at_byte bytes)) refl
  where
    by_result : (r : Recipe) (rest : List ℕ) (x : Result WorkDone ℤ) → first_of (drop f.at_byte bytes) ≡ One r rest
        → work_first sc.version (tasked m t).names (One r rest) v ≡ x → Lower sc m
        (work_done m t f (calls.Create bytes) (16 + length r.content) x)
    by_result r rest (Err code) e g = refuse_lower sc t m f (calls.Create bytes) code c
    by_result r rest (Ok w) e g =
        on_lower sc t m f (record f {
          forming = Some w.forming;
          at_byte = f.at_byte + (16 + length r.content);
          lets =
              f.lets ++ w.left;
        }) (calls.Create bytes) c refl receipt receipt refl
        (more (length (f.lets ++ w.left)) (length f.lets)
        (work_few sc.version (tasked m t).names (One r rest) v f.lets w g lets))
        (let a : length (drop (f.at_byte + (16 + length r.content)) bytes)
        ≡ length rest = ap length (behind f.at_byte bytes r rest e) in
        let b : length rest < length (drop f.at_byte bytes) = (rest_of (drop f.at_byte bytes) r rest e).shorter in
        fewer _ _ _ _ a b)
      where
        more : (n k : ℕ) → n ≤ most_lets → n ≤ k + most_lets
        more n k h = omega arith

        fewer : (n k o r : ℕ) → n ≡ k → k < o → 2 + n + r + 1 ≤ 2 + o + r
        fewer n k o r a b = omega arith

    by_first : (first : First) → first_of (drop f.at_byte bytes) ≡ first
        → Lower sc m
        (work_done m t f (calls.Create bytes) (size_of first) (work_first sc.version (tasked m t).names first v))
    by_first (One r rest) e = by_result r rest (work_first sc.version (tasked m t).names (One r rest) v) e refl
    by_first End e = refuse_lower sc t m f (calls.Create bytes) KERN_INVALID_ARGUMENT c
    by_first (HeaderCut left) e = refuse_lower sc t m f (calls.Create bytes) KERN_INVALID_ARGUMENT c
    by_first (ContentCut wanted left) e = refuse_lower sc t m f (calls.Create bytes) KERN_INVALID_ARGUMENT c
