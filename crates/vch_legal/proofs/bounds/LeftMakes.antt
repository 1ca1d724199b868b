-- Make and Refer lower what is left.
use Rattle.std.proofs.Common.{◌≡◌, ℕ, ◌+◌, ◌*◌, ◌≤◌, Bool, List, [], ◌∷◌, ◌++◌, refl, true, false, not, ◌&&◌, arith, sym, ap, ◌∙◌, subst, length, length-append, drop, Some, None, Option, Ok, Err, Result}
use Rattle.std.proofs.lemmas.List.{length-map}
use Rattle.std.specs.Prelude.{if◌then◌else◌, is_some, ◌==◌, ℤ}
use Rattle.vch_base.specs.declared.codes.TheConstants.{KERN_RESOURCE_SHORTAGE}
use Rattle.vch_base.specs.declared.key.Key.{Key}
use Rattle.vch_base.specs.declared.key.Key.TheVariants as keys
use Rattle.vch_base.specs.declared.key.TheConstants.{ALL_KEYS}
use Rattle.vch_base.specs.Keyed.{of_key, with_key}
use Rattle.vch_base.specs.Keys.{every_key}
use Rattle.vch_base.specs.declared.value.Value.{Value}
use Rattle.vch_recipe.specs.Recipes.{First, One, End, HeaderCut, ContentCut, first_of}
use Rattle.vch_recipe.specs.declared.recipe.Recipe.{Recipe}
use Rattle.vch_model.specs.declared.call.Call.{Call}
use Rattle.vch_model.specs.declared.call.Call.TheVariants as calls
use Rattle.vch_model.specs.declared.lists.Scenario.{Scenario}
use Rattle.vch_machine.specs.State.{Handles, Place, Living, Named, Frame, Tasked, Machine, idle, tasked, handle_of, is_empty}
use Rattle.vch_machine.specs.Frames.{closed, with_frame, tallied}
use Rattle.vch_machine.specs.Making.{Asked, asked_by, asked_first, asked_transfer, keys_left, tail_keys, fresh_handle, minted, back_claim, on_claim, on_frame, on_task, on_claims, given_receipt, made_at, make_done, make_asked, do_make, one_refer, do_refer}
use Rattle.vch_machine.specs.Naming.{item}
use Rattle.vch_machine.specs.Next.{nth_call}
use Rattle.vch_legal.specs.Facts.{Fits, OptionFits}
use Rattle.vch_legal.specs.Tie.{moved_place, moved_keys, moved_place_first, moved_keys_first}
use Rattle.vch_legal.specs.Left.{event_left, record_keys, steps_left, claim_left, receipt_left, answer_left, steps_with}
use Rattle.vch_legal.proofs.tasks.TaskItems.{at_map}
use Rattle.vch_legal.proofs.forming.Forming.{rest_of}
use Rattle.vch_legal.proofs.forming.Creates.{behind}
use Rattle.vch_legal.proofs.steps.Nexts.{at_keys, moved_is}
use Rattle.vch_legal.proofs.bounds.LeftTasks.{Left, call_now, race_all, back_all}
use Rattle.vch_legal.proofs.bounds.LeftFrames.{Lower, Calls, now_left, framed_less, closed_less, steps_at, refuse_lower, on_lower}

abbrev pub MayLower : Scenario → Machine → Option Machine → Type 0
MayLower sc m None = Unit {0}
MayLower sc m (Some n) = Lower sc m n

pub may_lower_if : (sc : Scenario) (m : Machine) (b : Bool) (x y : Option Machine) → MayLower sc m x → MayLower sc m y
    → MayLower sc m (if b then x else y)
may_lower_if sc m true x y h k = h
may_lower_if sc m false x y h k = k

-- a key that was asked leaves fewer steps
one_less_key : (ks : List Key) → not (is_empty (tail_keys ks)) ≡ true → length (tail_keys ks) + 1 ≤ length ks
one_less_key [] e = cc
one_less_key (k ∷ ks) e = omega arith

some_counts : (version : ℕ) (ks : List Key) → not (is_empty ks) ≡ true → record_keys version ks ≡ length ks
some_counts version [] e = cc
some_counts version (k ∷ ks) e = refl

left_counts : (version : ℕ) (ks : List Key) → length (keys_left version ks) ≡ record_keys version ks
left_counts version [] = refl
left_counts version (k ∷ ks) = refl

fewer_keys : (version : ℕ) (ks : List Key) → not (is_empty (tail_keys (keys_left version ks))) ≡ true
    → record_keys version (tail_keys (keys_left version ks)) + 1 ≤ record_keys version ks
fewer_keys version ks e =
    less _ _ _ _ (some_counts version (tail_keys (keys_left version ks)) e) (one_less_key (keys_left version ks) e)
    (left_counts version ks)
  where
    less : (a b c d : ℕ) → a ≡ b → b + 1 ≤ c → c ≡ d → a + 1 ≤ d
    less a b c d e f g = omega arith

some_keys : (version : ℕ) (ks : List Key) → 1 ≤ record_keys version ks
some_keys version [] = omega arith
some_keys version (k ∷ ks) = omega arith

-- a version has no more managed keys than there are keys
pub few_managed : (version : ℕ) → record_keys version [] ≤ length every_key
few_managed version = by_test (version == 2)
  where
    by_test : (b : Bool)
        → length (keys.Importance ∷ keys.Bank ∷ keys.User ∷ (if b then keys.Test ∷ [] else [])) ≤ length every_key
    by_test true = omega arith
    by_test false = omega arith

-- the steps of a create at a place, with keys left
abbrev create_left : ℕ → List ℕ → ℕ → List Key → ℕ
create_left version bytes place ks = 2 + length (drop place bytes) + record_keys version ks

record_steps : (version : ℕ) (bytes : List ℕ) (place : ℕ) (ks : List Key) (r : Recipe) (rest : List ℕ)
    → first_of (drop place bytes) ≡ One r rest
    → create_left version bytes (moved_place_first version ks place (One r rest))
    (moved_keys_first version ks (One r rest)) + 1
    ≤ create_left version bytes place ks
record_steps version bytes place ks r rest e =
    by_test ((r.key == ALL_KEYS) && not (is_empty (tail_keys (keys_left version ks)))) (second (r.key == ALL_KEYS) _)
  where
    second : (a b : Bool) → (a && b) ≡ true → b ≡ true
    second a b h = grind arith

    same_place : (n a b : ℕ) → a + 1 ≤ b → 2 + n + a + 1 ≤ 2 + n + b
    same_place n a b h = omega arith

    next_place : (n k o a b : ℕ) → n ≡ k → k + 16 ≤ o → a ≤ length every_key → 1 ≤ b → 2 + n + a + 1 ≤ 2 + o + b
    next_place n k o a b e h i j = omega arith

    by_test : (b : Bool) → (b ≡ true → not (is_empty (tail_keys (keys_left version ks))) ≡ true)
        → create_left version bytes (if b then place else place + (16 + length r.content))
        (if b then tail_keys (keys_left version ks) else []) + 1 ≤ create_left version bytes place ks
    by_test true h = same_place _ _ _ (fewer_keys version ks (h refl))
    by_test false h =
        next_place _ _ _ _ _ (ap length (behind place bytes r rest e)) ((rest_of (drop place bytes) r rest e).header)
        (few_managed version) (some_keys version ks)

record_there : (version : ℕ) (live : List Living) (names : List Named) (t : ℕ) (ks : List Key) (v : Handles)
    (first : First) (a : Asked) → asked_first version live names t ks v first ≡ Some a
    → (r : Recipe) × (rest : List ℕ) × (first ≡ One r rest)
record_there version live names t ks v (One r rest) a e = (r, rest, refl)
record_there version live names t ks v End a e = cc
record_there version live names t ks v (HeaderCut left) a e = cc
record_there version live names t ks v (ContentCut wanted left) a e = cc

create_steps : (version : ℕ) (bytes : List ℕ) (place : ℕ) (ks : List Key) (first : First)
    → first_of (drop place bytes) ≡ first → (r : Recipe) × (rest : List ℕ) × (first ≡ One r rest)
    → create_left version bytes (moved_place_first version ks place first) (moved_keys_first version ks first) + 1
    ≤ create_left version bytes place ks
create_steps version bytes place ks first e (r, rest, g) =
    subst (λ (x : First). create_left version bytes (moved_place_first version ks place x)
    (moved_keys_first version ks x) + 1
    ≤ create_left version bytes place ks) (sym g) (record_steps version bytes place ks r rest (e ∙ g))

transfer_steps : (live : List Living) (g : Value → Value) (ks : List Key) (v : Handles) (a : Asked)
    → asked_transfer live g ks v ≡ Some a → 2 + length (tail_keys ks) + 1 ≤ 2 + length ks
transfer_steps live g [] v a e = cc
transfer_steps live g (k ∷ ks) v a e = omega arith

-- the key that is asked leaves fewer steps of the call
abbrev pub Fewer : ℕ → Call → Frame → Type 0
Fewer version call f = steps_left version (Some call) (moved_place version call f.at_byte f.keys)
    (moved_keys version call f.at_byte f.keys) + 1 ≤ steps_left version (Some call) f.at_byte f.keys

asked_steps : (sc : Scenario) (t : ℕ) (m : Machine) (f : Frame) (v : Handles) (call : Call) (a : Asked)
    → asked_by sc m t f v call ≡ Some a → Fewer sc.version call f
asked_steps sc t m f v (calls.Create bytes) a e = create_steps sc.version bytes f.at_byte f.keys
    (first_of (drop f.at_byte bytes)) refl (record_there sc.version m.live (tasked m t).names t f.keys v
    (first_of (drop f.at_byte bytes)) a e)
asked_steps sc t m f v (calls.Send to moving name id) a e = transfer_steps m.live _ f.keys v a e
asked_steps sc t m f v calls.Recv a e = transfer_steps m.live _ f.keys v a e
asked_steps sc t m f v (calls.GiveUp name) a e = cc
asked_steps sc t m f v (calls.Extract name key) a e = cc
asked_steps sc t m f v (calls.Recipes name) a e = cc
asked_steps sc t m f v (calls.Extern name adding n) a e = cc
asked_steps sc t m f v (calls.Charge name n) a e = cc
asked_steps sc t m f v calls.Ledger a e = cc
asked_steps sc t m f v calls.Assertions a e = cc
asked_steps sc t m f v calls.Live a e = cc
asked_steps sc t m f v calls.Exit a e = cc

one_item : (k : Key) (x : Option ℕ) → length (item k x) ≤ 1
one_item k None = omega arith
one_item k (Some h) = omega arith

-- no value
lost_lower : (sc : Scenario) (t : ℕ) (m : Machine) (f : Frame) (v : Handles) (call : Call) (k : Key)
    → Calls sc t m f call → f.receipt ≡ None → Fewer sc.version call f
    → Lower sc m (make_done sc.version m t f v call k (Ok None))
lost_lower sc t m f v call k c receipt fewer =
    subst (λ (x : Frame). Lower sc m (with_frame m t (Some x))) (sym (moved_is sc.version call g))
    (on_lower sc t m f
    (at_keys g (moved_place sc.version call f.at_byte f.keys) (moved_keys sc.version call f.at_byte f.keys))
    call c refl receipt receipt refl
    (let a : length (f.lets ++ item k (of_key k v)) ≡ length f.lets + length (item k (of_key k v)) = length-append
    f.lets (item k (of_key k v)) in
    let b : length (item k (of_key k v)) ≤ 1 = one_item k (of_key k v) in omega arith) fewer)
  where
    g : Frame
    g = record f { forming = Some (with_key k None v); lets = f.lets ++ item k (of_key k v) }

-- a receipt
received_lower : (sc : Scenario) (t : ℕ) (m : Machine) (f : Frame) (p : Place) (call : Call) → Calls sc t m f call
    → f.receipt ≡ None → Fewer sc.version call f → Lower sc m (given_receipt m t f p)
received_lower sc t m f p call c receipt fewer =
    let a : Left sc (given_receipt m t f p) ≡ Left sc (with_frame m t (Some (record f { receipt = Some p }))) =
    race_all sc (with_frame m t (Some (record f { receipt = Some p }))) p in
    let b : Left sc (with_frame m t (Some (record f { receipt = Some p }))) + 1 ≤ Left sc m =
    framed_less sc t 1 m f (Some (record f { receipt = Some p })) c.framed less in
    subst (λ n. n + 1 ≤ Left sc m) (sym a) b
  where
    fewer_then : (fs gs fr k n l c : ℕ) → fs ≡ event_left * n → gs ≡ event_left * k → fr ≡ 0 → k + 1 ≤ n
        → gs + 8 + l + c + 1 ≤ fs + fr + l + c
    fewer_then fs gs fr k n l c a b d h = omega arith

    less : now_left sc t m (Some (record f { receipt = Some p })) + 1 ≤ now_left sc t m (Some f)
    less =
        let a : answer_left f.answered (steps_with sc.version (call_now sc t m) f.at_byte f.keys f.receipt)
        ≡ event_left * steps_left sc.version (Some call) f.at_byte f.keys =
        steps_at sc t m f f call None c refl receipt in
        let b : answer_left f.answered (steps_with sc.version (call_now sc t m) f.at_byte f.keys (Some p))
        ≡ event_left * steps_left sc.version (Some call) (moved_place sc.version call f.at_byte f.keys)
        (moved_keys sc.version call f.at_byte f.keys) =
        steps_at sc t m f (record f { receipt = Some p }) call (Some p) c refl refl in
        fewer_then _ _ _ _ _ (3 * length f.lets) (claim_left f.claim) a b (ap receipt_left receipt) fewer

value_lower : (sc : Scenario) (t : ℕ) (m : Machine) (f : Frame) (call : Call) (k : Key) (x : Value) (found : Option ℕ)
    → Calls sc t m f call → f.receipt ≡ None → Fewer sc.version call f → Lower sc m (made_at m t f k x found)
value_lower sc t m f call k x (Some h) c receipt fewer = received_lower sc t m f (record { key = k; handle = h }) call
    c receipt fewer
value_lower sc t m f call k x None c receipt fewer =
    received_lower sc t (minted m k x) f (record { key = k; handle = fresh_handle (of_key k m.pools) }) call
    (record {
      framed = record { among = c.framed.among; frame = c.framed.frame };
      unanswered = c.unanswered;
      there = c.there;
    }) receipt fewer

done_lower : (sc : Scenario) (t : ℕ) (m : Machine) (f : Frame) (v : Handles) (call : Call) (k : Key)
    (reply : Result (Option Value) ℤ) → Calls sc t m f call → f.receipt ≡ None → Fewer sc.version call f
    → Lower sc m (make_done sc.version m t f v call k reply)
done_lower sc t m f v call k (Err code) c receipt fewer = refuse_lower sc t m f call code c
done_lower sc t m f v call k (Ok None) c receipt fewer = lost_lower sc t m f v call k c receipt fewer
done_lower sc t m f v call k (Ok (Some x)) c receipt fewer = value_lower sc t m f call k x (handle_of m.live k x) c
    receipt fewer

asked_lower : (sc : Scenario) (t : ℕ) (m : Machine) (f : Frame) (v : Handles) (call : Call) (a : Option Asked)
    → Calls sc t m f call → f.receipt ≡ None → asked_by sc m t f v call ≡ a
    → MayLower sc m (make_asked sc.version m t f v call a)
asked_lower sc t m f v call None c receipt e = tt
asked_lower sc t m f v call (Some a) c receipt e = done_lower sc t m f v call a.key a.reply c receipt
    (asked_steps sc t m f v call a e)

-- Make
pub make_lower : (sc : Scenario) (want : Bool) (t : ℕ) (m : Machine) (f : Frame) (v : Handles) (call : Call)
    → Calls sc t m f call → f.receipt ≡ None → MayLower sc m (do_make sc want m t f v call)
make_lower sc want t m f v call c receipt =
    may_lower_if sc m want _ _ (refuse_lower sc t m f call KERN_RESOURCE_SHORTAGE c)
    (asked_lower sc t m f v call (asked_by sc m t f v call) c receipt refl)

-- Refer
pub refer_lower : (sc : Scenario) (t : ℕ) (m : Machine) (f : Frame) (v : Handles) (call : Call) (q : Place)
    → Fits sc m → Calls sc t m f call → f.receipt ≡ Some q → Lower sc m (do_refer sc.version m t f v call q)
refer_lower sc t m f v call q fits c receipt =
    subst (λ (x : Frame). Lower sc m (tallied one_refer (with_frame n t (closed x))))
    (sym (moved_is sc.version call base))
    (both _ _ _ (closed_less sc t 4 n (record f { claim = on_claim (back_claim q) f.claim }) next
    (record {
      among = (
        c.framed.among.0,
        subst (λ i. t ≤ i) (sym (length-map m.tasks (on_task (back_claim q))))
            c.framed.among.1,
      );
      frame = ap (λ (x : Tasked). x.frame) own;
    }) less) (back_all sc m q fits))
  where
    n : Machine
    n = on_claims (back_claim q) m

    both : (a b c : ℕ) → a + 4 ≤ b → b ≤ c + 3 → a + 1 ≤ c
    both a b c h k = omega arith

    base : Frame
    base = record f {
      forming = Some (with_key q.key (Some q.handle) v);
      lets = f.lets ++ item q.key (of_key q.key v);
      receipt = None;
    }

    next : Frame
    next = at_keys (record f {
      forming = Some (with_key q.key (Some q.handle) v);
      lets = f.lets ++ item q.key
          (of_key q.key v);
      receipt = None;
    }) (moved_place sc.version call f.at_byte f.keys) (moved_keys sc.version call f.at_byte f.keys)

    own : tasked (on_claims (back_claim q) m) t ≡ record (tasked m t)
        { frame = Some (record f { claim = on_claim (back_claim q) f.claim }) }
    own = at_map (on_task (back_claim q)) m.tasks t idle ∙ ap
        (λ g. record (tasked m t) { frame = on_frame (back_claim q) g }) c.framed.frame

    no_claim : f.claim ≡ None
    no_claim = (subst OptionFits c.framed.frame (fits.frames t)).claim (ap is_some receipt)

    same_call : call_now sc t (on_claims (back_claim q) m) ≡ Some call
    same_call = ap (λ (x : Tasked). nth_call sc t x.begun) own ∙ c.there

    referred : (fs gs s fr fl gl i fc gc : ℕ) → fs ≡ s → gs ≡ s → fr ≡ 8 → gc ≡ fc → gl ≡ fl + i → i ≤ 1
        → gs + 0 + 3 * gl + gc + 4 ≤ fs + fr + 3 * fl + fc
    referred fs gs s fr fl gl i fc gc a b d e g h = omega arith

    less : now_left sc t (on_claims (back_claim q) m) (Some next) + 4 ≤ now_left sc t (on_claims (back_claim q) m)
        (Some (record f { claim = on_claim (back_claim q) f.claim }))
    less =
        let a : answer_left f.answered
        (steps_with sc.version (call_now sc t (on_claims (back_claim q) m)) f.at_byte f.keys f.receipt)
        ≡ answer_left f.answered (steps_with sc.version (Some call) f.at_byte f.keys (Some q)) =
        ap (λ o. answer_left f.answered (steps_with sc.version o f.at_byte f.keys f.receipt)) same_call
        ∙ ap (λ r. answer_left f.answered (steps_with sc.version (Some call) f.at_byte f.keys r)) receipt in
        let b : answer_left f.answered (steps_with sc.version (call_now sc t (on_claims (back_claim q) m))
        (moved_place sc.version call f.at_byte f.keys) (moved_keys sc.version call f.at_byte f.keys) None)
        ≡ answer_left f.answered (steps_with sc.version (Some call) f.at_byte f.keys (Some q)) =
        ap (λ o. answer_left f.answered (steps_with sc.version o (moved_place sc.version call f.at_byte f.keys)
        (moved_keys sc.version call f.at_byte f.keys) None)) same_call in
        let e : claim_left f.claim ≡ claim_left (on_claim (back_claim q) f.claim) =
        ap claim_left no_claim ∙ sym (ap (λ o. claim_left (on_claim (back_claim q) o)) no_claim) in
        let g : length (f.lets ++ item q.key (of_key q.key v)) ≡ length f.lets + length (item q.key (of_key q.key v)) =
        length-append f.lets (item q.key (of_key q.key v)) in
        referred _ _ _ _ _ _ _ _ _ a b (ap receipt_left receipt) e g (one_item q.key (of_key q.key v))
