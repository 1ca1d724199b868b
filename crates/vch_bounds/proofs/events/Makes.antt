-- Make and Refer: a key that is asked leaves four fewer, which its receipt counts for, and then its reference.
use Rattle.std.proofs.Common.{◌≡◌, ℕ, ◌+◌, ◌-◌, ◌*◌, ◌≤◌, Bool, List, [], ◌∷◌, ◌++◌, refl, true, false, not, ◌&&◌, arith, sym, ap, ◌∙◌, subst, length, length-append, drop, Some, None, Option, Ok, Err, Result}
use Rattle.std.proofs.lemmas.List.{length-map}
use Rattle.std.specs.Prelude.{if◌then◌else◌, ◌==◌, ℤ}
use Rattle.vch_base.specs.declared.codes.TheConstants.{KERN_RESOURCE_SHORTAGE}
use Rattle.vch_base.specs.declared.key.Key.{Key}
use Rattle.vch_base.specs.declared.key.TheConstants.{ALL_KEYS}
use Rattle.vch_base.specs.Keyed.{of_key, with_key}
use Rattle.vch_base.specs.Keys.{managed}
use Rattle.vch_base.specs.declared.value.Value.{Value}
use Rattle.vch_recipe.specs.Recipes.{First, One, End, HeaderCut, ContentCut, first_of}
use Rattle.vch_recipe.specs.declared.recipe.Recipe.{Recipe}
use Rattle.vch_model.specs.declared.call.Call.{Call}
use Rattle.vch_model.specs.declared.call.Call.TheVariants as calls
use Rattle.vch_model.specs.declared.lists.Scenario.{Scenario}
use Rattle.vch_machine.specs.State.{Handles, Place, Living, Named, Pool, Claim, Frame, Tasked, Machine, tasked, handle_of, is_empty}
use Rattle.vch_machine.specs.Frames.{closed, with_frame, tallied}
use Rattle.vch_machine.specs.Making.{Asked, asked_by, asked_first, asked_transfer, keys_left, tail_keys, fresh_handle, fewer_free, minted, race_claim, back_claim, on_claim, on_task, on_claims, given_receipt, made_at, make_done, make_asked, do_make, one_refer, do_refer}
use Rattle.vch_machine.specs.Naming.{item}
use Rattle.vch_legal.specs.Tie.{moved_place, moved_keys, moved_place_first, moved_keys_first}
use Rattle.vch_legal.proofs.CallerLemmas.{IsAmong, record_long, few_managed, at_keys, moved_is, claims_task}
use Rattle.vch_bounds.specs.Rooms.{made_in}
use Rattle.vch_bounds.specs.Spent.{asks_left, takes_of, flying_of}
use Rattle.vch_bounds.proofs.events.Open.{takes_at, lets_at, Calls, on_costs, refuse_pays, MayPay, pay_if}
use Rattle.vch_bounds.proofs.events.Paid.{Pays, Own, own_framed, Costs, Counts, closed_costs, closed_flying, frame_pays, quiet_pays, as_used, used_with}

-- A key that is asked.

with_keys : (bytes : List ℕ) (place : ℕ) (ks : List Key) → not (is_empty ks) ≡ true
    → asks_left (calls.Create bytes) place ks ≡ length (drop place bytes) + 4 * length ks - 16
with_keys bytes place [] e = cc
with_keys bytes place (k ∷ ks) e = refl

abbrev create_left : List ℕ → ℕ → List Key → ℕ
create_left bytes place ks = asks_left (calls.Create bytes) place ks

same_record : (version : ℕ) (bytes : List ℕ) (place : ℕ) (ks : List Key) → 16 ≤ length (drop place bytes)
    → not (is_empty (tail_keys (keys_left version ks))) ≡ true
    → create_left bytes place (tail_keys (keys_left version ks)) + 4 ≤ create_left bytes place ks
same_record version bytes place [] l e =
    let a = with_keys bytes place (tail_keys (managed version)) e in
    let b : length (managed version) ≤ 4 = few_managed version in
    let c : length (tail_keys (managed version)) + 1 ≤ length (managed version) = one_less (managed version) e in
    omega (arith, a, b, c, l)
  where
    one_less : (ks : List Key) → not (is_empty (tail_keys ks)) ≡ true → length (tail_keys ks) + 1 ≤ length ks
    one_less [] e = cc
    one_less (k ∷ ks) e = omega arith
same_record version bytes place (k ∷ ks) l e = let a = with_keys bytes place ks e in omega (arith, a, l)

next_record : (bytes : List ℕ) (place next : ℕ) (ks : List Key) → length (drop next bytes) + 16 ≤ length (drop place bytes)
    → create_left bytes next [] + 4 ≤ create_left bytes place ks
next_record bytes place next [] l = omega (arith, l)
next_record bytes place next (k ∷ ks) l = omega (arith, l)

record_asks : (version : ℕ) (bytes : List ℕ) (place : ℕ) (ks : List Key) (r : Recipe) (rest : List ℕ)
    → first_of (drop place bytes) ≡ One r rest
    → create_left bytes (moved_place_first version ks place (One r rest)) (moved_keys_first version ks (One r rest)) + 4
    ≤ create_left bytes place ks
record_asks version bytes place ks r rest e =
    by_test ((r.key == ALL_KEYS) && not (is_empty (tail_keys (keys_left version ks)))) (second (r.key == ALL_KEYS) _)
  where
    long : length (drop (place + (16 + length r.content)) bytes) + 16 ≤ length (drop place bytes)
    long = record_long bytes place r rest e

    second : (a b : Bool) → (a && b) ≡ true → b ≡ true
    second a b h = grind arith

    by_test : (b : Bool) → (b ≡ true → not (is_empty (tail_keys (keys_left version ks))) ≡ true)
        → create_left bytes (if b then place else place + (16 + length r.content)) (if b then tail_keys (keys_left version ks) else []) + 4
        ≤ create_left bytes place ks
    by_test true h = same_record version bytes place ks (omega (arith, long)) (h refl)
    by_test false h = next_record bytes place (place + (16 + length r.content)) ks long

create_asks : (version : ℕ) (live : List Living) (names : List Named) (t : ℕ) (v : Handles) (bytes : List ℕ)
    (place : ℕ) (ks : List Key) (first : First) (a : Asked)
    → first_of (drop place bytes) ≡ first → asked_first version live names t ks v first ≡ Some a
    → create_left bytes (moved_place_first version ks place first) (moved_keys_first version ks first) + 4 ≤ create_left bytes place ks
create_asks version live names t v bytes place ks (One r rest) a e h = record_asks version bytes place ks r rest e
create_asks version live names t v bytes place ks End a e h = cc
create_asks version live names t v bytes place ks (HeaderCut left) a e h = cc
create_asks version live names t v bytes place ks (ContentCut wanted left) a e h = cc

transfer_asks : (live : List Living) (g : Value → Value) (ks : List Key) (v : Handles) (a : Asked)
    → asked_transfer live g ks v ≡ Some a → 4 * length (tail_keys ks) + 4 ≤ 4 * length ks
transfer_asks live g [] v a e = cc
transfer_asks live g (k ∷ ks) v a e = omega arith

-- a key that is asked leaves four fewer
abbrev Fewer : ℕ → Call → Frame → Type 0
Fewer version call f = asks_left call (moved_place version call f.at_byte f.keys) (moved_keys version call f.at_byte f.keys) + 4
    ≤ asks_left call f.at_byte f.keys

asked_fewer : (sc : Scenario) (t : ℕ) (m : Machine) (f : Frame) (v : Handles) (call : Call) (a : Asked)
    → asked_by sc m t f v call ≡ Some a → Fewer sc.version call f
asked_fewer sc t m f v (calls.Create bytes) a e =
    create_asks sc.version m.live (tasked m t).names t v bytes f.at_byte f.keys (first_of (drop f.at_byte bytes)) a refl e
asked_fewer sc t m f v (calls.Send to moving name id) a e = transfer_asks m.live _ f.keys v a e
asked_fewer sc t m f v calls.Recv a e = transfer_asks m.live _ f.keys v a e
asked_fewer sc t m f v (calls.GiveUp name) a e = cc
asked_fewer sc t m f v (calls.Extract name key) a e = cc
asked_fewer sc t m f v (calls.Recipes name) a e = cc
asked_fewer sc t m f v (calls.Extern name adding n) a e = cc
asked_fewer sc t m f v (calls.Charge name n) a e = cc
asked_fewer sc t m f v calls.Ledger a e = cc
asked_fewer sc t m f v calls.Assertions a e = cc
asked_fewer sc t m f v calls.Live a e = cc
asked_fewer sc t m f v calls.Exit a e = cc

one_item : (k : Key) (x : Option ℕ) → length (item k x) ≤ 1
one_item k None = omega arith
one_item k (Some h) = omega arith

none_more : (n : ℕ) → n ≡ n + 0
none_more n = omega arith

-- no value
lost_pays : (sc : Scenario) (t : ℕ) (m : Machine) (f : Frame) (v : Handles) (call : Call) (k : Key) → Calls sc t m f call
    → f.receipt ≡ None → Fewer sc.version call f → Pays sc t m (make_done sc.version m t f v call k (Ok None))
lost_pays sc t m f v call k c receipt fewer =
    subst (λ (x : Frame). Pays sc t m (with_frame m t (Some x))) (sym (moved_is sc.version call base))
    (quiet_pays sc t m (with_frame m t (Some next)) f (Some next) 0 0 c.frame (own_framed t m m (Some next) c.among refl)
    (record { refers = none_more _; claims = none_more _; given = none_more _ })
    (on_costs sc.version _ f next call 1 c.there c.unanswered c.unanswered receipt receipt fewer
    (let a = length-append f.lets (item k (of_key k v)) in let b = one_item k (of_key k v) in omega (arith, a, b)))
    refl (λ j. as_used _) refl)
  where
    base : Frame
    base = record f { forming = Some (with_key k None v); lets = f.lets ++ item k (of_key k v) }

    next : Frame
    next = at_keys (record f { forming = Some (with_key k None v); lets = f.lets ++ item k (of_key k v) })
        (moved_place sc.version call f.at_byte f.keys) (moved_keys sc.version call f.at_byte f.keys)

-- a receipt, for a value that is made in between or not
receipt_costs : (version : ℕ) (o : Option Call) (f : Frame) (call : Call) (p : Place) (claim : Option Claim) → o ≡ Some call
    → f.answered ≡ false → f.receipt ≡ None → Fewer version call f
    → Costs version o (Some f) (Some (record f { receipt = Some p; claim = claim })) 0 0 0
receipt_costs version o f call p claim there open_ none fewer =
    let a : takes_of version o (Some f) ≡ asks_left call f.at_byte f.keys + 4 * 0 = takes_at version o f call None open_ there none in
    let b : takes_of version o (Some (record f { receipt = Some p; claim = claim })) ≡ asks_left call
    (moved_place version call f.at_byte f.keys) (moved_keys version call f.at_byte f.keys) + 4 * 1 =
    takes_at version o (record f { receipt = Some p; claim = claim }) call (Some p) open_ there refl in
    let c = lets_at version o f open_ in
    let d = lets_at version o (record f { receipt = Some p; claim = claim }) open_ in
    record { takes = omega (arith, a, b, fewer); lets = omega (arith, a, b, c, d, fewer) }

received_pays : (sc : Scenario) (t : ℕ) (m mid : Machine) (f : Frame) (call : Call) (p : Place) → Calls sc t m f call
    → f.receipt ≡ None → Fewer sc.version call f → mid.tasks ≡ m.tasks → Counts m mid 0 0 0 → made_in mid.past ≤ made_in m.past + 1
    → ((k : Key) → (of_key k mid.pools).used + made_in m.past ≤ (of_key k m.pools).used + made_in mid.past)
    → Pays sc t m (given_receipt mid t f p)
received_pays sc t m mid f call p c receipt fewer tasks counts made used =
    frame_pays sc t m (given_receipt mid t f p) (Some f) (Some g) 0 0 0 c.frame own
    (record { refers = counts.refers; claims = counts.claims; given = counts.given })
    (receipt_costs sc.version _ f call p (on_claim (race_claim p) f.claim) c.there c.unanswered receipt fewer)
    (let a : flying_of (Some f) ≡ 0 = rw receipt refl in omega (arith, a, made)) used
  where
    g : Frame
    g = record f { receipt = Some p; claim = on_claim (race_claim p) f.claim }

    own : Own t m (given_receipt mid t f p) (Some (record f { receipt = Some p; claim = on_claim (race_claim p) f.claim }))
    own =
        let a : Own t m (with_frame mid t (Some (record f { receipt = Some p }))) (Some (record f { receipt = Some p })) =
        own_framed t m mid (Some (record f { receipt = Some p })) (subst (IsAmong t) (sym tasks) c.among)
        (ap (λ ts. (tasked (record m { tasks = ts }) t).begun) tasks) in
        let b = claims_task (with_frame mid t (Some (record f { receipt = Some p }))) (race_claim p) t in
        record {
          begun = ap (λ (x : Tasked). x.begun) b ∙ a.begun;
          frame = ap (λ (x : Tasked). x.frame) b
              ∙ ap (λ (o : Option Frame). (on_task (race_claim p) (record (tasked m t) { frame = o })).frame) a.frame;
        }

value_pays : (sc : Scenario) (t : ℕ) (m : Machine) (f : Frame) (call : Call) (k : Key) (x : Value) (found : Option ℕ)
    → Calls sc t m f call → f.receipt ≡ None → Fewer sc.version call f → Pays sc t m (made_at m t f k x found)
value_pays sc t m f call k x (Some h) c receipt fewer =
    received_pays sc t m m f call (record { key = k; handle = h }) c receipt fewer refl
    (record { refers = none_more _; claims = none_more _; given = none_more _ }) (omega arith) (λ j. omega arith)
value_pays sc t m f call k x None c receipt fewer =
    received_pays sc t m (minted m k x) f call (record { key = k; handle = fresh_handle (of_key k m.pools) }) c receipt fewer refl
    (record { refers = none_more _; claims = none_more _; given = omega arith }) (omega arith)
    (λ j. let a = used_with k j (fewer_free (of_key k m.pools)) m.pools 1 (one_used (of_key k m.pools)) in omega (arith, a))
  where
    one_used : (p : Pool) → (fewer_free p).used ≤ p.used + 1
    one_used p = by_free p.free (fewer_free p) refl
      where
        by_free : (free : List ℕ) (x : Pool) → x ≡ elim free [
          | [] ↦ record { free = []; used = p.used + 1 }
          | h ∷ rest ↦ record { free = rest; used = p.used }
        ] → x.used ≤ p.used + 1
        by_free [] x e = let a = ap (λ (y : Pool). y.used) e in omega (arith, a)
        by_free (h ∷ rest) x e = let a = ap (λ (y : Pool). y.used) e in omega (arith, a)

done_pays : (sc : Scenario) (t : ℕ) (m : Machine) (f : Frame) (v : Handles) (call : Call) (k : Key) (reply : Result (Option Value) ℤ)
    → Calls sc t m f call → f.receipt ≡ None → Fewer sc.version call f → Pays sc t m (make_done sc.version m t f v call k reply)
done_pays sc t m f v call k (Err code) c receipt fewer = refuse_pays sc t m f call code c.among c.frame c.unanswered
done_pays sc t m f v call k (Ok None) c receipt fewer = lost_pays sc t m f v call k c receipt fewer
done_pays sc t m f v call k (Ok (Some x)) c receipt fewer = value_pays sc t m f call k x (handle_of m.live k x) c receipt fewer

asked_pays : (sc : Scenario) (t : ℕ) (m : Machine) (f : Frame) (v : Handles) (call : Call) (a : Option Asked) → Calls sc t m f call
    → f.receipt ≡ None → asked_by sc m t f v call ≡ a → MayPay sc t m (make_asked sc.version m t f v call a)
asked_pays sc t m f v call None c receipt e = tt
asked_pays sc t m f v call (Some a) c receipt e =
    done_pays sc t m f v call a.key a.reply c receipt (asked_fewer sc t m f v call a e)

pub make_pays : (sc : Scenario) (want : Bool) (t : ℕ) (m : Machine) (f : Frame) (v : Handles) (call : Call) → Calls sc t m f call
    → f.receipt ≡ None → MayPay sc t m (do_make sc want m t f v call)
make_pays sc want t m f v call c receipt =
    pay_if sc t m want _ _ (refuse_pays sc t m f call KERN_RESOURCE_SHORTAGE c.among c.frame c.unanswered)
    (asked_pays sc t m f v call (asked_by sc m t f v call) c receipt refl)

-- Refer
refer_costs : (version : ℕ) (o : Option Call) (f : Frame) (v : Option Handles) (call : Call) (q : Place) (lets : List Place) → o ≡ Some call
    → f.answered ≡ false → f.receipt ≡ Some q → length lets ≤ 1
    → Costs version o (Some f) (Some (at_keys (record f { forming = v; lets = f.lets ++ lets; receipt = None })
    (moved_place version call f.at_byte f.keys) (moved_keys version call f.at_byte f.keys))) 1 0 0
refer_costs version o f v call q lets there open_ some few =
    let a : takes_of version o (Some f) ≡ asks_left call (moved_place version call f.at_byte f.keys)
    (moved_keys version call f.at_byte f.keys) + 4 * 1 = takes_at version o f call (Some q) open_ there some in
    let b : takes_of version o (Some next) ≡ asks_left call (moved_place version call f.at_byte f.keys)
    (moved_keys version call f.at_byte f.keys) + 4 * 0 = takes_at version o next call None open_ there refl in
    let c = lets_at version o f open_ in
    let d = lets_at version o next open_ in
    let e = length-append f.lets lets in
    record { takes = omega (arith, a, b); lets = omega (arith, a, b, c, d, e, few) }
  where
    next : Frame
    next = at_keys (record f { forming = v; lets = f.lets ++ lets; receipt = None })
        (moved_place version call f.at_byte f.keys) (moved_keys version call f.at_byte f.keys)

pub refer_pays : (sc : Scenario) (t : ℕ) (m : Machine) (f : Frame) (v : Handles) (call : Call) (q : Place) → Calls sc t m f call
    → f.receipt ≡ Some q → Pays sc t m (do_refer sc.version m t f v call q)
refer_pays sc t m f v call q c receipt =
    subst (λ (x : Frame). Pays sc t m (tallied one_refer (with_frame (on_claims (back_claim q) m) t (closed x))))
    (sym (moved_is sc.version call base))
    (frame_pays sc t m (tallied one_refer (with_frame (on_claims (back_claim q) m) t (closed next))) (Some f) (closed next) 1 0 0 c.frame
    (record { begun = own.begun; frame = own.frame })
    (record { refers = refl; claims = none_more _; given = none_more _ })
    (closed_costs sc.version _ (Some f) next 1 0 0
    (refer_costs sc.version _ f (Some (with_key q.key (Some q.handle) v)) call q (item q.key (of_key q.key v)) c.there c.unanswered receipt
    (one_item q.key (of_key q.key v))))
    (let a = closed_flying next in let b : flying_of (Some f) ≡ 1 = rw receipt refl in omega (arith, a, b)) (λ k. omega arith))
  where
    base : Frame
    base = record f { forming = Some (with_key q.key (Some q.handle) v); lets = f.lets ++ item q.key (of_key q.key v); receipt = None }

    next : Frame
    next = at_keys (record f {
      forming = Some (with_key q.key (Some q.handle) v);
      lets = f.lets ++ item q.key (of_key q.key v);
      receipt = None;
    }) (moved_place sc.version call f.at_byte f.keys) (moved_keys sc.version call f.at_byte f.keys)

    own : Own t m (with_frame (on_claims (back_claim q) m) t (closed next)) (closed next)
    own = own_framed t m (on_claims (back_claim q) m) (closed next)
        (c.among.0, subst (λ i. t ≤ i) (sym (length-map m.tasks (on_task (back_claim q)))) c.among.1)
        (ap (λ (x : Tasked). x.begun) (claims_task m (back_claim q) t))
