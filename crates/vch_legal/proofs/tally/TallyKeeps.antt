-- The questions that were asked, and those that may still come, are no more than the references taken: through every
-- event.
use Rattle.std.proofs.Common.{◌≡◌, ℕ, ◌+◌, ◌≤◌, Bool, List, [], ◌∷◌, ◌++◌, refl, true, false, not, ◌&&◌, ◌||◌, arith, sym, ap, ◌∙◌, subst, length, map, Some, None, Option}
use Rattle.std.specs.Prelude.{is_some, if◌then◌else◌, nat_lt, ◌==◌}
use Rattle.vch_base.specs.declared.key.Key.{Key}
use Rattle.vch_base.specs.declared.key.Key.TheVariants as keys
use Rattle.vch_base.specs.declared.value.Value.{Value}
use Rattle.vch_base.specs.declared.value.Value.TheVariants as values
use Rattle.vch_base.specs.Values.{is_default}
use Rattle.vch_base.specs.Keyed.{of_key}
use Rattle.vch_model.specs.declared.call.Call.{Call}
use Rattle.vch_model.specs.declared.lists.Scenario.{Scenario}
use Rattle.vch_model.specs.Lines.{is_task}
use Rattle.vch_machine.specs.State.{Handles, Place, same_place, Living, Claim, Frame, Tally, Machine, tasked, living_at, handle_of, is_place, is_held, is_expected, claims_on, claim_at, frame_holds, default_place, default_living}
use Rattle.vch_machine.specs.Frames.{with_frame, tallied}
use Rattle.vch_machine.specs.Leaving.{is_fixed, more_claims, claim_if, do_let_go, do_recheck, released, with_answer, one_ask, again}
use Rattle.vch_machine.specs.Making.{given_receipt, minted, made_at, do_refer, fresh_handle}
use Rattle.vch_legal.specs.Facts.{Fits, Spot, spot, spot_fits, burden, total, bit, times, IsCounted, ValueFits, EachOnce, Different}
use Rattle.vch_legal.proofs.facts.Choices.{cases_bool}
use Rattle.vch_legal.proofs.spots.SpotSteps.{one, fresh, raced_now}
use Rattle.vch_legal.proofs.spots.Places.{Settled, same_place_eq}
use Rattle.vch_legal.proofs.spots.FrameSpots.{kept_named, others_expect, claims_before, claims_behind}
use Rattle.vch_legal.proofs.spots.EventSpots.{fits_of, claimed_spot, claimed_before, claimed_after, claimed_other, again_place, some_if, let_go_here, let_go_was, let_go_other, gone_spot, left_held, left_claims}
use Rattle.vch_legal.proofs.spots.AskSpots.{refused_here, answered_other, agreed_other, answered, spot_live}
use Rattle.vch_legal.proofs.spots.ReferSpots.{refer_here, refer_other, after_expects}
use Rattle.vch_legal.proofs.spots.MakeSpots.{given_here, given_other, fresh_dead}
use Rattle.vch_legal.proofs.values.FoundValues.{append_here, append_other}
use Rattle.vch_legal.proofs.tally.Burdens.{made_burden, new_burden, refer_burden, let_go_burden, agreed_burden, refused_burden, recheck_burden, total_less, total_append, total_more, total_lost, total_without}
use Rattle.vch_legal.proofs.values.ValuesMade.{asked_value}
use Rattle.vch_legal.proofs.values.LiveKeeps.{Claimed, claimed_live}
use Rattle.vch_legal.proofs.spots.PlainEvents.{Plain}
use Rattle.vch_legal.proofs.facts.Cases.{Cases, fits_at, still_going}

abbrev pub load : Machine → Place → ℕ
load m p = burden (spot m p)

-- the sum after a step of which only the tally is counted otherwise
step_counted : (asks refers before after : ℕ) → asks + before ≤ refers → after ≤ before → asks + after ≤ refers
step_counted asks refers before after h k = omega arith

same_load : (a b : Spot) → a ≡ b → burden a ≤ burden b
same_load a b e = rw e (at_most (burden b))
  where
    at_most : (n : ℕ) → n ≤ n
    at_most n = omega arith

-- the load of one place by its spots
load_by : (a b c d : Spot) → a ≡ c → b ≡ d → burden c ≤ burden d → burden a ≤ burden b
load_by a b c d e f h = rw (e, f) h

more_by : (a c d : Spot) → a ≡ c → burden c ≤ burden d + 1 → burden a ≤ burden d + 1
more_by a c d e h = rw e h

lost_by : (a b c d : Spot) → a ≡ c → b ≡ d → burden c + 1 ≤ burden d → burden a + 1 ≤ burden b
lost_by a b c d e f h = rw (e, f) h

least_by : (b d : Spot) → b ≡ d → 1 ≤ burden d → 1 ≤ burden b
least_by b d e h = rw e h

-- at every place, where it is known at one and nothing is changed at the others
at_each : (m n : Machine) (q : Place) → load n q ≤ load m q →
    ((p : Place) → same_place q p ≡ false → spot n p ≡ spot m p) → (p : Place) → load n p ≤ load m p
at_each m n q here others p =
    cases_bool (same_place q p) (load n p ≤ load m p)
    (λ same. subst (λ (r : Place). load n r ≤ load m r) (same_place_eq q p same) here)
    (λ other. same_load (spot n p) (spot m p) (others p other))

-- no more questions, and no more to come
kept_counted : (m n : Machine) → n.live ≡ m.live → n.tally.asks ≡ m.tally.asks → n.tally.refers ≡ m.tally.refers
    → ((p : Place) → load n p ≤ load m p) → IsCounted m → IsCounted n
kept_counted m n live asks refers less h =
    subst (λ (xs : List Living). n.tally.asks + total (load n) xs ≤ n.tally.refers) (sym live)
    (rw (asks, refers) (step_counted m.tally.asks m.tally.refers (total (load m) m.live) (total (load n) m.live) h
    (total_less (load n) (load m) m.live less)))

plain_counted : (sc : Scenario) (t : ℕ) (m n : Machine) → Plain sc t m n → IsCounted m → IsCounted n
plain_counted sc t m n p h =
    kept_counted m n p.live (ap (λ (x : Tally). x.asks) p.tally) (ap (λ (x : Tally). x.refers) p.tally)
    (λ q. same_load (spot n q) (spot m q) (p.spots q)) h

-- Make

given_load : (m : Machine) (t : ℕ) (f : Frame) (q : Place) → spot_fits (spot m q) ≡ true → (tasked m t).frame ≡ Some f
    → f.receipt ≡ None → (p : Place) → load (given_receipt m t f q) p ≤ load m p
given_load m t f q h e receipt =
    at_each m (given_receipt m t f q) q
    (load_by (spot (given_receipt m t f q) q) (spot m q) _ _ (given_here m t f q e) refl
    (made_burden (is_some (living_at m.live q)) (is_fixed m q) (is_held m q) (is_expected m q) true
    (claims_on m q) h))
    (λ p other. given_other m t f q p e receipt other)

given_counted : (m : Machine) (t : ℕ) (f : Frame) (q : Place) → spot_fits (spot m q) ≡ true
    → (tasked m t).frame ≡ Some f → f.receipt ≡ None → IsCounted m → IsCounted (given_receipt m t f q)
given_counted m t f q h e receipt c = kept_counted m (given_receipt m t f q) refl refl refl
    (given_load m t f q h e receipt) c

-- a value that is not Default where the key has none that is equal
pub not_default : (sc : Scenario) (m : Machine) (k : Key) (x : Value) → Different m.live
    → living_at m.live default_place ≡ Some default_living → ValueFits sc k x → handle_of m.live k x ≡ None
    → is_default x ≡ false
not_default sc m k (values.User bytes) d e good absent = refl
not_default sc m k (values.Chain list) d e good absent = refl
not_default sc m k (values.Task t) d e good absent = refl
not_default sc m k (values.Account holder merchant) d e good absent = refl
not_default sc m keys.Bank values.Default d e good absent = let g : handle_of m.live keys.Bank values.Default
    ≡ Some 0 = d default_place default_living e in cc
not_default sc m keys.Importance values.Default d e good absent = absurd good.belongs
not_default sc m keys.User values.Default d e good absent = absurd good.belongs
not_default sc m keys.Test values.Default d e good absent = absurd good.belongs

minted_counted : (m : Machine) (t : ℕ) (f : Frame) (k : Key) (x : Value) → EachOnce m
    → spot_fits (spot m (record { key = k; handle = fresh_handle (of_key k m.pools) })) ≡ true → is_default x ≡ false
    → (tasked m t).frame ≡ Some f → f.receipt ≡ None → IsCounted m
    → IsCounted (given_receipt (minted m k x) t f (record { key = k; handle = fresh_handle (of_key k m.pools) }))
minted_counted m t f k x once h plain e receipt c = step_counted m.tally.asks m.tally.refers (total (load m) m.live)
    (total (load n) (m.live ++ made ∷ [])) c (rw sum (added (total (load n) m.live) (total (load m) m.live)
    (load n q) at_new old))
  where
    q : Place
    q = record { key = k; handle = fresh_handle (of_key k m.pools) }

    made : Living
    made = record {
      place = record { key = k; handle = fresh_handle (of_key k m.pools) };
      value = x;
      made = length
          m.past + 1;
    }

    n : Machine
    n = given_receipt (minted m k x) t f q

    dead : living_at m.live q ≡ None
    dead = fresh_dead m k once

    made_here : living_at (m.live ++ made ∷ []) q ≡ Some made
    made_here = append_here m.live made dead

    new_spot : spot n q ≡ one true false (is_held m q) true (map raced_now (claims_on m q))
    new_spot =
        ap (λ l. spot_live l (spot (given_receipt m t f q) q)) made_here
        ∙ (ap (λ s. spot_live (Some made) s) (given_here m t f q e)
        ∙ ap (λ b. one true b (is_held m q) true (map raced_now (claims_on m q))) plain)

    at_new : load n q ≡ 0
    at_new = ap burden new_spot ∙ new_burden false (is_held m q) (is_expected m q) true (claims_on m q)
        (fits_of (one false false (is_held m q) (is_expected m q) (claims_on m q)) (spot m q)
        (ap (λ l. spot_live l (spot m q)) (sym dead)) h)

    other_spot : (p : Place) → same_place q p ≡ false → spot n p ≡ spot m p
    other_spot p other = ap (λ l. spot_live l (spot (given_receipt m t f q) p)) (append_other m.live made p other)
        ∙ given_other m t f q p e receipt other

    old_at : (p : Place) → load n p ≤ load m p
    old_at p = cases_bool (same_place q p) (load n p ≤ load m p)
        (λ same. subst (λ (r : Place). load n r ≤ load m r) (same_place_eq q p same)
        (rw at_new (zero_least (load m q))))
        (λ other. same_load (spot n p) (spot m p) (other_spot p other))
      where
        zero_least : (a : ℕ) → 0 ≤ a
        zero_least a = omega arith

    old : total (load n) m.live ≤ total (load m) m.live
    old = total_less (load n) (load m) m.live old_at

    sum : total (load n) (m.live ++ made ∷ []) ≡ total (load n) m.live + load n q
    sum = total_append (load n) m.live made

    added : (a b l : ℕ) → l ≡ 0 → a ≤ b → a + l ≤ b
    added a b l x y = omega arith

made_counted : (m : Machine) (t : ℕ) (f : Frame) (k : Key) (x : Value) (found : Option ℕ)
    → ((p : Place) → spot_fits (spot m p) ≡ true) → EachOnce m → (found ≡ None → is_default x ≡ false)
    → (tasked m t).frame ≡ Some f → f.receipt ≡ None → IsCounted m → IsCounted (made_at m t f k x found)
made_counted m t f k x (Some g) h once plain e receipt c = given_counted m t f (record { key = k; handle = g })
    (h _) e receipt c
made_counted m t f k x None h once plain e receipt c = minted_counted m t f k x once (h _) (plain refl) e receipt c

-- Refer

bit_most : (b : Bool) → bit b ≤ 1
bit_most true = omega arith
bit_most false = omega arith

once_most : (m : Machine) (q : Place) → EachOnce m → times (λ (l : Living). same_place l.place q) m.live ≤ 1
once_most m q once =
    let a : times (λ (l : Living). same_place l.place q) m.live + times (λ h. h == q.handle)
    (of_key q.key m.pools).free ≡ bit (nat_lt q.handle (of_key q.key m.pools).used) = once q in
    let b : bit (nat_lt q.handle (of_key q.key m.pools).used) ≤ 1 =
    bit_most (nat_lt q.handle (of_key q.key m.pools).used) in omega arith

refer_counted : (version : ℕ) (m : Machine) (t : ℕ) (f : Frame) (v : Handles) (call : Call) (q : Place)
    → ((p : Place) → spot_fits (spot m p) ≡ true) → EachOnce m → (tasked m t).frame ≡ Some f → f.answered ≡ false
    → f.forming ≡ Some v
    → f.claim ≡ None → f.receipt ≡ Some q
    → IsCounted m → IsCounted (do_refer version m t f v call q)
refer_counted version m t f v call q h once e going forming claim receipt c =
    one_refer_more m.tally.asks m.tally.refers (total (load m) m.live) (total (load n) m.live)
    (times (λ (l : Living). same_place l.place q) m.live) c (total_more (load n) (load m) q m.live others here)
    (once_most m q once)
  where
    n : Machine
    n = do_refer version m t f v call q

    here : load n q ≤ load m q + 1
    here = more_by (spot n q) _ (spot m q) (refer_here version m t f v call q e going forming claim)
        (refer_burden (is_some (living_at m.live q)) (is_fixed m q) (is_held m q) (is_expected m q)
        (after_expects version m t f v call q) (claims_on m q) (h q))

    others : (p : Place) → same_place q p ≡ false → load n p ≤ load m p
    others p other = same_load (spot n p) (spot m p)
        (refer_other version m t f v call q p e going forming claim receipt other)

    one_refer_more : (asks refers before after k : ℕ) → asks + before ≤ refers → after ≤ before + k → k ≤ 1
        → asks + after ≤ refers + 1
    one_refer_more asks refers before after k x y z = omega arith

-- LetGo

let_go_counted : (m : Machine) (t : ℕ) (f : Frame) (q : Place) (rest : List Place)
    → ((p : Place) → spot_fits (spot m p) ≡ true) → (tasked m t).frame ≡ Some f → Settled f → f.lets ≡ q ∷ rest
    → f.claim ≡ None
    → IsCounted m → IsCounted (do_let_go m t f q rest)
let_go_counted m t f q rest h e settled lets claim c =
    kept_counted m (do_let_go m t f q rest) refl (same_asks (claim_if
    (with_frame m t (Some (record f { lets = rest }))) q))
    (same_refers (claim_if (with_frame m t (Some (record f { lets = rest }))) q))
    (at_each m (do_let_go m t f q rest) q here (λ p other. let_go_other m t f q p rest e settled lets claim other)) c
  where
    same_asks : (d : Option Claim) → (more_claims d m.tally).asks ≡ m.tally.asks
    same_asks None = refl
    same_asks (Some d) = refl

    same_refers : (d : Option Claim) → (more_claims d m.tally).refers ≡ m.tally.refers
    same_refers None = refl
    same_refers (Some d) = refl

    here : load (do_let_go m t f q rest) q ≤ load m q
    here = load_by (spot (do_let_go m t f q rest) q) (spot m q)
        (gone_spot m t f q rest (left_held m t f q rest) (left_claims m t f q rest)) (gone_spot m t f q rest true [])
        (let_go_here m t f q rest e settled claim) (let_go_was m t f q rest e lets claim)
        (let_go_burden q (is_some (living_at m.live q)) (is_fixed m q) (left_held m t f q rest)
        (is_place f.receipt q || others_expect m t q) (claims_before m t q) (claims_behind m t q)
        (fits_of (gone_spot m t f q rest true []) (spot m q) (sym (let_go_was m t f q rest e lets claim)) (h q)))

-- Ask

claim_fits : (m : Machine) (t : ℕ) (f : Frame) (c : Claim) → ((p : Place) → spot_fits (spot m p) ≡ true)
    → (tasked m t).frame ≡ Some f → f.claim ≡ Some c → spot_fits (claimed_spot m t f c.place (c ∷ [])) ≡ true
claim_fits m t f c h e claim = fits_of (claimed_spot m t f c.place (c ∷ [])) (spot m c.place)
    (sym (claimed_before m t f c e claim)) (h c.place)

refused_counted : (m : Machine) (t : ℕ) (f : Frame) (c : Claim) → ((p : Place) → spot_fits (spot m p) ≡ true)
    → (tasked m t).frame ≡ Some f → f.claim ≡ Some c → is_some c.answer ≡ false → Claimed m c.place
    → IsCounted m → IsCounted (tallied one_ask (with_frame m t (with_answer f c false)))
refused_counted m t f c h e claim a claimed k =
    paid m.tally.asks m.tally.refers (total (load m) m.live) (total (load n) m.live) k
    (total_lost (load n) (load m) c.place claimed.value m.live claimed.live others here)
  where
    n : Machine
    n = with_frame m t (with_answer f c false)

    others : (p : Place) → same_place c.place p ≡ false → load n p ≤ load m p
    others p other = same_load (spot n p) (spot m p) (answered_other m t f c false p e claim other)

    here : load n c.place + 1 ≤ load m c.place
    here = lost_by (spot n c.place) (spot m c.place) (claimed_spot m t f c.place (answered c false ∷ []))
        (claimed_spot m t f c.place (c ∷ [])) (refused_here m t f c e) (claimed_before m t f c e claim)
        (refused_burden c (is_some (living_at m.live c.place)) (is_fixed m c.place)
        (frame_holds (Some f) c.place || kept_named m t c.place)
        (is_place f.receipt c.place || others_expect m t c.place)
        (claims_before m t c.place) (claims_behind m t c.place) a (claim_fits m t f c h e claim))

    paid : (asks refers before after : ℕ) → asks + before ≤ refers → after + 1 ≤ before → (asks + 1) + after ≤ refers
    paid asks refers before after x y = omega arith

agreed_counted : (m : Machine) (t : ℕ) (f : Frame) (c : Claim) → ((p : Place) → spot_fits (spot m p) ≡ true)
    → (tasked m t).frame ≡ Some f → f.claim ≡ Some c → is_some c.answer ≡ false → Claimed m c.place
    → IsCounted m → IsCounted (tallied one_ask (with_frame (released m c.place) t (with_answer f c true)))
agreed_counted m t f c h e claim a claimed k =
    paid m.tally.asks m.tally.refers (total (load m) m.live) (total (load n) n.live) k
    (total_without (load n) (load m) c.place claimed.value m.live claimed.live others here)
  where
    n : Machine
    n = with_frame (released m c.place) t (with_answer f c true)

    others : (p : Place) → same_place c.place p ≡ false → load n p ≤ load m p
    others p other = same_load (spot n p) (spot m p) (agreed_other m t f c p e claim other)

    here : 1 ≤ load m c.place
    here = least_by (spot m c.place) (claimed_spot m t f c.place (c ∷ [])) (claimed_before m t f c e claim)
        (agreed_burden c (is_some (living_at m.live c.place)) (is_fixed m c.place)
        (frame_holds (Some f) c.place || kept_named m t c.place)
        (is_place f.receipt c.place || others_expect m t c.place)
        (claims_before m t c.place) (claims_behind m t c.place) a (claim_fits m t f c h e claim))

    paid : (asks refers before after : ℕ) → asks + before ≤ refers → after + 1 ≤ before → (asks + 1) + after ≤ refers
    paid asks refers before after x y = omega arith

asked_counted : (m : Machine) (t : ℕ) (f : Frame) (c : Claim) (b : Bool) → ((p : Place) → spot_fits (spot m p) ≡ true)
    → (tasked m t).frame ≡ Some f → f.claim ≡ Some c → is_some c.answer ≡ false → Claimed m c.place
    → IsCounted m → IsCounted (tallied one_ask (if b then with_frame m t (with_answer f c false) else with_frame
    (released m c.place) t (with_answer f c true)))
asked_counted m t f c true h e claim a claimed k = refused_counted m t f c h e claim a claimed k
asked_counted m t f c false h e claim a claimed k = agreed_counted m t f c h e claim a claimed k

-- Recheck

recheck_counted : (m : Machine) (t : ℕ) (f : Frame) (c : Claim) → ((p : Place) → spot_fits (spot m p) ≡ true)
    → (tasked m t).frame ≡ Some f → Settled f → f.claim ≡ Some c → is_some c.answer ≡ true
    → IsCounted m → IsCounted (do_recheck m t f c)
recheck_counted m t f c h e settled claim a k =
    kept_counted m (do_recheck m t f c) refl refl refl
    (at_each m (do_recheck m t f c) c.place here (λ p other. claimed_other m t f c (again m c) p e settled claim
    (again_place m c) other)) k
  where
    was : spot m c.place ≡ claimed_spot m t f c.place (c ∷ [])
    was = claimed_before m t f c e claim

    claims : claim_at (again m c) c.place
        ≡ (if c.back && not (frame_holds (Some f) c.place || kept_named m t c.place) then fresh c.place
        (is_place f.receipt c.place || others_expect m t c.place) ∷ [] else [])
    claims = by_parts (is_held m c.place) _ (is_expected m c.place) _ (ap (λ (s : Spot). s.held) was)
        (ap (λ (s : Spot). s.expected) was)
      where
        by_parts : (h i x y : Bool) → h ≡ i → x ≡ y → claim_at
            (if c.back && not h then Some (fresh c.place x) else None) c.place ≡
            (if c.back && not i then fresh c.place y ∷ [] else [])
        by_parts h i x y p q = rw (p, q) (some_if (c.back && not i) (fresh c.place y) c.place refl)

    here : load (do_recheck m t f c) c.place ≤ load m c.place
    here = load_by (spot (do_recheck m t f c) c.place) (spot m c.place) _ (claimed_spot m t f c.place (c ∷ []))
        (claimed_after m t f c (again m c) e settled ∙ ap (λ cs. claimed_spot m t f c.place cs) claims) was
        (recheck_burden c (is_some (living_at m.live c.place)) (is_fixed m c.place)
        (frame_holds (Some f) c.place || kept_named m t c.place)
        (is_place f.receipt c.place || others_expect m t c.place)
        (claims_before m t c.place) (claims_behind m t c.place) a (claim_fits m t f c h e claim))

-- every event keeps the count
pub counted_cases : (sc : Scenario) (t : ℕ) (m : Machine) → Fits sc m → is_task sc t ≡ true → Cases sc t m IsCounted
counted_cases sc t m h task = record {
  plain = λ n p. plain_counted sc t m n p h.counted;
  make = λ f v call k x e forming current receipt claim lets eq. made_counted m t f k x
      (handle_of m.live k x) h.spots h.each_once
      (λ none. not_default sc m k x h.different h.default_live
      (asked_value sc m t f v call k x task h.values eq) none) e receipt h.counted;
  refer = λ f v call q e forming current receipt. refer_counted sc.version m t f v call q h.spots h.each_once e
      (still_going f v (fits_at sc t m f h e) forming) forming
      ((fits_at sc t m f h e).claim (ap is_some receipt)) receipt h.counted;
  let_go = λ f q rest e lets receipt claim. let_go_counted m t f q rest h.spots e (fits_at sc t m f h e).answered lets
      claim h.counted;
  ask = λ f c e claim a. asked_counted m t f c c.raced h.spots e claim a
      (claimed_live sc m t f c h e claim a) h.counted;
  recheck = λ f c e claim a. recheck_counted m t f c h.spots e (fits_at sc t m f h e).answered claim a h.counted;
}
