-- Make keeps the facts of every handle.
use Rattle.std.proofs.Common.{◌≡◌, ℕ, ◌+◌, Bool, List, [], ◌∷◌, ◌++◌, refl, true, false, ◌&&◌, ◌||◌, arith, sym, ap, ◌∙◌, subst, length, map, Some, None, Option}
use Rattle.std.specs.Prelude.{is_some, if◌then◌else◌, ◌==◌, nat_lt}
use Rattle.vch_base.specs.declared.key.Key.{Key}
use Rattle.vch_base.specs.Keys.{number_of}
use Rattle.vch_base.specs.Keyed.{of_key}
use Rattle.vch_base.specs.declared.value.Value.{Value}
use Rattle.vch_base.specs.Values.{equal_values, is_default}
use Rattle.vch_machine.specs.State.{Place, same_place, Living, Frame, Machine, tasked, is_place, is_held, is_expected, claims_on, living_at, handle_of}
use Rattle.vch_machine.specs.Frames.{with_frame}
use Rattle.vch_machine.specs.Leaving.{is_fixed}
use Rattle.vch_machine.specs.Making.{race_claim, given_receipt, minted, made_at, fresh_handle}
use Rattle.vch_legal.specs.Facts.{spot, spot_fits, EachOnce, bit, times}
use Rattle.vch_legal.proofs.values.FoundValues.{append_here, append_other}
use Rattle.vch_legal.proofs.facts.Choices.{cases_bool}
use Rattle.vch_legal.proofs.spots.SpotSteps.{one, make_old, make_new, raced_now}
use Rattle.vch_legal.proofs.spots.Places.{same_place_eq, same_place_refl}
use Rattle.vch_legal.proofs.spots.FrameSpots.{one_eq, others_expect, spot_by, spot_set, spot_of, spot_same, task_in_range}
use Rattle.vch_legal.proofs.spots.EventSpots.{AllFit, fits_of}
use Rattle.vch_legal.proofs.spots.ClaimMaps.{spot_on, spot_on_other, race_here, race_other}
use Rattle.vch_legal.proofs.spots.AskSpots.{spot_live}

-- the machine with the receipt, before other claims are raced
abbrev expecting : Machine → ℕ → Frame → Place → Machine
expecting m t f q = with_frame m t (Some (record f { receipt = Some q }))

pub given_other : (m : Machine) (t : ℕ) (f : Frame) (q p : Place) → (tasked m t).frame ≡ Some f → f.receipt ≡ None
    → same_place q p ≡ false
    → spot (given_receipt m t f q) p ≡ spot m p
given_other m t f q p e receipt other =
    spot_on_other (expecting m t f q) (race_claim q) p (λ c. race_other q p c other)
    ∙ spot_same m t f (Some (record f { receipt = Some q })) p e refl
    (other ∙ sym (ap (λ x. is_place x p) receipt)) refl

pub given_here : (m : Machine) (t : ℕ) (f : Frame) (q : Place) → (tasked m t).frame ≡ Some f
    → spot (given_receipt m t f q) q ≡ one (is_some (living_at m.live q)) (is_fixed m q) (is_held m q) true
    (map raced_now (claims_on m q))
given_here m t f q e =
    spot_on (expecting m t f q) (race_claim q) raced_now q (race_here q)
    ∙ one_eq _ _ _ _ _ _ _ _
    (ap (λ s. s.held) before_it ∙ sym (ap (λ s. s.held) (spot_of m t f q e)))
    (ap (λ s. s.expected) before_it ∙ or_left (same_place q q) (others_expect m t q) (same_place_refl q))
    (ap (λ s. map raced_now s.claims) before_it ∙ sym (ap (λ s. map raced_now s.claims) (spot_of m t f q e)))
  where
    before_it : spot (expecting m t f q) q ≡ spot_by m t (Some (record f { receipt = Some q })) q
    before_it = spot_set m t (Some (record f { receipt = Some q })) q (task_in_range m t f e)

    or_left : (a b : Bool) → a ≡ true → (a || b) ≡ true
    or_left a b k = grind arith

-- a receipt for a live value
pub given_fits : (m : Machine) (t : ℕ) (f : Frame) (q : Place) → (tasked m t).frame ≡ Some f → f.receipt ≡ None
    → is_some (living_at m.live q) ≡ true → AllFit m → AllFit (given_receipt m t f q)
given_fits m t f q e receipt live h p =
    cases_bool (same_place q p) (spot_fits (spot (given_receipt m t f q) p) ≡ true)
    (λ here. subst (λ (r : Place). spot_fits (spot (given_receipt m t f q) r) ≡ true) (same_place_eq q p here)
    (fits_of (spot (given_receipt m t f q) q) (one true (is_fixed m q) (is_held m q) true
    (map raced_now (claims_on m q)))
    (given_here m t f q e ∙ ap (λ x. one x (is_fixed m q) (is_held m q) true (map raced_now (claims_on m q))) live)
    (make_old (is_fixed m q) (is_held m q) (is_expected m q) (claims_on m q)
    (fits_of (one true (is_fixed m q) (is_held m q) (is_expected m q) (claims_on m q)) (spot m q)
    (ap (λ x. one x (is_fixed m q) (is_held m q) (is_expected m q) (claims_on m q)) (sym live)) (h q)))))
    (λ other. fits_of (spot (given_receipt m t f q) p) (spot m p) (given_other m t f q p e receipt other) (h p))

-- a receipt for a value that is made at a place that was not live
pub minted_fits : (m : Machine) (t : ℕ) (f : Frame) (k : Key) (x : Value) (q : Place)
    → q ≡ record { key = k; handle = fresh_handle (of_key k m.pools) }
    → (tasked m t).frame ≡ Some f → f.receipt ≡ None
    → living_at m.live q ≡ None → is_default x ≡ false → AllFit m → AllFit (given_receipt (minted m k x) t f q)
minted_fits m t f k x q place e receipt dead plain h p =
    cases_bool (same_place q p) (spot_fits (spot (given_receipt (minted m k x) t f q) p) ≡ true)
    (λ here. subst (λ (r : Place). spot_fits (spot (given_receipt (minted m k x) t f q) r) ≡ true)
    (same_place_eq q p here)
    (fits_of (spot (given_receipt (minted m k x) t f q) q) (one true false (is_held m q) true
    (map raced_now (claims_on m q)))
    (ap (λ l. spot_live l (spot (given_receipt m t f q) q)) made_here
    ∙ (ap (λ s. spot_live (Some made) s) (given_here m t f q e)
    ∙ ap (λ b. one true b (is_held m q) true (map raced_now (claims_on m q))) plain))
    (make_new false (is_held m q) (is_expected m q) (claims_on m q)
    (fits_of (one false false (is_held m q) (is_expected m q) (claims_on m q)) (spot m q)
    (ap (λ l. spot_live l (spot m q)) (sym dead)) (h q)))))
    (λ other. fits_of (spot (given_receipt (minted m k x) t f q) p) (spot m p)
    (ap (λ l. spot_live l (spot (given_receipt m t f q) p)) (append_other m.live made p
    (subst (λ (r : Place). same_place r p ≡ false) place other))
    ∙ given_other m t f q p e receipt other)
    (h p))
  where
    made : Living
    made = record {
      place = record { key = k; handle = fresh_handle (of_key k m.pools) };
      value = x;
      made = length
          m.past + 1;
    }

    made_here : living_at (m.live ++ made ∷ []) q ≡ Some made
    made_here = ap (λ r. living_at (m.live ++ made ∷ []) r) place
        ∙ append_here m.live made (ap (λ r. living_at m.live r) (sym place) ∙ dead)

counted_none : (live : List Living) (p : Place) → times (λ (l : Living). same_place l.place p) live ≡ 0
    → living_at live p ≡ None
counted_none [] p e = refl
counted_none (l ∷ live) p e =
    cases_bool (same_place l.place p) (living_at (l ∷ live) p ≡ None)
    (λ here. let k : 1 + times (λ (l : Living). same_place l.place p) live ≡ 0 = rw here at e in absurd (omega arith))
    (λ other. let k : 0 + times (λ (l : Living). same_place l.place p) live ≡ 0 = rw other at e
    in rw other (counted_none live p (omega arith)))

-- the first free handle, or the next new one, is not counted as live
none_fresh : (n : ℕ) (free : List ℕ) (used : ℕ) → n + times (λ h. h == fresh_handle
    (record { free = free; used = used })) free ≡ bit (nat_lt
    (fresh_handle (record { free = free; used = used })) used) → n ≡ 0
none_fresh n [] used e = grind arith
none_fresh n (h ∷ free) used e = grind arith

-- the next handle is not live
pub fresh_dead : (m : Machine) (k : Key) → EachOnce m → living_at m.live
    (record { key = k; handle = fresh_handle (of_key k m.pools) }) ≡ None
fresh_dead m k once =
    counted_none m.live (record { key = k; handle = fresh_handle (of_key k m.pools) })
    (none_fresh _ (of_key k m.pools).free (of_key k m.pools).used
    (once (record { key = k; handle = fresh_handle (of_key k m.pools) })))

same_some : (a b : ℕ) → Some a ≡ Some b → (a == b) ≡ true
same_some a b e = let k : a ≡ b = cc in grind arith

some_if : (b : Bool) (l : Living) (o : Option Living) → is_some (if b then Some l else o) ≡ (b || is_some o)
some_if true l o = refl
some_if false l o = refl

found_test : (l : Living) (k : Key) (h : ℕ) (rest : Option ℕ) (later : Option Living)
    → (rest ≡ Some h → is_some later ≡ true) → (a b : Bool)
    → (if a && b then Some l.place.handle else rest) ≡ Some h
    → is_some (if a && (l.place.handle == h) then Some l else later) ≡ true
found_test l k h rest later next true true e = some_if (l.place.handle == h) l later
    ∙ (let g : (l.place.handle == h) ≡ true = same_some l.place.handle h e in rw g)
found_test l k h rest later next true false e = some_if (l.place.handle == h) l later
    ∙ (let g : is_some later ≡ true = next e in rw g (or_right (l.place.handle == h)))
  where
    or_right : (c : Bool) → (c || true) ≡ true
    or_right c = grind arith
found_test l k h rest later next false b e = next e

pub found_live : (live : List Living) (k : Key) (x : Value) (h : ℕ) → handle_of live k x ≡ Some h
    → is_some (living_at live (record { key = k; handle = h })) ≡ true
found_live [] k x h e = cc
found_live (l ∷ live) k x h e =
    found_test l k h (handle_of live k x) (living_at live (record { key = k; handle = h }))
    (λ g. found_live live k x h g)
    (number_of l.place.key == number_of k) (equal_values l.value x) e

-- Make with a value keeps the facts of every handle
pub made_fits : (m : Machine) (t : ℕ) (f : Frame) (k : Key) (x : Value) (found : Option ℕ)
    → handle_of m.live k x ≡ found
    → (tasked m t).frame ≡ Some f → f.receipt ≡ None → EachOnce m → (found ≡ None → is_default x ≡ false)
    → AllFit m → AllFit (made_at m t f k x found)
made_fits m t f k x None eq e receipt once plain h =
    minted_fits m t f k x (record { key = k; handle = fresh_handle (of_key k m.pools) }) refl e receipt
    (fresh_dead m k once) (plain refl) h
made_fits m t f k x (Some g) eq e receipt once plain h =
    given_fits m t f (record { key = k; handle = g }) e receipt (found_live m.live k x g eq) h
