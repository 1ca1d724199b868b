-- The live values and the free handles: each handle once, different values, Default, the keys, the tasks and the
-- numbers of
-- the values, through every event.
use Rattle.std.proofs.Common.{inl, inr, ◌≡◌, ℕ, suc, ◌+◌, ◌≤◌, Bool, List, [], ◌∷◌, ◌++◌, refl, true, false, not, ◌&&◌, arith, sym, ap, ◌∙◌, subst, length, Some, None, Option}
use Rattle.std.specs.Prelude.{◌⊎◌, is_some, if◌then◌else◌, ◌==◌, nat_lt}
use Rattle.vch_base.specs.declared.key.Key.{Key}
use Rattle.vch_base.specs.declared.key.Key.TheVariants as keys
use Rattle.vch_base.specs.Keys.{number_of}
use Rattle.vch_base.specs.Keyed.{Keyed, of_key}
use Rattle.vch_base.specs.declared.value.Value.{Value}
use Rattle.vch_base.specs.Values.{equal_values}
use Rattle.vch_model.specs.declared.lists.Scenario.{Scenario}
use Rattle.vch_model.specs.Lines.{is_task}
use Rattle.vch_machine.specs.State.{Place, same_place, Living, Pool, Machine, Claim, Frame, living_at, without_place, handle_of, default_place, default_living, tasked}
use Rattle.vch_machine.specs.Frames.{with_frame, tallied}
use Rattle.vch_machine.specs.Leaving.{released, is_fixed, is_fixed_value, with_answer, one_ask}
use Rattle.vch_machine.specs.Making.{minted, fresh_handle, made_at}
use Rattle.vch_legal.specs.Facts.{Fits, Different, ValueFits, ValuesFit, NumbersFit, bit, times, Spot, spot, spot_fits}
use Rattle.vch_legal.proofs.facts.Choices.{and_left, cases_bool}
use Rattle.vch_legal.proofs.spots.Places.{same_place_eq}
use Rattle.vch_legal.proofs.spots.SpotSteps.{one}
use Rattle.vch_legal.proofs.spots.EventSpots.{fits_of, claimed_spot, claimed_before}
use Rattle.vch_legal.proofs.spots.FrameSpots.{claims_before, claims_behind}
use Rattle.vch_legal.proofs.spots.AskSpots.{without_here, without_other}
use Rattle.vch_legal.proofs.values.FoundValues.{append_here, append_other}
use Rattle.vch_legal.proofs.spots.MakeSpots.{fresh_dead}
use Rattle.vch_legal.proofs.seen.SeenHeld.{values_refl}
use Rattle.vch_legal.proofs.values.Values.{ask_each_once, ask_different, ask_default, make_each_once, found_append}
use Rattle.vch_legal.proofs.values.ValuesMade.{asked_value}
use Rattle.vch_legal.proofs.facts.Cases.{Cases}

abbrev OnceOf : List Living → Keyed Pool → Type 0
OnceOf live pools = (p : Place) →
    times (λ (l : Living). same_place l.place p) live + times (λ h. h == p.handle) (of_key p.key pools).free
    ≡ bit (nat_lt p.handle (of_key p.key pools).used)

-- all that is kept of the live values; n is the number of entries of the history
pub record LiveFits (sc : Scenario) (live : List Living) (pools : Keyed Pool) (n : ℕ) : Type 0 where
  pub each_once : OnceOf live pools
  pub different : Different live
  pub default_live : living_at live default_place ≡ Some default_living
  pub values : ValuesFit sc live
  pub numbers : NumbersFit n live

abbrev pub LiveOf : Scenario → Machine → Type 0
LiveOf sc m = LiveFits sc m.live m.pools (length m.past)

pub live_of : (sc : Scenario) (m : Machine) → Fits sc m → LiveOf sc m
live_of sc m h = record {
  each_once = h.each_once;
  different = h.different;
  default_live = h.default_live;
  values =
      h.values;
  numbers = h.numbers;
}

numbers_older : (n o : ℕ) (live : List Living) → n ≤ o → NumbersFit n live → NumbersFit o live
numbers_older n o live l h = record {
  within = λ p a e. le_then (h.within p a e) l;
  counted = h.counted;
  once = h.once;
}
  where
    le_then : {a b c : ℕ} → a ≤ b → b ≤ c → a ≤ c
    le_then x y = omega arith

-- more entries, and the same values
live_older : (sc : Scenario) (live : List Living) (pools : Keyed Pool) (n o : ℕ) → n ≤ o → LiveFits sc live pools n
    → LiveFits sc live pools o
live_older sc live pools n o l h =
    record {
      each_once = h.each_once;
      different = h.different;
      default_live = h.default_live;
      values = h.values;
      numbers = numbers_older n o live l h.numbers;
    }

live_same : (sc : Scenario) (m n : Machine) → n.live ≡ m.live → n.pools ≡ m.pools → length m.past ≤ length n.past
    → LiveOf sc m → LiveOf sc n
live_same sc m n e g l h =
    subst (λ (x : List Living). LiveFits sc x n.pools (length n.past)) (sym e)
    (subst (λ (y : Keyed Pool). LiveFits sc m.live y (length n.past)) (sym g)
    (live_older sc m.live m.pools (length m.past) (length n.past) l h))

-- Ask

not_none : (a : Living) (o : Option Living) → o ≡ None → o ≡ Some a → ⊥
not_none a o e g = cc

apart_of : (live : List Living) (q p : Place) (a : Living) → living_at (without_place live q) p ≡ Some a
    → same_place q p ≡ false
apart_of live q p a e =
    cases_bool (same_place q p) (same_place q p ≡ false)
    (λ here. absurd (not_none a _ (subst (λ (r : Place). living_at (without_place live q) r ≡ None)
    (same_place_eq q p here) (without_here live q)) e))
    (λ other. other)

-- what is live after, was before
pub still_living : (live : List Living) (q p : Place) (a : Living) → living_at (without_place live q) p ≡ Some a
    → living_at live p ≡ Some a
still_living live q p a e = sym (without_other live q p (apart_of live q p a e)) ∙ e

without_numbers : (n : ℕ) (live : List Living) (q : Place) → NumbersFit n live → NumbersFit n (without_place live q)
without_numbers n live q h = record {
  within = λ p a e. h.within p a (still_living live q p a e);
  counted = λ p a e. h.counted p a (still_living live q p a e);
  once = λ p r a b e g. h.once p r a b (still_living live q p a e) (still_living live q r b g);
}

one_more : (n : ℕ) → n ≤ suc n
one_more n = omega arith

pub released_live : (sc : Scenario) (m : Machine) (q : Place) (a : Living) → living_at m.live q ≡ Some a
    → same_place q default_place ≡ false → LiveOf sc m → LiveOf sc (released m q)
released_live sc m q a e other h = record {
  each_once = ask_each_once m q a e h.each_once;
  different = ask_different m.live q h.different;
  default_live = ask_default m.live q other h.default_live;
  values = λ p b g. h.values p b (still_living m.live q p b g);
  numbers = numbers_older (length m.past) (suc (length m.past)) (without_place m.live q) (one_more (length m.past))
      (without_numbers (length m.past) m.live q h.numbers);
}

-- a handle with a claim that was not asked is live, and not Default's
claim_alone : (live fixed held expected : Bool) (c : Claim) (xs ys : List Claim) → is_some c.answer ≡ false
    → spot_fits (one live fixed held expected (xs ++ (c ∷ ys))) ≡ true → (live && not fixed) ≡ true
claim_alone live fixed held expected c [] [] a h = grind arith
claim_alone live fixed held expected c [] (d ∷ ys) a h = grind arith
claim_alone live fixed held expected c (d ∷ []) ys a h = grind arith
claim_alone live fixed held expected c (d ∷ e ∷ xs) ys a h = grind arith

-- what is known of the value of a claim that was not asked
pub record Claimed (m : Machine) (q : Place) : Type 0 where
  pub value : Living
  pub live : living_at m.live q ≡ Some value
  pub other : same_place q default_place ≡ false

pub claimed_live : (sc : Scenario) (m : Machine) (t : ℕ) (f : Frame) (c : Claim) → Fits sc m
    → (tasked m t).frame ≡ Some f → f.claim ≡ Some c → is_some c.answer ≡ false → Claimed m c.place
claimed_live sc m t f c h e claim a =
    of_living (living_at m.live c.place) refl
    (claim_alone (is_some (living_at m.live c.place)) (is_fixed m c.place) (s.held) (s.expected) c
    (claims_before m t c.place) (claims_behind m t c.place) a
    (fits_of s (spot m c.place) (sym (claimed_before m t f c e claim)) (h.spots c.place)))
  where
    s : Spot
    s = claimed_spot m t f c.place (c ∷ [])

    right_of : (x y : Bool) → (x && not y) ≡ true → y ≡ false
    right_of x y g = grind arith

    fixed_default : is_fixed m default_place ≡ true
    fixed_default = ap is_fixed_value h.default_live

    of_living : (o : Option Living) → living_at m.live c.place ≡ o
        → (is_some (living_at m.live c.place) && not (is_fixed m c.place)) ≡ true → Claimed m c.place
    of_living None g k = absurd (no_value (living_at m.live c.place) g
        (and_left (is_some (living_at m.live c.place)) (not (is_fixed m c.place)) k))
      where
        no_value : (o : Option Living) → o ≡ None → is_some o ≡ true → ⊥
        no_value None x i = let j : false ≡ true = i in cc
        no_value (Some a) x i = cc
    of_living (Some a) g k = record {
      value = a;
      live = g;
      other = cases_bool (same_place c.place default_place) (same_place c.place default_place ≡ false)
          (λ here. absurd (both_ways (is_fixed m c.place) (subst (λ (r : Place). is_fixed m r ≡ true)
          (sym (same_place_eq c.place default_place here)) fixed_default)
          (right_of (is_some (living_at m.live c.place)) (is_fixed m c.place) k)))
          (λ other. other);
    }
      where
        both_ways : (b : Bool) → b ≡ true → b ≡ false → ⊥
        both_ways b x y = cc

-- Make

kept_append : (live : List Living) (l : Living) (p : Place) (a : Living) → living_at live p ≡ Some a
    → living_at (live ++ l ∷ []) p ≡ Some a
kept_append [] l p a e = cc
kept_append (x ∷ live) l p a e =
    cases_bool (same_place x.place p) (living_at (x ∷ live ++ l ∷ []) p ≡ Some a)
    (λ here. let k : Some x ≡ Some a = rw here at e in rw here k)
    (λ other. let k : living_at live p ≡ Some a = rw other at e in rw other (kept_append live l p a k))

-- a value that was not there is found at its new handle
found_new : (live : List Living) (l : Living) → handle_of live l.place.key l.value ≡ None
    → handle_of (live ++ l ∷ []) l.place.key l.value ≡ Some l.place.handle
found_new [] l e = rw (key_refl l.place.key, values_refl l.value) refl
  where
    key_refl : (k : Key) → (number_of k == number_of k) ≡ true
    key_refl keys.Importance = refl
    key_refl keys.Bank = refl
    key_refl keys.User = refl
    key_refl keys.Test = refl
found_new (x ∷ live) l e =
    cases_bool ((number_of x.place.key == number_of l.place.key) && equal_values x.value l.value)
    (handle_of (x ∷ live ++ l ∷ []) l.place.key l.value ≡ Some l.place.handle)
    (λ here. let k : Some x.place.handle ≡ None = rw here at e in cc)
    (λ other. let k : handle_of live l.place.key l.value ≡ None = rw other at e in rw other (found_new live l k))

-- a live value of the longer list: the new one, or an old one
abbrev OldOrNew : (live : List Living) → Living → Place → Living → Type 0
OldOrNew live l p a = ((same_place l.place p ≡ true) × (l.place ≡ p) × (l ≡ a)) ⊎
    ((same_place l.place p ≡ false) × (living_at live p ≡ Some a))

old_or_new : (live : List Living) (l : Living) (p : Place) (a : Living) → living_at live l.place ≡ None
    → living_at (live ++ l ∷ []) p ≡ Some a → OldOrNew live l p a
old_or_new live l p a dead e =
    by_test (same_place l.place p) refl
  where
    some_eq : {x y : Living} → Some x ≡ Some y → x ≡ y
    some_eq g = cc

    by_test : (b : Bool) → same_place l.place p ≡ b → OldOrNew live l p a
    by_test true here = let g : l.place ≡ p = same_place_eq l.place p here
        in inl (here, g, some_eq (sym (append_here live l dead) ∙ (ap (λ r. living_at (live ++ l ∷ []) r) g ∙ e)))
    by_test false other = inr (other, sym (append_other live l p other) ∙ e)

pub minted_live : (sc : Scenario) (m : Machine) (k : Key) (x : Value) → ValueFits sc k x → handle_of m.live k x ≡ None
    → LiveOf sc m → LiveOf sc (minted m k x)
minted_live sc m k x good absent h = record {
  each_once = make_each_once m k x h.each_once;
  different = different;
  default_live = kept_append m.live l default_place default_living h.default_live;
  values = values_;
  numbers = record { within = within; counted = counted; once = once };
}
  where
    q : Place
    q = record { key = k; handle = fresh_handle (of_key k m.pools) }

    l : Living
    l = record {
      place = record { key = k; handle = fresh_handle (of_key k m.pools) };
      value = x;
      made = length m.past
          + 1;
    }

    dead : living_at m.live q ≡ None
    dead = fresh_dead m k h.each_once

    split : (p : Place) (a : Living) → living_at (m.live ++ l ∷ []) p ≡ Some a → OldOrNew m.live l p a
    split p a e = old_or_new m.live l p a dead e

    different : Different (m.live ++ l ∷ [])
    different p a e = elim (split p a e) as (λ _. handle_of (m.live ++ l ∷ []) p.key a.value ≡ Some p.handle) [
      | inl new ↦ subst (λ (r : Place). handle_of (m.live ++ l ∷ []) r.key a.value ≡ Some r.handle) new.1
          (subst (λ (b : Living). handle_of (m.live ++ l ∷ []) k b.value ≡ Some q.handle) new.2
          (found_new m.live l absent))
      | inr old ↦ found_append m.live l p.key a.value p.handle (h.different p a old.1)
    ]

    values_ : ValuesFit sc (m.live ++ l ∷ [])
    values_ p a e = elim (split p a e) as (λ _. ValueFits sc p.key a.value) [
      | inl new ↦ subst (λ (r : Place). ValueFits sc r.key a.value) new.1
          (subst (λ (b : Living). ValueFits sc k b.value) new.2 good)
      | inr old ↦ h.values p a old.1
    ]

    within : (p : Place) (a : Living) → living_at (m.live ++ l ∷ []) p ≡ Some a → a.made ≤ suc (length m.past)
    within p a e = elim (split p a e) as (λ _. a.made ≤ suc (length m.past)) [
      | inl new ↦ subst (λ (b : Living). b.made ≤ suc (length m.past)) new.2 (same_number_ (length m.past))
      | inr old ↦ older a.made (length m.past) (h.numbers.within p a old.1)
    ]
      where
        same_number_ : (n : ℕ) → n + 1 ≤ suc n
        same_number_ n = omega arith

        older : (i n : ℕ) → i ≤ n → i ≤ suc n
        older i n g = omega arith

    counted : (p : Place) (a : Living) → living_at (m.live ++ l ∷ []) p ≡ Some a → same_place p default_place ≡ false
        → 1 ≤ a.made
    counted p a e other = elim (split p a e) as (λ _. 1 ≤ a.made) [
      | inl new ↦ subst (λ (b : Living). 1 ≤ b.made) new.2 (at_least (length m.past))
      | inr old ↦ h.numbers.counted p a old.1 other
    ]
      where
        at_least : (n : ℕ) → 1 ≤ n + 1
        at_least n = omega arith

    no_number : (n i : ℕ) → i ≤ n → n + 1 ≡ i → ⊥
    no_number n i g k = omega arith

    once : (p r : Place) (a b : Living) → living_at (m.live ++ l ∷ []) p ≡ Some a
        → living_at (m.live ++ l ∷ []) r ≡ Some b → a.made ≡ b.made → p ≡ r
    once p r a b e g same = elim (split p a e) as (λ _. p ≡ r) [
      | inl new ↦ elim (split r b g) as (λ _. p ≡ r) [
        | inl new2 ↦ sym new.1 ∙ new2.1
        | inr old2 ↦ absurd (no_number (length m.past) b.made (h.numbers.within r b old2.1)
            (ap (λ (y : Living). y.made) new.2 ∙ same))
      ]
      | inr old ↦ elim (split r b g) as (λ _. p ≡ r) [
        | inl new2 ↦ absurd (no_number (length m.past) a.made (h.numbers.within p a old.1)
            (ap (λ (y : Living). y.made) new2.2 ∙ sym same))
        | inr old2 ↦ h.numbers.once p r a b old.1 old2.1 same
      ]
    ]

made_live : (sc : Scenario) (m : Machine) (t : ℕ) (f : Frame) (k : Key) (x : Value) (found : Option ℕ)
    → handle_of m.live k x ≡ found → ValueFits sc k x → LiveOf sc m → LiveOf sc (made_at m t f k x found)
made_live sc m t f k x None e good h = minted_live sc m k x good e h
made_live sc m t f k x (Some g) e good h = h

asked_live : (sc : Scenario) (m : Machine) (t : ℕ) (f : Frame) (c : Claim) (b : Bool) → Claimed m c.place → LiveOf sc m
    → LiveOf sc (tallied one_ask (if b then with_frame m t (with_answer f c false) else with_frame
    (released m c.place) t (with_answer f c true)))
asked_live sc m t f c true claimed h = h
asked_live sc m t f c false claimed h = released_live sc m c.place claimed.value claimed.live claimed.other h

-- every event keeps what is kept of the live values
pub live_cases : (sc : Scenario) (t : ℕ) (m : Machine) → Fits sc m → is_task sc t ≡ true
    → Cases sc t m (λ n. LiveOf sc n)
live_cases sc t m h task = record {
  plain = λ n p. live_same sc m n p.live p.pools p.older old;
  make = λ f v call k x e forming current receipt claim lets eq. made_live sc m t f k x (handle_of m.live k x) refl
      (asked_value sc m t f v call k x task h.values eq) old;
  refer = λ f v call q e forming current receipt. old;
  let_go = λ f q rest e lets receipt claim. old;
  ask = λ f c e claim a. asked_live sc m t f c c.raced (claimed_live sc m t f c h e claim a) old;
  recheck = λ f c e claim a. old;
}
  where
    old : LiveOf sc m
    old = live_of sc m h
