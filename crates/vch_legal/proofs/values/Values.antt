-- The live values and the free handles of a key.
use Rattle.std.proofs.Common.{◌≡◌, ℕ, ◌+◌, ◌≤◌, Bool, List, [], ◌∷◌, ◌++◌, refl, true, false, ◌&&◌, arith, sym, ap, ◌∙◌, subst, length, Some, None}
use Rattle.std.specs.Prelude.{if◌then◌else◌, ◌==◌, nat_lt}
use Rattle.vch_base.specs.declared.key.Key.{Key}
use Rattle.vch_base.specs.Keys.{number_of}
use Rattle.vch_base.specs.Keyed.{Keyed, of_key, with_key}
use Rattle.vch_base.proofs.CallerLemmas.{with_of}
use Rattle.vch_base.specs.declared.value.Value.{Value}
use Rattle.vch_base.specs.Values.{equal_values}
use Rattle.vch_machine.specs.State.{Place, same_place, Living, Pool, Machine, living_at, without_place, handle_of, default_place, default_living}
use Rattle.vch_machine.specs.Leaving.{released, more_free}
use Rattle.vch_machine.specs.Making.{minted, fresh_handle, fewer_free}
use Rattle.vch_legal.specs.Facts.{EachOnce, Different, bit, times}
use Rattle.vch_legal.proofs.facts.Choices.{and_left, cases_bool}
use Rattle.vch_legal.proofs.spots.Places.{same_key, same_place_eq, same_place_refl, same_place_comm}
use Rattle.vch_legal.proofs.spots.AskSpots.{without_here, without_other}

pub of_with : {A : Type 0} (k g : Key) (a : A) (x : Keyed A)
    → of_key g (with_key k a x) ≡ (if number_of k == number_of g then a else of_key g x)
of_with k g a x = with_of g k a x ∙ ap (λ b. if b then a else of_key g x) (turned k g)
  where
    turned : (k g : Key) → (number_of g == number_of k) ≡ (number_of k == number_of g)
    turned k g = grind arith

pub of_same : {A : Type 0} (k : Key) (a : A) (x : Keyed A) → of_key k (with_key k a x) ≡ a
of_same k a x = of_with k k a x ∙ ap (λ b. if b then a else of_key k x) (itself k)
  where
    itself : (k : Key) → (number_of k == number_of k) ≡ true
    itself k = grind arith

abbrev at_place : Place → Living → Bool
at_place p l = same_place l.place p

times_gone : (live : List Living) (q : Place) → times (at_place q) (without_place live q) ≡ 0
times_gone [] q = refl
times_gone (l ∷ live) q =
    cases_bool (same_place l.place q) (times (at_place q) (without_place (l ∷ live) q) ≡ 0)
    (λ here. rw here (times_gone live q))
    (λ other. let e : times (at_place q) (without_place live q) ≡ 0 = times_gone live q in rw (other, other, e))

times_kept : (live : List Living) (q p : Place) → same_place q p ≡ false
    → times (at_place p) (without_place live q) ≡ times (at_place p) live
times_kept [] q p e = refl
times_kept (l ∷ live) q p e =
    cases_bool (same_place l.place q) (times (at_place p) (without_place (l ∷ live) q) ≡ times (at_place p) (l ∷ live))
    (λ here. let k : same_place l.place p ≡ false = rw (same_place_eq l.place q here) e in
    let i : times (at_place p) (without_place live q) ≡ times (at_place p) live =
    times_kept live q p e in rw (here, k, i) (omega arith))
    (λ other. let i : times (at_place p) (without_place live q) ≡ times (at_place p) live = times_kept live q p e
    in rw (other, i))

times_live : (live : List Living) (q : Place) (a : Living) → living_at live q ≡ Some a → 1 ≤ times (at_place q) live
times_live [] q a e = cc
times_live (l ∷ live) q a e =
    cases_bool (same_place l.place q) (1 ≤ times (at_place q) (l ∷ live))
    (λ here. rw here (omega arith))
    (λ other. let k : living_at live q ≡ Some a = rw other at e
    in let i : 1 ≤ times (at_place q) live = times_live live q a k in rw other (omega arith))

times_append : {X : Type 0} (p : X → Bool) (xs : List X) (x : X) → times p (xs ++ x ∷ []) ≡ times p xs + bit (p x)
times_append p [] x = omega arith
times_append p (y ∷ xs) x = let i : times p (xs ++ x ∷ []) ≡ times p xs + bit (p x) =
    times_append p xs x in rw i (omega arith)

-- one key's sums
ask_sum_here : (n h used : ℕ) (free : List ℕ) → 1 ≤ n → n + times (λ g. g == h) free ≡ bit (nat_lt h used)
    → 0 + times (λ g. g == h) (h ∷ free) ≡ bit (nat_lt h used)
ask_sum_here n h used free l e = grind arith

ask_sum_other : (n h g used : ℕ) (free : List ℕ) → (h == g) ≡ false → n + times (λ i. i == g) free
    ≡ bit (nat_lt g used)
    → n + times (λ i. i == g) (h ∷ free) ≡ bit (nat_lt g used)
ask_sum_other n h g used free o e = grind arith

make_sum_here : (n used : ℕ) (free : List ℕ) → n + times (λ i. i == fresh_handle
    (record { free = free; used = used })) free ≡ bit (nat_lt
    (fresh_handle (record { free = free; used = used })) used)
    → (n + 1) + times (λ i. i == fresh_handle (record { free = free; used = used }))
    (fewer_free (record { free = free; used = used })).free
    ≡ bit (nat_lt (fresh_handle (record { free = free; used = used }))
    (fewer_free (record { free = free; used = used })).used)
make_sum_here n used [] e = grind arith
make_sum_here n used (h ∷ free) e = grind arith

make_sum_other : (n g used : ℕ) (free : List ℕ) → (fresh_handle (record { free = free; used = used }) == g) ≡ false
    → n + times (λ i. i == g) free ≡ bit (nat_lt g used)
    → n + times (λ i. i == g) (fewer_free (record { free = free; used = used })).free ≡ bit
    (nat_lt g (fewer_free (record { free = free; used = used })).used)
make_sum_other n g used [] o e = grind arith
make_sum_other n g used (h ∷ free) o e = grind arith

-- the sum of one place
abbrev SumAt : List Living → Pool → Place → Type 0
SumAt live pool p = times (at_place p) live + times (λ h. h == p.handle) pool.free ≡ bit (nat_lt p.handle pool.used)

other_handle : (q p : Place) → same_place q p ≡ false → (number_of q.key == number_of p.key) ≡ true
    → (q.handle == p.handle) ≡ false
other_handle q p e k = from_and (number_of q.key == number_of p.key) (q.handle == p.handle) k e
  where
    from_and : (a b : Bool) → a ≡ true → (a && b) ≡ false → b ≡ false
    from_and a b x y = grind arith

-- Ask keeps each handle once
pub ask_each_once : (m : Machine) (q : Place) (a : Living) → living_at m.live q ≡ Some a → EachOnce m
    → EachOnce (released m q)
ask_each_once m q a live once p =
    cases_bool (same_place q p) (SumAt (without_place m.live q)
    (of_key p.key (with_key q.key (more_free (of_key q.key m.pools) q.handle) m.pools)) p)
    (λ here. subst (λ (r : Place). SumAt (without_place m.live q)
    (of_key r.key (with_key q.key (more_free (of_key q.key m.pools) q.handle) m.pools)) r)
    (same_place_eq q p here) at_q)
    (λ other. cases_bool (number_of q.key == number_of p.key)
    (SumAt (without_place m.live q) (of_key p.key (with_key q.key
    (more_free (of_key q.key m.pools) q.handle) m.pools)) p)
    (λ k. with_pool _ (of_with q.key p.key (more_free (of_key q.key m.pools) q.handle) m.pools ∙ if_true _ _ k) other
    (same_pool k (ask_sum_other (times (at_place p) m.live) q.handle p.handle (of_key p.key m.pools).used
    (of_key p.key m.pools).free (other_handle q p other k) (once p))))
    (λ k. with_pool _ (of_with q.key p.key (more_free (of_key q.key m.pools) q.handle) m.pools ∙ if_false _ _ k) other
    (once p)))
  where
    at_q : SumAt (without_place m.live q) (of_key q.key (with_key q.key
        (more_free (of_key q.key m.pools) q.handle) m.pools)) q
    at_q = subst (λ (x : Pool). SumAt (without_place m.live q) x q)
        (sym (of_same q.key (more_free (of_key q.key m.pools) q.handle) m.pools))
        (subst (λ n. n + times (λ h. h == q.handle) (q.handle ∷ (of_key q.key m.pools).free) ≡ bit
        (nat_lt q.handle (of_key q.key m.pools).used)) (sym (times_gone m.live q))
        (ask_sum_here (times (at_place q) m.live) q.handle (of_key q.key m.pools).used (of_key q.key m.pools).free
        (times_live m.live q a live) (once q)))

    if_true : (y z : Pool) → (number_of q.key == number_of p.key) ≡ true
        → (if number_of q.key == number_of p.key then y else z) ≡ y
    if_true y z k = rw k

    if_false : (y z : Pool) → (number_of q.key == number_of p.key) ≡ false
        → (if number_of q.key == number_of p.key then y else z) ≡ z
    if_false y z k = rw k

    with_pool : (x : Pool) → of_key p.key (with_key q.key (more_free (of_key q.key m.pools) q.handle) m.pools) ≡ x
        → same_place q p ≡ false → SumAt m.live x p
        → SumAt (without_place m.live q) (of_key p.key (with_key q.key
        (more_free (of_key q.key m.pools) q.handle) m.pools)) p
    with_pool x e other s = subst (λ (y : Pool). SumAt (without_place m.live q) y p) (sym e)
        (subst (λ n. n + times (λ h. h == p.handle) x.free ≡ bit (nat_lt p.handle x.used))
        (sym (times_kept m.live q p other)) s)

    same_pool : (number_of q.key == number_of p.key) ≡ true → SumAt m.live
        (more_free (of_key p.key m.pools) q.handle) p → SumAt m.live (more_free (of_key q.key m.pools) q.handle) p
    same_pool k s = subst (λ (g : Key). SumAt m.live (more_free (of_key g m.pools) q.handle) p)
        (sym (same_key q.key p.key k)) s

-- Different values
found_kept : (live : List Living) (q : Place) (k : Key) (x : Value) (h : ℕ)
    → same_place q (record { key = k; handle = h }) ≡ false
    → handle_of live k x ≡ Some h → handle_of (without_place live q) k x ≡ Some h
found_kept [] q k x h o e = cc
found_kept (l ∷ live) q k x h o e =
    cases_bool ((number_of l.place.key == number_of k) && equal_values l.value x)
    (handle_of (without_place (l ∷ live) q) k x ≡ Some h)
    (λ match_. let i : Some l.place.handle ≡ Some h = rw match_ at e in
    let here : same_place l.place q ≡ false = not_here (number_of l.place.key == number_of k)
    (equal_values l.value x) refl match_ i in
    rw (here, match_) i)
    (λ fails. let i : handle_of live k x ≡ Some h = rw fails at e in
    cases_bool (same_place l.place q) (handle_of (without_place (l ∷ live) q) k x ≡ Some h)
    (λ here. rw here (found_kept live q k x h o i))
    (λ other. rw (other, fails) (found_kept live q k x h o i)))
  where
    some_eq : (a b : ℕ) → Some a ≡ Some b → a ≡ b
    some_eq a b g = cc

    place_eq : (p r : Place) → p.key ≡ r.key → p.handle ≡ r.handle → same_place p q ≡ false → same_place r q ≡ false
    place_eq p r f g n = rw (sym f, sym g) n

    flipped : same_place (record { key = k; handle = h }) q ≡ false
    flipped = same_place_comm (record { key = k; handle = h }) q ∙ o

    not_here : (a b : Bool) → a ≡ (number_of l.place.key == number_of k) → (a && b) ≡ true
        → Some l.place.handle ≡ Some h → same_place l.place q ≡ false
    not_here a b f g i =
        place_eq (record { key = k; handle = h }) l.place (sym (same_key l.place.key k (sym f ∙ and_left a b g)))
        (sym (some_eq l.place.handle h i)) flipped

pub ask_different : (live : List Living) (q : Place) → Different live → Different (without_place live q)
ask_different live q d p a e =
    cases_bool (same_place q p) (handle_of (without_place live q) p.key a.value ≡ Some p.handle)
    (λ here. let k : living_at (without_place live q) p ≡ None = subst
    (λ (r : Place). living_at (without_place live q) r ≡ None) (same_place_eq q p here) (without_here live q)
    in cc)
    (λ other. found_kept live q p.key a.value p.handle other (d p a (sym (without_other live q p other) ∙ e)))

pub found_append : (live : List Living) (l : Living) (k : Key) (x : Value) (h : ℕ) → handle_of live k x ≡ Some h
    → handle_of (live ++ l ∷ []) k x ≡ Some h
found_append [] l k x h e = cc
found_append (y ∷ live) l k x h e =
    cases_bool ((number_of y.place.key == number_of k) && equal_values y.value x)
    (handle_of (y ∷ live ++ l ∷ []) k x ≡ Some h)
    (λ here. let i : Some y.place.handle ≡ Some h = rw here at e in rw here i)
    (λ other. let i : handle_of live k x ≡ Some h = rw other at e in rw other (found_append live l k x h i))

-- Ask never takes Default away
pub ask_default : (live : List Living) (q : Place) → same_place q default_place ≡ false
    → living_at live default_place ≡ Some default_living → living_at (without_place live q) default_place
    ≡ Some default_living
ask_default live q o e = without_other live q default_place o ∙ e

-- Make keeps each handle once
pub make_each_once : (m : Machine) (k : Key) (x : Value) → EachOnce m → EachOnce (minted m k x)
make_each_once m k x once p =
    cases_bool (same_place q p) (SumAt (m.live ++ made ∷ []) (of_key p.key (with_key k (fewer_free pool) m.pools)) p)
    (λ here. subst (λ (r : Place). SumAt (m.live ++ made ∷ [])
    (of_key r.key (with_key k (fewer_free pool) m.pools)) r) (same_place_eq q p here)
    (subst (λ (y : Pool). SumAt (m.live ++ made ∷ []) y q) (sym (of_same k (fewer_free pool) m.pools))
    (subst (λ n. n + times (λ h. h == q.handle) (fewer_free pool).free ≡ bit (nat_lt q.handle (fewer_free pool).used))
    (sym counted_here)
    (make_sum_here (times (at_place q) m.live) pool.used pool.free (once q)))))
    (λ other. cases_bool (number_of k == number_of p.key) (SumAt (m.live ++ made ∷ [])
    (of_key p.key (with_key k (fewer_free pool) m.pools)) p)
    (λ same. with_pool (fewer_free pool) (of_with k p.key (fewer_free pool) m.pools ∙ if_true _ _ same) other
    (make_sum_other (times (at_place p) m.live) p.handle pool.used pool.free (other_handle q p other same)
    (subst (λ (g : Key). SumAt m.live (of_key g m.pools) p) (sym (same_key k p.key same)) (once p))))
    (λ apart. with_pool (of_key p.key m.pools) (of_with k p.key (fewer_free pool) m.pools ∙ if_false _ _ apart) other
    (once p)))
  where
    pool : Pool
    pool = of_key k m.pools

    q : Place
    q = record { key = k; handle = fresh_handle (of_key k m.pools) }

    made : Living
    made = record {
      place = record { key = k; handle = fresh_handle (of_key k m.pools) };
      value = x;
      made = length
          m.past + 1;
    }

    counted_here : times (at_place q) (m.live ++ made ∷ []) ≡ times (at_place q) m.live + 1
    counted_here = times_append (at_place q) m.live made ∙ ap (λ b. times (at_place q) m.live + bit b)
        (same_place_refl q)

    counted_other : same_place q p ≡ false → times (at_place p) (m.live ++ made ∷ []) ≡ times (at_place p) m.live
    counted_other other = times_append (at_place p) m.live made
        ∙ (ap (λ b. times (at_place p) m.live + bit b) other ∙ zero_more (times (at_place p) m.live))
      where
        zero_more : (n : ℕ) → n + 0 ≡ n
        zero_more n = omega arith

    if_true : (y z : Pool) → (number_of k == number_of p.key) ≡ true
        → (if number_of k == number_of p.key then y else z) ≡ y
    if_true y z e = rw e

    if_false : (y z : Pool) → (number_of k == number_of p.key) ≡ false
        → (if number_of k == number_of p.key then y else z) ≡ z
    if_false y z e = rw e

    with_pool : (y : Pool) → of_key p.key (with_key k (fewer_free pool) m.pools) ≡ y → same_place q p ≡ false
        → SumAt m.live y p
        → SumAt (m.live ++ made ∷ []) (of_key p.key (with_key k (fewer_free pool) m.pools)) p
    with_pool y e other s = subst (λ (z : Pool). SumAt (m.live ++ made ∷ []) z p) (sym e)
        (subst (λ n. n + times (λ h. h == p.handle) y.free ≡ bit (nat_lt p.handle y.used))
        (sym (counted_other other)) s)
