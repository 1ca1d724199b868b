-- The live values of the machine and those that the store lists.
use Rattle.std.proofs.Common.{◌≡◌, ℕ, ◌+◌, ◌≤◌, Bool, List, [], ◌∷◌, refl, true, false, ◌&&◌, ◌||◌, arith, sym, ap, ◌∙◌, subst, Some, None, Option}
use Rattle.std.specs.Prelude.{◌==◌, nat_lt, is_some}
use Rattle.std.specs.List.{list_any, list_all, flat_map}
use Rattle.vch_base.specs.declared.key.Key.{Key}
use Rattle.vch_base.specs.declared.key.Key.TheVariants as keys
use Rattle.vch_base.specs.Keys.{number_of, every_key}
use Rattle.vch_base.specs.declared.value.Value.{Value}
use Rattle.vch_base.specs.declared.value.Value.TheVariants as values
use Rattle.vch_base.specs.Values.{Belongs, equal_values, is_default}
use Rattle.vch_model.specs.declared.lists.Scenario.{Scenario}
use Rattle.vch_model.specs.Store.{Alive, is_alive, is_live, option_live, all_live}
use Rattle.vch_model.specs.After.{without_made}
use Rattle.vch_model.specs.Legal.{find_made}
use Rattle.vch_base.specs.Keyed.{of_key}
use Rattle.vch_machine.specs.State.{Handles, Place, same_place, Living, Machine, living_at, without_place, handle_of, value_of, value_at, valued, alive_of, seen, default_living, default_place}
use Rattle.vch_legal.specs.Facts.{Fits, EachOnce, bit, times}
use Rattle.vch_legal.proofs.spots.Places.{same_place_eq, same_place_refl, same_number}
use Rattle.vch_legal.proofs.facts.Choices.{cases_bool, not_true, some_eq}
use Rattle.vch_legal.proofs.forming.Forming.{LiveAt}
use Rattle.vch_legal.proofs.seen.SeenHeld.{values_refl, value_at_key}
use Rattle.vch_legal.proofs.seen.SeenNames.{LiveAll}
use Rattle.vch_legal.proofs.seen.SeenReleased.{Numbered}

-- no place has two live values
abbrev pub AtMostOnce : List Living → Type 0
AtMostOnce live = (p : Place) → times (λ (l : Living). same_place l.place p) live ≤ 1

pub once_tail : (l : Living) (live : List Living) → AtMostOnce (l ∷ live) → AtMostOnce live
once_tail l live h p = let a : bit (same_place l.place p) + times (λ (l : Living). same_place l.place p) live ≤ 1 = h
    p in omega arith

none_more : (l : Living) (live : List Living) (p : Place) → AtMostOnce (l ∷ live) → same_place l.place p ≡ true
    → times (λ (l : Living). same_place l.place p) live ≡ 0
none_more l live p h e = let a : bit true + times (λ (l : Living). same_place l.place p) live ≤ 1 = subst
    (λ b. bit b + times (λ (l : Living). same_place l.place p) live ≤ 1) e (h p) in omega arith

none_found : (live : List Living) (p : Place) → times (λ (l : Living). same_place l.place p) live ≡ 0
    → living_at live p ≡ None
none_found [] p e = refl
none_found (l ∷ live) p e =
    cases_bool (same_place l.place p) (living_at (l ∷ live) p ≡ None)
    (λ here. let a : 1 + times (λ (l : Living). same_place l.place p) live ≡ 0 = rw here at e in absurd (omega arith))
    (λ other. let k : 0 + times (λ (l : Living). same_place l.place p) live
    ≡ 0 = rw other at e in rw other (none_found live p (omega arith)))

nothing_gone : (live : List Living) (p : Place) → times (λ (l : Living). same_place l.place p) live ≡ 0
    → without_place live p ≡ live
nothing_gone [] p e = refl
nothing_gone (l ∷ live) p e =
    cases_bool (same_place l.place p) (without_place (l ∷ live) p ≡ l ∷ live)
    (λ here. let a : 1 + times (λ (l : Living). same_place l.place p) live ≡ 0 = rw here at e in absurd (omega arith))
    (λ other. let k : 0 + times (λ (l : Living). same_place l.place p) live
    ≡ 0 = rw other at e in rw other (ap (λ xs. l ∷ xs) (nothing_gone live p (omega arith))))

-- what is found behind is found
pub found_behind : (l : Living) (live : List Living) (p : Place) (a : Living) → AtMostOnce (l ∷ live)
    → living_at live p ≡ Some a → living_at (l ∷ live) p ≡ Some a
found_behind l live p a h e =
    cases_bool (same_place l.place p) (living_at (l ∷ live) p ≡ Some a)
    (λ here. let n : living_at live p ≡ None = none_found live p (none_more l live p h here) in cc)
    (λ other. rw other e)

pub found_place : (live : List Living) (p : Place) (a : Living) → living_at live p ≡ Some a → a.place ≡ p
found_place [] p a e = cc
found_place (l ∷ live) p a e =
    cases_bool (same_place l.place p) (a.place ≡ p)
    (λ here. let g : Some l ≡ Some a = rw here at e in subst (λ (x : Living). x.place ≡ p) (some_eq l a g)
    (same_place_eq l.place p here))
    (λ other. found_place live p a (rw other at e))

first_found : (l : Living) (live : List Living) → living_at (l ∷ live) l.place ≡ Some l
first_found l live = rw (same_place_refl l.place) refl

-- what holds of each value that is found holds of each in the list
abbrev pub Each : (Living → Type 0) → List Living → Type 0
Each P [] = Unit {0}
Each P (l ∷ live) = P l × Each P live

pub each_of : (P : Living → Type 0) (live : List Living) → AtMostOnce live
    → ((p : Place) (a : Living) → living_at live p ≡ Some a → P a) → Each P live
each_of P [] h f = tt
each_of P (l ∷ live) h f = (
  f l.place l (first_found l live),
  each_of P live (once_tail l live h)
      (λ p a e. f p a (found_behind l live p a h e)),
)

any_made : (live : List Living) (n : ℕ) → AtMostOnce live → list_any (λ (l : Living). l.made == n) live ≡ true
    → (a : Living) × (living_at live a.place ≡ Some a) × (a.made ≡ n)
any_made [] n h e = cc
any_made (l ∷ live) n h e =
    cases_bool (l.made == n) ((a : Living) × (living_at (l ∷ live) a.place ≡ Some a) × (a.made ≡ n))
    (λ here. (l, first_found l live, same_number l.made n here))
    (λ other. behind (any_made live n (once_tail l live h) (rw other at e)))
  where
    behind : (a : Living) × (living_at live a.place ≡ Some a) × (a.made ≡ n) → (a : Living)
        × (living_at (l ∷ live) a.place ≡ Some a) × (a.made ≡ n)
    behind (a, x, y) = (a, found_behind l live a.place a h x, y)

-- no two values have one number
abbrev Once : List Living → Type 0
Once live = (p q : Place) (a b : Living) → living_at live p ≡ Some a → living_at live q ≡ Some b → a.made ≡ b.made → p
    ≡ q

other_numbers : (l : Living) (live : List Living) → AtMostOnce (l ∷ live) → Once (l ∷ live)
    → list_any (λ (k : Living). k.made == l.made) live ≡ false
other_numbers l live h once = not_true (list_any (λ (k : Living). k.made == l.made) live)
    (λ e. two (any_made live l.made (once_tail l live h) e))
  where
    two : (a : Living) × (living_at live a.place ≡ Some a) × (a.made ≡ l.made) → ⊥
    two (a, x, y) =
        let p : a.place ≡ l.place = once a.place l.place a l (found_behind l live a.place a h x) (first_found l live)
        y in
        let n : living_at live l.place ≡ None = none_found live l.place
        (none_more l live l.place h (same_place_refl l.place)) in
        let k : living_at live l.place ≡ Some a = subst (λ (q : Place). living_at live q ≡ Some a) p x in cc

passes : (test : Living → Bool) (live : List Living) (p : Place) (a : Living) → living_at live p ≡ Some a
    → list_any test live ≡ false → test a ≡ false
passes test [] p a e h = cc
passes test (l ∷ live) p a e h =
    cases_bool (same_place l.place p) (test a ≡ false)
    (λ here. let g : Some l ≡ Some a = rw here at e in subst (λ (x : Living). test x ≡ false) (some_eq l a g)
    (left (test l) (list_any test live) h))
    (λ other. passes test live p a (rw other at e) (right (test l) (list_any test live) h))
  where
    left : (a b : Bool) → (a || b) ≡ false → a ≡ false
    left a b e = grind arith

    right : (a b : Bool) → (a || b) ≡ false → b ≡ false
    right a b e = grind arith

abbrev listed : Place → Living → Alive
listed q a = record { key = number_of q.key; value = a.value; made = a.made }

own_eq : (a : ℕ) → (a == a) ≡ true
own_eq a = grind arith

other_eq : (a b : ℕ) → (a == b) ≡ false → (b == a) ≡ false
other_eq a b e = grind arith

-- each listed value is found by its number, and its number is no other's
numbered_list : (live : List Living) (q : Place) (a : Living) → AtMostOnce live → Once live → living_at live q
    ≡ Some a → nat_lt 0 a.made ≡ true
    → (find_made (flat_map alive_of live) a.made ≡ Some (listed q a))
    × (flat_map alive_of (without_place live q) ≡ without_made (flat_map alive_of live) a.made)
numbered_list [] q a h once e pos = cc
numbered_list (l ∷ live) q a h once e pos =
    cases_bool (same_place l.place q) ((find_made (flat_map alive_of (l ∷ live)) a.made ≡ Some (listed q a))
    × (flat_map alive_of (without_place (l ∷ live) q) ≡ without_made (flat_map alive_of (l ∷ live)) a.made))
    (λ here. at_head here (some_eq l a (rw here at e)))
    (λ other. behind (nat_lt 0 l.made) refl other
    (other_eq a.made l.made (passes (λ (k : Living). k.made == l.made) live q a (rw other at e)
    (other_numbers l live h once)))
    (numbered_list live q a (once_tail l live h) (λ p r x y f g n. once p r x y (found_behind l live p x h f)
    (found_behind l live r y h g) n) (rw other at e) pos))
  where
    at_head : same_place l.place q ≡ true → l ≡ a →
        (find_made (flat_map alive_of (l ∷ live)) a.made ≡ Some (listed q a))
        × (flat_map alive_of (without_place (l ∷ live) q) ≡ without_made (flat_map alive_of (l ∷ live)) a.made)
    at_head here g =
        let k : nat_lt 0 l.made ≡ true = subst (λ (x : Living). nat_lt 0 x.made ≡ true) (sym g) pos in
        let p : l.place ≡ q = same_place_eq l.place q here in
        let n : without_place live q ≡ live = nothing_gone live q (none_more l live q h here) in
        subst (λ (x : Living). (find_made (flat_map alive_of (l ∷ live)) x.made ≡ Some (listed q x))
        × (flat_map alive_of (without_place (l ∷ live) q) ≡ without_made (flat_map alive_of (l ∷ live)) x.made)) g (
          rw (k, own_eq l.made) (ap (λ (r : Place). Some (listed r l)) p),
          rw (here, k, own_eq l.made)
              (ap (flat_map alive_of) n),
        )

    behind : (b : Bool) → nat_lt 0 l.made ≡ b → same_place l.place q ≡ false → (l.made == a.made) ≡ false
        → (find_made (flat_map alive_of live) a.made ≡ Some (listed q a))
        × (flat_map alive_of (without_place live q) ≡ without_made (flat_map alive_of live) a.made)
        → (find_made (flat_map alive_of (l ∷ live)) a.made ≡ Some (listed q a))
        × (flat_map alive_of (without_place (l ∷ live) q) ≡ without_made (flat_map alive_of (l ∷ live)) a.made)
    behind true k other n i = (rw (k, n) i.0, rw (other, k, n) (ap (λ xs. listed l.place l ∷ xs) i.1))
    behind false k other n i = (rw k i.0, rw (other, k) i.1)

pub at_most_once : (m : Machine) → EachOnce m → AtMostOnce m.live
at_most_once m once p = bounded _ _ (nat_lt p.handle (of_key p.key m.pools).used) (once p)
  where
    bounded : (a b : ℕ) (c : Bool) → a + b ≡ bit c → a ≤ 1
    bounded a b true e = omega arith
    bounded a b false e = omega arith

pub numbered : (sc : Scenario) (m : Machine) → Fits sc m → Numbered m.live
numbered sc m f q a e pos = numbered_list m.live q a (at_most_once m f.each_once) f.numbers.once e pos

-- a value without a number is Default
pub plain_numbered : (sc : Scenario) (m : Machine) (p : Place) (a : Living) → Fits sc m → living_at m.live p ≡ Some a
    → is_default a.value ≡ false → nat_lt 0 a.made ≡ true
plain_numbered sc m p a f e plain =
    cases_bool (same_place p default_place) (nat_lt 0 a.made ≡ true)
    (λ here. let k : living_at m.live p ≡ Some default_living = subst
    (λ (q : Place). living_at m.live q ≡ Some default_living) (sym (same_place_eq p default_place here))
    f.default_live in
    let g : a ≡ default_living = some_eq a default_living (sym e ∙ k) in
    let n : true ≡ false = subst (λ (x : Living). is_default x.value ≡ false) g plain in cc)
    (λ other. positive a.made (f.numbers.counted p a e other))
  where
    positive : (n : ℕ) → 1 ≤ n → nat_lt 0 n ≡ true
    positive n h = grind arith

either_way : (a b : Bool) → (a ≡ false → b ≡ true) → (a || b) ≡ true
either_way true b f = refl
either_way false b f = f refl

alive_listed : (live : List Living) (p : Place) (a : Living) → living_at live p ≡ Some a → nat_lt 0 a.made ≡ true
    → list_any (is_alive (number_of p.key) a.value) (flat_map alive_of live) ≡ true
alive_listed [] p a e h = cc
alive_listed (l ∷ live) p a e h =
    cases_bool (same_place l.place p) (list_any (is_alive (number_of p.key) a.value) (flat_map alive_of (l ∷ live))
    ≡ true)
    (λ here. let g : Some l ≡ Some a = rw here at e in at_head (same_place_eq l.place p here) (some_eq l a g))
    (λ other. behind (nat_lt 0 l.made) refl (alive_listed live p a (rw other at e) h))
  where
    at_head : l.place ≡ p → l ≡ a → list_any (is_alive (number_of p.key) a.value) (flat_map alive_of (l ∷ live)) ≡ true
    at_head q g =
        subst (λ (x : Living). nat_lt 0 x.made ≡ true → list_any (is_alive (number_of p.key) x.value)
        (flat_map alive_of (l ∷ live)) ≡ true) g
        (λ k. rw (k, ap (λ (r : Place). number_of r.key) q, own_eq (number_of p.key), values_refl l.value) refl) h

    behind : (b : Bool) → nat_lt 0 l.made ≡ b → list_any (is_alive (number_of p.key) a.value) (flat_map alive_of live)
        ≡ true
        → list_any (is_alive (number_of p.key) a.value) (flat_map alive_of (l ∷ live)) ≡ true
    behind true k i = rw (k, i) (either_way (is_alive (number_of p.key) a.value (listed l.place l)) true (λ _. refl))
    behind false k i = rw k i

-- the value at a live handle is live in the store
pub value_live : (sc : Scenario) (m : Machine) (p : Place) (a : Living) → Fits sc m → living_at m.live p ≡ Some a
    → is_live (seen m) (number_of p.key) a.value ≡ true
value_live sc m p a f e = either_way (is_default a.value) _
    (λ plain. alive_listed m.live p a e (plain_numbered sc m p a f e plain))

option_lives : (sc : Scenario) (m : Machine) (k : Key) (x : Option ℕ) → Fits sc m → LiveAt m.live k x
    → option_live (seen m) (number_of k) (value_at m.live k x) ≡ true
option_lives sc m k None f l = refl
option_lives sc m k (Some h) f l = of_living (living_at m.live (record { key = k; handle = h })) refl l
  where
    of_living : (o : Option Living) → living_at m.live (record { key = k; handle = h }) ≡ o → is_some o ≡ true
        → option_live (seen m) (number_of k) (value_of o) ≡ true
    of_living None e g = cc
    of_living (Some a) e g = value_live sc m (record { key = k; handle = h }) a f e

-- a voucher of live handles has live values
pub voucher_lives : (sc : Scenario) (m : Machine) (v : Handles) → Fits sc m → LiveAll m.live v
    → all_live (seen m) (valued m.live v) ≡ true
voucher_lives sc m v f l = every_passes _ every_key (λ k.
    ap (option_live (seen m) (number_of k)) (value_at_key m.live k v) ∙ option_lives sc m k (of_key k v) f (l k))
  where
    every_passes : {X : Type 0} (p : X → Bool) (xs : List X) → ((x : X) → p x ≡ true) → list_all p xs ≡ true
    every_passes p [] h = refl
    every_passes p (x ∷ xs) h = let i : list_all p xs ≡ true = every_passes p xs h in rw (h x, i) refl

unlisted : (live : List Living) (k : Key) (x : Value) → handle_of live k x ≡ None
    → list_any (is_alive (number_of k) x) (flat_map alive_of live) ≡ false
unlisted [] k x e = refl
unlisted (l ∷ live) k x e =
    cases_bool ((number_of l.place.key == number_of k) && equal_values l.value x)
    (list_any (is_alive (number_of k) x) (flat_map alive_of (l ∷ live)) ≡ false)
    (λ here. let n : Some l.place.handle ≡ None = rw here at e in cc)
    (λ other. behind (nat_lt 0 l.made) refl other (unlisted live k x (rw other at e)))
  where
    behind : (b : Bool) → nat_lt 0 l.made ≡ b → ((number_of l.place.key == number_of k) && equal_values l.value x)
        ≡ false → list_any (is_alive (number_of k) x) (flat_map alive_of live) ≡ false
        → list_any (is_alive (number_of k) x) (flat_map alive_of (l ∷ live)) ≡ false
    behind true h other i = rw (h, i, other) refl
    behind false h other i = rw h i

default_found : (sc : Scenario) (m : Machine) (k : Key) (x : Value) → Fits sc m → Belongs k x → handle_of m.live k x
    ≡ None → is_default x ≡ false
default_found sc m k (values.User bytes) f b e = refl
default_found sc m k (values.Chain list) f b e = refl
default_found sc m k (values.Task t) f b e = refl
default_found sc m k (values.Account holder merchant) f b e = refl
default_found sc m keys.Importance values.Default f b e = absurd b
default_found sc m keys.User values.Default f b e = absurd b
default_found sc m keys.Test values.Default f b e = absurd b
default_found sc m keys.Bank values.Default f b e = let g : handle_of m.live keys.Bank values.Default
    ≡ Some 0 = f.different default_place default_living f.default_live in cc

-- a value that has no handle is not live in the store
pub value_dead : (sc : Scenario) (m : Machine) (k : Key) (x : Value) → Fits sc m → Belongs k x → handle_of m.live k x
    ≡ None → is_live (seen m) (number_of k) x ≡ false
value_dead sc m k x f b e = rw (default_found sc m k x f b e) (unlisted m.live k x e)

-- each value that the store lists passes a test that each found value passes
pub all_listed : (test : Alive → Bool) (live : List Living) → Each
    (λ a. nat_lt 0 a.made ≡ true → test (listed a.place a) ≡ true) live → list_all test (flat_map alive_of live)
    ≡ true
all_listed test [] h = refl
all_listed test (l ∷ live) h =
    cases_bool (nat_lt 0 l.made) (list_all test (flat_map alive_of (l ∷ live)) ≡ true)
    (λ e. rw (e, h.0 e) (all_listed test live h.1))
    (λ e. rw e (all_listed test live h.1))
