-- The index that finds the name for a slot, through each change.
use Rattle.std.proofs.Common.{◌≡◌, ◌≢◌, ◌≤◌, ◌<◌, ◌+◌, ◌-◌, ℕ, List, [], ◌∷◌, ◌++◌, length, map, set, slice_get, not, Option, Some, None, Bool, true, false, cond, ◌==◌, nat_eq, refl, sym, ap, ◌∙◌, subst, arith, zero, suc, option_map}
use Rattle.std.proofs.lemmas.Bool.{ne_eqb}
use Rattle.std.specs.List.{filter, remove}
use Rattle.std.specs.Option.{MatchOption}
use Rattle.indexmap.specs.IndexMap as maps
use Rattle.indexmap.specs.IndexMap.{IndexMap, get}
use Rattle.vch_ports.specs.declared.space.Named.{Named}
use Rattle.vch_ports.specs.Index.{IsSpace}
use Rattle.vch_ports.specs.Names.{by_name, by_slot, NoneHas, AllDiffer, name_of, slot_of, new_name}
use Rattle.vch_ports.proofs.Lists.{by_cases, test_is, test_true, recounted, counted, recounted_name, recounted_slot, one_changed, one_filtered, spaced_set, spaced_push, spaced_removed, ordered_set, ordered_push, ordered_removed}

-- The name for a slot is found by its number.

has_other : (f : Named → ℕ) (k n : ℕ) (xs : List Named) (x : Named) → NoneHas f k xs → by_slot xs n ≡ Some x → f x ≢ k
has_other f k n [] x a e = absurd (cc)
has_other f k n (y ∷ xs) x a e = by_cases (y.slot == n) (λ b. cond b (Some y) (by_slot xs n) ≡ Some x → f x ≢ k)
    (λ _ z. let yx : y ≡ x = cc in subst (λ v. f v ≢ k) yx a.0) (λ _ z. has_other f k n xs x a.1 z) e

pub named_by_slot : (xs : List Named) (n : ℕ) (x : Named) → AllDiffer name_of xs → by_slot xs n ≡ Some x → by_name xs x.name ≡ Some x
named_by_slot [] n x d e = absurd (cc)
named_by_slot (y ∷ xs) n x d e = by_cases (y.slot == n) (λ b. cond b (Some y) (by_slot xs n) ≡ Some x → by_name (y ∷ xs) x.name ≡ Some x)
    (λ _ z. let yx : y ≡ x = cc in subst (λ (v : Named). by_name (y ∷ xs) v.name ≡ Some v) yx (rw (test_is y.name y.name refl) refl))
    (λ _ z. rw (ne_eqb y.name x.name (λ q. has_other name_of y.name n xs x d.0 z (sym q))) (named_by_slot xs n x d.1 z)) e

pub slot_placed : (xs : List Named) (slot name : ℕ) (found : Option ℕ) → AllDiffer name_of xs → Some name ≡ option_map name_of (by_slot xs slot)
    → MatchOption found (by_name xs name ≡ None) (λ at. (at < length xs) × (by_name xs name ≡ slice_get xs at))
    → MatchOption found (by_slot xs slot ≡ None) (λ at. (at < length xs) × (by_slot xs slot ≡ slice_get xs at))
slot_placed xs slot name found d e m = by (by_slot xs slot) refl e
  where
    by : (o : Option Named) → by_slot xs slot ≡ o → Some name ≡ option_map name_of o → MatchOption found (by_slot xs slot ≡ None) (λ at. (at < length xs) × (by_slot xs slot ≡ slice_get xs at))
    by None q z = absurd (cc)
    by (Some x) q z =
        let n : x.name ≡ name = cc in
        let f : by_name xs name ≡ Some x = subst (λ k. by_name xs k ≡ Some x) n (named_by_slot xs slot x d q) in
        subst (λ o. MatchOption found (o ≡ None) (λ at. (at < length xs) × (o ≡ slice_get xs at))) (f ∙ sym q) m

-- A name is written, comes or goes.

slot_map : (h : Named → Named) (n : ℕ) (xs : List Named) → ((x : Named) → (h x).name ≡ x.name) → ((x : Named) → (h x).slot ≡ x.slot)
    → option_map name_of (by_slot (map h xs) n) ≡ option_map name_of (by_slot xs n)
slot_map h n [] names slots = refl
slot_map h n (x ∷ xs) names slots =
    subst (λ k. option_map name_of (cond (k == n) (Some (h x)) (by_slot (map h xs) n)) ≡ option_map name_of (by_slot (x ∷ xs) n)) (sym (slots x))
    (by_cases (x.slot == n) (λ b. option_map name_of (cond b (Some (h x)) (by_slot (map h xs) n)) ≡ option_map name_of (cond b (Some x) (by_slot xs n)))
    (λ _. ap (λ k. Some k) (names x)) (λ _. slot_map h n xs names slots))

slot_push : (y : Named) (n : ℕ) (xs : List Named) → by_slot xs y.slot ≡ None → by_slot (xs ++ y ∷ []) n ≡ cond (y.slot == n) (Some y) (by_slot xs n)
slot_push y n [] free = refl
slot_push y n (x ∷ xs) free = by (x.slot == y.slot) (x.slot == n) refl refl free (slot_push y n xs)
  where
    by : (b c : Bool) → (x.slot == y.slot) ≡ b → (x.slot == n) ≡ c → cond b (Some x) (by_slot xs y.slot) ≡ None
        → (by_slot xs y.slot ≡ None → by_slot (xs ++ y ∷ []) n ≡ cond (y.slot == n) (Some y) (by_slot xs n))
        → cond c (Some x) (by_slot (xs ++ y ∷ []) n) ≡ cond (y.slot == n) (Some y) (cond c (Some x) (by_slot xs n))
    by true c p q e f = absurd (cc)
    by false true p q e f = rw (ne_eqb y.slot n (λ r. let t : (x.slot == y.slot) ≡ true = test_is x.slot y.slot (test_true x.slot n q ∙ sym r) in cc)) refl
    by false false p q e f = f e

slot_filtered : (s n : ℕ) (xs : List Named) → by_slot (filter (λ y. not (slot_of y == s)) xs) n ≡ cond (s == n) None (by_slot xs n)
slot_filtered s n [] = by_cases (s == n) (λ b. by_slot [] n ≡ cond b None (by_slot [] n)) (λ _. refl) (λ _. refl)
slot_filtered s n (y ∷ xs) = by (y.slot == s) (y.slot == n) (s == n) refl refl refl (slot_filtered s n xs)
  where
    by : (a b c : Bool) → (y.slot == s) ≡ a → (y.slot == n) ≡ b → (s == n) ≡ c → by_slot (filter (λ z. not (slot_of z == s)) xs) n ≡ cond c None (by_slot xs n)
        → by_slot (cond (not a) (y ∷ filter (λ z. not (slot_of z == s)) xs) (filter (λ z. not (slot_of z == s)) xs)) n ≡ cond c None (cond b (Some y) (by_slot xs n))
    by true b true p q r e = e
    by true true false p q r e = let t : (s == n) ≡ true = test_is s n (sym (test_true y.slot s p) ∙ test_true y.slot n q) in absurd (cc)
    by true false false p q r e = e
    by false true true p q r e = let t : (y.slot == s) ≡ true = test_is y.slot s (test_true y.slot n q ∙ sym (test_true s n r)) in absurd (cc)
    by false false true p q r e = rw q e
    by false true false p q r e = rw q refl
    by false false false p q r e = rw q e

removed_length : (xs : List Named) (at : ℕ) → length (remove xs at) ≤ length xs
removed_length [] zero = omega arith
removed_length [] (suc at) = omega arith
removed_length (x ∷ xs) zero = omega arith
removed_length (x ∷ xs) (suc at) = let r = removed_length xs at in omega (arith, r)

set_length : (xs : List Named) (at : ℕ) (y : Named) → length (set xs at y) ≡ length xs
set_length [] at y = refl
set_length (x ∷ xs) zero y = refl
set_length (x ∷ xs) (suc at) y = ap suc (set_length xs at y)

push_length : (xs : List Named) (y : Named) → length (xs ++ y ∷ []) ≡ length xs + 1
push_length [] y = refl
push_length (x ∷ xs) y = let r = push_length xs y in omega (arith, r)

module _ {S : Type 0} where
  pub space_set : (xs : List Named) (capacity next spare at : ℕ) (index : IndexMap ℕ ℕ S) (x : Named) (n : ℕ) → IsSpace xs capacity index next spare → slice_get xs at ≡ Some x → 1 ≤ n
      → IsSpace (set xs at (record x { references = n })) capacity index next spare
  space_set xs capacity next spare at index x n s is some = record {
    spaced = spaced_set xs next at x n s.spaced is some;
    ordered = ordered_set xs at x n s.ordered is;
    indexed = λ slot. s.indexed slot
        ∙ sym (slot_map (recounted x.name n) slot xs (recounted_name x.name n) (recounted_slot x.name n))
        ∙ ap (λ ys. option_map name_of (by_slot ys slot)) (one_changed name_of (counted n) xs at x s.spaced.names_differ is);
    room = let l = set_length xs at (record x { references = n }) in omega (arith, s.room);
    index_room = s.index_room;
  }

  pub space_push : (xs : List Named) (capacity next slot spare : ℕ) (index index2 : IndexMap ℕ ℕ S) → IsSpace xs capacity index next spare → by_slot xs slot ≡ None → 1 ≤ spare
      → ((q : ℕ) → get nat_eq index2 q ≡ cond (nat_eq slot q) (Some next) (get nat_eq index q)) → maps.spare index ≤ maps.spare index2 + 1
      → IsSpace (xs ++ new_name next slot ∷ []) capacity index2 (next + 1) (spare - 1)
  space_push xs capacity next slot spare index index2 s free some updates left = record {
    spaced = spaced_push xs next slot s.spaced free;
    ordered = ordered_push xs next slot s.ordered s.spaced.above;
    indexed = λ q. updates q ∙ ap (λ o. cond (slot == q) (Some next) o) (s.indexed q)
        ∙ by_cases (slot == q) (λ b. cond b (Some next) (option_map name_of (by_slot xs q)) ≡ option_map name_of (cond b (Some (new_name next slot)) (by_slot xs q))) (λ _. refl) (λ _. refl)
        ∙ ap (option_map name_of) (sym (slot_push (new_name next slot) q xs free));
    room = let l = push_length xs (new_name next slot) in omega (arith, s.room, some);
    index_room = omega (arith, s.index_room, left, some);
  }

  pub space_removed : (xs : List Named) (capacity next spare at : ℕ) (index index2 : IndexMap ℕ ℕ S) (x : Named) → IsSpace xs capacity index next spare → slice_get xs at ≡ Some x
      → ((q : ℕ) → get nat_eq index2 q ≡ cond (nat_eq x.slot q) None (get nat_eq index q)) → maps.spare index ≤ maps.spare index2
      → IsSpace (remove xs at) capacity index2 next spare
  space_removed xs capacity next spare at index index2 x s is updates left = record {
    spaced = spaced_removed xs next at x s.spaced is;
    ordered = ordered_removed xs next at x s.spaced s.ordered is;
    indexed = λ q. updates q ∙ ap (λ o. cond (x.slot == q) None o) (s.indexed q)
        ∙ by_cases (x.slot == q) (λ b. cond b None (option_map name_of (by_slot xs q)) ≡ option_map name_of (cond b None (by_slot xs q))) (λ _. refl) (λ _. refl)
        ∙ ap (option_map name_of) (sym (slot_filtered x.slot q xs))
        ∙ ap (λ ys. option_map name_of (by_slot ys q)) (one_filtered slot_of (λ y. y) xs at x s.spaced.slots_differ is);
    room = let l = removed_length xs at in omega (arith, s.room);
    index_room = omega (arith, s.index_room, left);
  }
