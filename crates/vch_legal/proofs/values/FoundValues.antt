-- A value that is found by its handle, and a list of live values with one more.
use Rattle.std.proofs.Common.{◌≡◌, ℕ, List, [], ◌∷◌, ◌++◌, refl, true, false, ◌&&◌, ap, ◌∙◌, subst, Some, None, Option}
use Rattle.std.specs.Prelude.{if◌then◌else◌, ◌==◌}
use Rattle.std.specs.List.{flat_map}
use Rattle.vch_base.specs.declared.key.Key.{Key}
use Rattle.vch_base.specs.Keys.{number_of}
use Rattle.vch_base.specs.Values.{equal_values}
use Rattle.vch_base.specs.declared.value.Value.{Value}
use Rattle.vch_machine.specs.State.{Place, same_place, Living, living_at, handle_of, value_of, value_at}
use Rattle.vch_legal.proofs.facts.Choices.{cases_bool, and_left, and_right, some_eq}
use Rattle.vch_legal.proofs.spots.Places.{same_key, same_place_refl}
use Rattle.vch_legal.proofs.seen.SeenHeld.{values_eq}
use Rattle.vch_legal.proofs.seen.SeenValues.{AtMostOnce, once_tail, found_behind}

-- the value that was found stands at its handle
pub found_value : (live : List Living) (k : Key) (x : Value) (h : ℕ) → AtMostOnce live → handle_of live k x ≡ Some h
    → value_at live k (Some h) ≡ Some x
found_value [] k x h once e = cc
found_value (l ∷ live) k x h once e =
    cases_bool ((number_of l.place.key == number_of k) && equal_values l.value x)
    (value_at (l ∷ live) k (Some h) ≡ Some x)
    (λ here. let g : Some l.place.handle ≡ Some h = rw here at e in at_head (and_left _ _ here) (and_right _ _ here)
    (some_eq l.place.handle h g))
    (λ other. behind (found_value live k x h (once_tail l live once) (rw other at e)))
  where
    at_head : (number_of l.place.key == number_of k) ≡ true → equal_values l.value x ≡ true → l.place.handle ≡ h
        → value_at (l ∷ live) k (Some h) ≡ Some x
    at_head a b c =
        subst (λ (g : Key). value_at (l ∷ live) g (Some h) ≡ Some x) (same_key l.place.key k a)
        (subst (λ i. value_at (l ∷ live) l.place.key (Some i) ≡ Some x) c
        (rw (same_place_refl l.place) (ap Some (values_eq l.value x b))))

    behind : value_at live k (Some h) ≡ Some x → value_at (l ∷ live) k (Some h) ≡ Some x
    behind i = of_living (living_at live (record { key = k; handle = h })) refl i
      where
        of_living : (o : Option Living) → living_at live (record { key = k; handle = h }) ≡ o → value_of o ≡ Some x
            → value_at (l ∷ live) k (Some h) ≡ Some x
        of_living None g j = cc
        of_living (Some a) g j = ap value_of (found_behind l live (record { key = k; handle = h }) a once g) ∙ j

-- one value more
pub append_other : (live : List Living) (l : Living) (p : Place) → same_place l.place p ≡ false
    → living_at (live ++ l ∷ []) p ≡ living_at live p
append_other [] l p e = rw e refl
append_other (y ∷ live) l p e = ap (λ o. if same_place y.place p then Some y else o) (append_other live l p e)

pub append_here : (live : List Living) (l : Living) → living_at live l.place ≡ None
    → living_at (live ++ l ∷ []) l.place ≡ Some l
append_here [] l e = rw (same_place_refl l.place) refl
append_here (y ∷ live) l e =
    cases_bool (same_place y.place l.place) (living_at (y ∷ live ++ l ∷ []) l.place ≡ Some l)
    (λ here. let k : Some y ≡ None = rw here at e in cc)
    (λ other. rw other (append_here live l (rw other at e)))

pub flat_append : {X A : Type 0} (f : X → List A) (xs : List X) (x : X)
    → flat_map f (xs ++ x ∷ []) ≡ flat_map f xs ++ f x
flat_append f [] x = append_nothing (f x)
  where
    append_nothing : {A : Type 0} (ys : List A) → ys ++ [] ≡ ys
    append_nothing [] = refl
    append_nothing (y ∷ ys) = ap (λ zs. y ∷ zs) (append_nothing ys)
flat_append f (y ∷ xs) x = ap (λ zs. f y ++ zs) (flat_append f xs x) ∙ join (f y) (flat_map f xs) (f x)
  where
    join : {A : Type 0} (a b c : List A) → a ++ (b ++ c) ≡ (a ++ b) ++ c
    join [] b c = refl
    join (x ∷ a) b c = ap (λ ys. x ∷ ys) (join a b c)
