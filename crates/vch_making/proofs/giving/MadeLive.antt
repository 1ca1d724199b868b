-- Live values where one is handed out, again or for the first time.
use Rattle.std.proofs.Common.{◌≡◌, ◌≢◌, ℕ, zero, suc, ◌+◌, ◌<◌, List, [], ◌∷◌, ◌++◌, refl, arith, ap, length, Option, Some, None}
use Rattle.std.proofs.Math.ListN.{set}
use Rattle.std.proofs.lemmas.List.{get_or-set_same, get_or-set_other, length-set}
use Rattle.vch_base.specs.declared.places.Live.{Live}
use Rattle.vch_base.specs.Managers.{live_at, more_made, next_handle, slots_with}

-- what holds of a live value whatever its count holds of it then
pub live_again : (P : Option Live → Type 0) (xs : List (Option Live)) (h i : ℕ) → ((o : Option Live) → P o → P (more_made o)) → P (live_at xs i) → P (live_at (set xs h (more_made (live_at xs h))) i)
live_again P [] h i f p = p
live_again P (x ∷ xs) zero zero f p = f x p
live_again P (x ∷ xs) zero (suc i) f p = p
live_again P (x ∷ xs) (suc h) zero f p = p
live_again P (x ∷ xs) (suc h) (suc i) f p = live_again P xs h i f p

-- Handed out for the first time.

append_here : (xs : List (Option Live)) (l : Live) → live_at (xs ++ Some l ∷ []) (length xs) ≡ Some l
append_here [] l = refl
append_here (x ∷ xs) l = append_here xs l

append_other : (xs : List (Option Live)) (l : Live) (i : ℕ) → i ≢ length xs → live_at (xs ++ Some l ∷ []) i ≡ live_at xs i
append_other [] l zero n = absurd (n refl)
append_other [] l (suc i) n = refl
append_other (x ∷ xs) l zero n = refl
append_other (x ∷ xs) l (suc i) n = append_other xs l i (λ e. n (ap suc e))

append_long : (xs : List (Option Live)) (l : Live) → length (xs ++ Some l ∷ []) ≡ length xs + 1
append_long [] l = omega arith
append_long (x ∷ xs) l = let e : length (xs ++ Some l ∷ []) ≡ length xs + 1 = append_long xs l in omega (arith, e)

-- the new value's handle is free: the first one that is, or the next new one
pub record IsFree (slots : List (Option Live)) (free : List ℕ) : Type 0 where
  pub inside : (h : ℕ) (rest : List ℕ) → free ≡ h ∷ rest → h < length slots
  pub dead : live_at slots (next_handle free (length slots)) ≡ None

pub live_new : (slots : List (Option Live)) (free : List ℕ) (l : Live) → IsFree slots free → live_at (slots_with slots free l) (next_handle free (length slots)) ≡ Some l
live_new slots [] l f = append_here slots l
live_new slots (h ∷ free) l f = get_or-set_same slots h (Some l) None (f.inside h free refl)

pub live_old : (slots : List (Option Live)) (free : List ℕ) (l : Live) (i : ℕ) → i ≢ next_handle free (length slots) → live_at (slots_with slots free l) i ≡ live_at slots i
live_old slots [] l i n = append_other slots l i n
live_old slots (h ∷ free) l i n = get_or-set_other slots h i (Some l) None n

-- how many handles there are then
abbrev pub used_after : List ℕ → ℕ → ℕ
used_after [] used = used + 1
used_after (h ∷ free) used = used

pub length_new : (slots : List (Option Live)) (free : List ℕ) (l : Live) → length (slots_with slots free l) ≡ used_after free (length slots)
length_new slots [] l = append_long slots l
length_new slots (h ∷ free) l = length-set slots h (Some l)
