-- One task of a list of tasks is replaced.
use Rattle.std.proofs.Common.{◌≡◌, ℕ, zero, suc, ◌<◌, ◌≤◌, Bool, List, [], ◌∷◌, ◌++◌, refl, false, ◌||◌, arith, ap, length, map, get_or, append_assoc}
use Rattle.std.proofs.Math.ListN.{set}
use Rattle.std.specs.List.{list_any, flat_map}
use Rattle.std.proofs.lemmas.List.{map-append, set-get_or}
use Rattle.vch_base.specs.Tasks.{at_task, set_task}

-- the task is one of the list
abbrev pub IsAmong : {X : Type 0} → ℕ → List X → Type 0
IsAmong t xs = (1 ≤ t) × (t ≤ length xs)

no_zero : 1 ≤ 0 → ⊥
no_zero l = omega arith

below : (i n : ℕ) → suc i ≤ n → i < n
below i n l = omega arith

-- whether another element passes; by the place from 0, and by task
abbrev other_from : {X : Type 0} → (X → Bool) → List X → ℕ → Bool
other_from p [] i = false
other_from p (x ∷ xs) zero = list_any p xs
other_from p (x ∷ xs) (suc i) = p x || other_from p xs i

abbrev pub other_any : {X : Type 0} → (X → Bool) → List X → ℕ → Bool
other_any p xs zero = list_any p xs
other_any p xs (suc i) = other_from p xs i

split_from : {X : Type 0} (p : X → Bool) (xs : List X) (i : ℕ) (d : X) → i < length xs
    → list_any p xs ≡ (p (get_or xs i d) || other_from p xs i)
split_from p [] i d l = absurd (omega arith)
split_from p (x ∷ xs) zero d l = refl
split_from p (x ∷ xs) (suc i) d l = let e : list_any p xs ≡ (p (get_or xs i d) || other_from p xs i) =
    split_from p xs i d (omega arith) in rw e (grind arith)

pub any_split : {X : Type 0} (p : X → Bool) (xs : List X) (t : ℕ) (d : X) → IsAmong t xs
    → list_any p xs ≡ (p (at_task xs t d) || other_any p xs t)
any_split p xs zero d l = absurd (no_zero l.0)
any_split p xs (suc i) d l = split_from p xs i d (below i (length xs) l.1)

set_from : {X : Type 0} (p : X → Bool) (xs : List X) (i : ℕ) (y : X) → i < length xs
    → list_any p (set xs i y) ≡ (p y || other_from p xs i)
set_from p [] i y l = absurd (omega arith)
set_from p (x ∷ xs) zero y l = refl
set_from p (x ∷ xs) (suc i) y l = let e : list_any p (set xs i y) ≡ (p y || other_from p xs i) =
    set_from p xs i y (omega arith) in rw e (grind arith)

pub any_set : {X : Type 0} (p : X → Bool) (xs : List X) (t : ℕ) (y : X) → IsAmong t xs
    → list_any p (set_task xs t y) ≡ (p y || other_any p xs t)
any_set p xs zero y l = absurd (no_zero l.0)
any_set p xs (suc i) y l = set_from p xs i y (below i (length xs) l.1)

-- what the elements before and after a place give
abbrev before_from : {X A : Type 0} → (X → List A) → List X → ℕ → List A
before_from f [] i = []
before_from f (x ∷ xs) zero = []
before_from f (x ∷ xs) (suc i) = f x ++ before_from f xs i

abbrev behind_from : {X A : Type 0} → (X → List A) → List X → ℕ → List A
behind_from f [] i = []
behind_from f (x ∷ xs) zero = flat_map f xs
behind_from f (x ∷ xs) (suc i) = behind_from f xs i

abbrev pub before : {X A : Type 0} → (X → List A) → List X → ℕ → List A
before f xs zero = []
before f xs (suc i) = before_from f xs i

abbrev pub behind : {X A : Type 0} → (X → List A) → List X → ℕ → List A
behind f xs zero = flat_map f xs
behind f xs (suc i) = behind_from f xs i

parts_from : {X A : Type 0} (f : X → List A) (xs : List X) (i : ℕ) (d : X) → i < length xs
    → flat_map f xs ≡ before_from f xs i ++ (f (get_or xs i d) ++ behind_from f xs i)
parts_from f [] i d l = absurd (omega arith)
parts_from f (x ∷ xs) zero d l = refl
parts_from f (x ∷ xs) (suc i) d l = let e : flat_map f xs ≡ before_from f xs i ++
    (f (get_or xs i d) ++ behind_from f xs i) = parts_from f xs i d (omega arith) in rw (e, append_assoc)

pub all_split : {X A : Type 0} (f : X → List A) (xs : List X) (t : ℕ) (d : X) → IsAmong t xs
    → flat_map f xs ≡ before f xs t ++ (f (at_task xs t d) ++ behind f xs t)
all_split f xs zero d l = absurd (no_zero l.0)
all_split f xs (suc i) d l = parts_from f xs i d (below i (length xs) l.1)

put_from : {X A : Type 0} (f : X → List A) (xs : List X) (i : ℕ) (y : X) → i < length xs
    → flat_map f (set xs i y) ≡ before_from f xs i ++ (f y ++ behind_from f xs i)
put_from f [] i y l = absurd (omega arith)
put_from f (x ∷ xs) zero y l = refl
put_from f (x ∷ xs) (suc i) y l = let e : flat_map f (set xs i y) ≡ before_from f xs i ++ (f y ++ behind_from f xs i) =
    put_from f xs i y (omega arith) in rw (e, append_assoc)

pub all_set : {X A : Type 0} (f : X → List A) (xs : List X) (t : ℕ) (y : X) → IsAmong t xs
    → flat_map f (set_task xs t y) ≡ before f xs t ++ (f y ++ behind f xs t)
all_set f xs zero y l = absurd (no_zero l.0)
all_set f xs (suc i) y l = put_from f xs i y (below i (length xs) l.1)

pub any_map : {X : Type 0} (p : X → Bool) (g : X → X) → ((x : X) → p (g x) ≡ p x) → (xs : List X)
    → list_any p (map g xs) ≡ list_any p xs
any_map p g same [] = refl
any_map p g same (x ∷ xs) = let e : list_any p (map g xs) ≡ list_any p xs = any_map p g same xs in rw (e, same x)

pub flat_map_map : {X A : Type 0} (f : X → List A) (g : X → X) (h : A → A) → ((x : X) → f (g x) ≡ map h (f x))
    → (xs : List X) → flat_map f (map g xs) ≡ map h (flat_map f xs)
flat_map_map f g h same [] = refl
flat_map_map f g h same (x ∷ xs) = let e : flat_map f (map g xs) ≡ map h (flat_map f xs) =
    flat_map_map f g h same xs in rw (same x, e, map-append h)

others_from : {X : Type 0} (p : X → Bool) (xs : List X) (i : ℕ) (y : X)
    → other_from p (set xs i y) i ≡ other_from p xs i
others_from p [] i y = refl
others_from p (x ∷ xs) zero y = refl
others_from p (x ∷ xs) (suc i) y = ap (λ b. p x || b) (others_from p xs i y)

pub other_any_set : {X : Type 0} (p : X → Bool) (xs : List X) (t : ℕ) (y : X)
    → other_any p (set_task xs t y) t ≡ other_any p xs t
other_any_set p xs zero y = refl
other_any_set p xs (suc i) y = others_from p xs i y

before_same : {X A : Type 0} (f : X → List A) (xs : List X) (i : ℕ) (y : X) → before_from f (set xs i y) i
    ≡ before_from f xs i
before_same f [] i y = refl
before_same f (x ∷ xs) zero y = refl
before_same f (x ∷ xs) (suc i) y = ap (λ b. f x ++ b) (before_same f xs i y)

pub before_set : {X A : Type 0} (f : X → List A) (xs : List X) (t : ℕ) (y : X) → before f (set_task xs t y) t
    ≡ before f xs t
before_set f xs zero y = refl
before_set f xs (suc i) y = before_same f xs i y

behind_same : {X A : Type 0} (f : X → List A) (xs : List X) (i : ℕ) (y : X) → behind_from f (set xs i y) i
    ≡ behind_from f xs i
behind_same f [] i y = refl
behind_same f (x ∷ xs) zero y = refl
behind_same f (x ∷ xs) (suc i) y = behind_same f xs i y

pub behind_set : {X A : Type 0} (f : X → List A) (xs : List X) (t : ℕ) (y : X) → behind f (set_task xs t y) t
    ≡ behind f xs t
behind_set f xs zero y = refl
behind_set f xs (suc i) y = behind_same f xs i y

-- a task is put where it is
pub set_same : {X : Type 0} (xs : List X) (t : ℕ) (d : X) → set_task xs t (at_task xs t d) ≡ xs
set_same xs zero d = refl
set_same xs (suc i) d = set-get_or xs i d

-- what a task that is put has as the one before
pub same_part : {X B : Type 0} (g : X → B) (xs : List X) (t u : ℕ) (x d : X) → g x ≡ g (at_task xs t d)
    → g (at_task (set_task xs t x) u d) ≡ g (at_task xs u d)
same_part {X} {B} g xs zero u x d e = refl
same_part {X} {B} g xs (suc i) zero x d e = refl
same_part {X} {B} g xs (suc i) (suc j) x d e = from_place xs i j e
  where
    from_place : (xs : List X) (i j : ℕ) → g x ≡ g (get_or xs i d) → g (get_or (set xs i x) j d) ≡ g (get_or xs j d)
    from_place [] i j e = refl
    from_place (y ∷ xs) zero zero e = e
    from_place (y ∷ xs) zero (suc j) e = refl
    from_place (y ∷ xs) (suc i) zero e = refl
    from_place (y ∷ xs) (suc i) (suc j) e = from_place xs i j e
