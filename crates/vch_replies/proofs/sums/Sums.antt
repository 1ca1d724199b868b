-- Sums over lists, and over the live values of a state.
use Rattle.std.proofs.Common.{◌≡◌, ℕ, ◌+◌, ◌≤◌, Bool, true, false, List, [], ◌∷◌, refl, arith, ap, ◌∙◌, Option, Some, None}
use Rattle.std.proofs.lemmas.List.Sums.{sum_by-cons, sum_by-append}
use Rattle.std.specs.Prelude.{if◌then◌else◌}
use Rattle.std.specs.List.{sum_by, flat_map}
use Rattle.vch_machine.specs.State.{Place, Living, living_at, same_place}
use Rattle.vch_legal.specs.Facts.{bit, times}
use Rattle.vch_legal.proofs.CallerLemmas.{AtMostOnce, Each}

pub sum_add : {X : Type 0} (f g : X → ℕ) (xs : List X) → sum_by f xs + sum_by g xs ≡ sum_by (λ x. f x + g x) xs
sum_add f g [] = refl
sum_add f g (x ∷ xs) =
    let a = sum_by-cons f x xs in
    let b = sum_by-cons g x xs in
    let s = sum_by-cons (λ y. f y + g y) x xs in
    let rest : sum_by f xs + sum_by g xs ≡ sum_by (λ y. f y + g y) xs = sum_add f g xs in
    omega (arith, a, b, s, rest)

pub sum_same : {X : Type 0} (f g : X → ℕ) (xs : List X) → ((x : X) → f x ≡ g x) → sum_by f xs ≡ sum_by g xs
sum_same f g [] h = refl
sum_same f g (x ∷ xs) h =
    let a = sum_by-cons f x xs in
    let b = sum_by-cons g x xs in
    let one = h x in
    let rest : sum_by f xs ≡ sum_by g xs = sum_same f g xs h in
    omega (arith, a, b, one, rest)

pub sum_none : {X : Type 0} (xs : List X) → sum_by (λ x. 0) xs ≡ 0
sum_none [] = refl
sum_none (x ∷ xs) = let a = sum_by-cons (λ y. 0) x xs in let rest : sum_by (λ y. 0) xs ≡ 0 = sum_none xs in omega (arith, a, rest)

pub sum_flat : {X Y : Type 0} (f : Y → ℕ) (e : X → List Y) (xs : List X) → sum_by f (flat_map e xs) ≡ sum_by (λ x. sum_by f (e x)) xs
sum_flat f e [] = refl
sum_flat f e (x ∷ xs) =
    let a = sum_by-append f (e x) (flat_map e xs) in
    let b = sum_by-cons (λ y. sum_by f (e y)) x xs in
    let rest : sum_by f (flat_map e xs) ≡ sum_by (λ y. sum_by f (e y)) xs = sum_flat f e xs in
    omega (arith, a, b, rest)

-- Live values.

pub sum_each : (f g : Living → ℕ) (live : List Living) → Each (λ l. f l ≡ g l) live → sum_by f live ≡ sum_by g live
sum_each f g [] h = refl
sum_each f g (l ∷ live) h =
    let a = sum_by-cons f l live in
    let b = sum_by-cons g l live in
    let one : f l ≡ g l = h.0 in
    let rest : sum_by f live ≡ sum_by g live = sum_each f g live h.1 in
    omega (arith, a, b, one, rest)

-- what a live value weighs at a place: nothing at another
abbrev pub weighs : (Living → ℕ) → Place → Living → ℕ
weighs w p l = if same_place l.place p then w l else 0

-- what is found weighs
abbrev pub found : (Living → ℕ) → Option Living → ℕ
found w None = 0
found w (Some l) = w l

nothing_weighs : (w : Living → ℕ) (p : Place) (live : List Living) → times (λ (l : Living). same_place l.place p) live ≡ 0 → sum_by (weighs w p) live ≡ 0
nothing_weighs w p [] e = refl
nothing_weighs w p (l ∷ live) e =
    let z : bit (same_place l.place p) + times (λ (l : Living). same_place l.place p) live ≡ 0 = e in
    let rest : sum_by (weighs w p) live ≡ 0 = nothing_weighs w p live (omega (arith, z)) in
    let here : weighs w p l ≡ 0 = by_test (same_place l.place p) (omega (arith, z)) in
    let a = sum_by-cons (weighs w p) l live in
    omega (arith, a, rest, here)
  where
    by_test : (b : Bool) → bit b ≡ 0 → (if b then w l else 0) ≡ 0
    by_test true g = absurd (omega (arith, g))
    by_test false g = refl

-- one value at most is at a place, so the values there weigh what is found
pub at_place : (w : Living → ℕ) (p : Place) (live : List Living) → AtMostOnce live → sum_by (weighs w p) live ≡ found w (living_at live p)
at_place w p [] once = refl
at_place w p (l ∷ live) once = sum_by-cons (weighs w p) l live ∙ by_test (same_place l.place p) refl (at_place w p live behind)
  where
    behind : AtMostOnce live
    behind q = let few : bit (same_place l.place q) + times (λ (l : Living). same_place l.place q) live ≤ 1 = once q in omega (arith, few)

    by_test : (b : Bool) → same_place l.place p ≡ b → sum_by (weighs w p) live ≡ found w (living_at live p)
        → (if b then w l else 0) + sum_by (weighs w p) live ≡ found w (if b then Some l else living_at live p)
    by_test true e rest =
        let few : bit (same_place l.place p) + times (λ (l : Living). same_place l.place p) live ≤ 1 = once p in
        let one : bit (same_place l.place p) ≡ 1 = ap bit e in
        let none : sum_by (weighs w p) live ≡ 0 = nothing_weighs w p live (omega (arith, few, one)) in
        omega (arith, none)
    by_test false e rest = omega (arith, rest)
