-- The first tasks of a list are changed.
use Rattle.std.proofs.Common.{◌≡◌, ◌+◌, ◌≤◌, ◌<◌, ℕ, zero, suc, List, [], ◌∷◌, length, map, refl, sym, ap, set, get_or, arith, subst}
use Rattle.vch_machine.specs.State.{Tasked}

abbrev pub first_marked : (Tasked → Tasked) → ℕ → List Tasked → List Tasked
first_marked g zero xs = xs
first_marked g (suc i) [] = []
first_marked g (suc i) (x ∷ xs) = g x ∷ first_marked g i xs

set_here : (g : Tasked → Tasked) (xs : List Tasked) (i : ℕ) (x : Tasked) → i < length (first_marked g i xs) → x ≡ get_or (first_marked g i xs) i x
    → set (first_marked g i xs) i (g x) ≡ first_marked g (suc i) xs
set_here g [] zero x l e = absurd (omega (arith, l))
set_here g [] (suc i) x l e = absurd (omega (arith, l))
set_here g (y ∷ xs) zero x l e = ap (λ z. g z ∷ xs) e
set_here g (y ∷ xs) (suc i) x l e = ap (λ zs. g y ∷ zs) (set_here g xs i x (omega (arith, l)) e)

pub marked_first : (g : Tasked → Tasked) (xs : List Tasked) → xs ≡ first_marked g 0 xs
marked_first g xs = refl

pub marked_next : (g : Tasked → Tasked) (xs now : List Tasked) (i : ℕ) (x y : Tasked) → i < length now → now ≡ first_marked g i xs → x ≡ get_or now i x → y ≡ g x
    → set now i y ≡ first_marked g (i + 1) xs
marked_next g xs now i x y l e is made =
    let one : i + 1 ≡ suc i = omega arith in
    rw (one, made) (subst (λ zs. set zs i (g x) ≡ first_marked g (suc i) xs) (sym e)
    (set_here g xs i x (subst (λ zs. i < length zs) e l) (subst (λ zs. x ≡ get_or zs i x) e is)))

pub marked_long : (g : Tasked → Tasked) (xs : List Tasked) (i : ℕ) → length (first_marked g i xs) ≡ length xs
marked_long g xs zero = refl
marked_long g [] (suc i) = refl
marked_long g (x ∷ xs) (suc i) = ap suc (marked_long g xs i)

pub marked_all : (g : Tasked → Tasked) (xs : List Tasked) (i : ℕ) → length xs ≤ i → first_marked g i xs ≡ map g xs
marked_all g [] zero l = refl
marked_all g [] (suc i) l = refl
marked_all g (x ∷ xs) zero l = absurd (omega (arith, l))
marked_all g (x ∷ xs) (suc i) l = ap (λ zs. g x ∷ zs) (marked_all g xs i (omega (arith, l)))
