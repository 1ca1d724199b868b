-- Two values are equal exactly where they are one.
use Rattle.std.proofs.Common.{◌≡◌, refl, ap, subst, sym, ℕ, Bool, true, false, List, [], ◌∷◌, arith, IsTrue}
use Rattle.std.specs.Prelude.{◌==◌, ◌&&◌, ◌↔◌}
use Rattle.vch_base.specs.declared.value.Value.{Value}
use Rattle.vch_base.specs.declared.value.Value.TheVariants as values
use Rattle.vch_base.specs.Values.{equal_lists, equal_values}

unlike : false ≡ true → ⊥
unlike e = cc

both : (a b : Bool) → (a && b) ≡ true → (a ≡ true) × (b ≡ true)
both true b e = (refl, e)
both false b e = absurd (unlike e)

same_number : (x y : ℕ) → (x == y) ≡ true → x ≡ y
same_number x y e = grind (arith, e)

number_same : (x : ℕ) → (x == x) ≡ true
number_same x = grind arith

same_list : (xs ys : List ℕ) → equal_lists xs ys ≡ true → xs ≡ ys
same_list [] [] e = refl
same_list [] (y ∷ ys) e = absurd (unlike e)
same_list (x ∷ xs) [] e = absurd (unlike e)
same_list (x ∷ xs) (y ∷ ys) e =
    let b : ((x == y) ≡ true) × (equal_lists xs ys ≡ true) = both (x == y) (equal_lists xs ys) e in
    let p : x ≡ y = same_number x y b.0 in
    let q : xs ≡ ys = same_list xs ys b.1 in
    cc

list_same : (xs : List ℕ) → equal_lists xs xs ≡ true
list_same [] = refl
list_same (x ∷ xs) = rw (number_same x, list_same xs) refl

pub same_value : (x y : Value) → equal_values x y ≡ true → x ≡ y
same_value (values.User a) (values.User b) e = ap values.User (same_list a b e)
same_value (values.Chain a) (values.Chain b) e = ap values.Chain (same_list a b e)
same_value values.Default values.Default e = refl
same_value (values.Task a) (values.Task b) e = ap values.Task (same_number a b e)
same_value (values.Account a b) (values.Account c d) e =
    let p : ((a == c) ≡ true) × ((b == d) ≡ true) = both (a == c) (b == d) e in
    let q : a ≡ c = same_number a c p.0 in
    let r : b ≡ d = same_number b d p.1 in
    cc
same_value x y e = absurd (unlike e)

pub value_same : (x : Value) → equal_values x x ≡ true
value_same (values.User a) = list_same a
value_same (values.Chain a) = list_same a
value_same values.Default = refl
value_same (values.Task a) = number_same a
value_same (values.Account a b) = rw (number_same a, number_same b) refl

pub tells_equal : (r : Bool) (x y : Value) → IsTrue r ↔ (x ≡ y) → r ≡ equal_values x y
tells_equal true x y h = sym (subst (λ z. equal_values x z ≡ true) (h.0 refl) (value_same x))
tells_equal false x y h = by (equal_values x y) refl
  where
    by : (b : Bool) → equal_values x y ≡ b → false ≡ b
    by true e = absurd (unlike (h.1 (same_value x y e)))
    by false e = refl
