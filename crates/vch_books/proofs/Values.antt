-- Equal values are one value.
use Rattle.std.proofs.Common.{◌≡◌, ℕ, Bool, List, [], ◌∷◌, refl, true, arith, ap, ◌&&◌}
use Rattle.std.specs.Prelude.{◌==◌}
use Rattle.std.proofs.lemmas.Grind.{common_steps}
use Rattle.vch_base.specs.declared.value.Value.{Value}
use Rattle.vch_base.specs.declared.value.Value.TheVariants as values
use Rattle.vch_base.specs.Values.{equal_lists, equal_values}

pub eq_refl : (n : ℕ) → (n == n) ≡ true
eq_refl n = grind (arith, common_steps)

pub number_eq : (a b : ℕ) → (a == b) ≡ true → a ≡ b
number_eq a b e = grind arith

and_left : (a b : Bool) → (a && b) ≡ true → a ≡ true
and_left a b e = grind arith

and_right : (a b : Bool) → (a && b) ≡ true → b ≡ true
and_right a b e = grind arith

lists_refl : (a : List ℕ) → equal_lists a a ≡ true
lists_refl [] = refl
lists_refl (x ∷ a) = let same : (x == x) ≡ true = eq_refl x in rw (same, lists_refl a) refl

lists_eq : (a b : List ℕ) → equal_lists a b ≡ true → a ≡ b
lists_eq [] [] e = refl
lists_eq [] (y ∷ b) e = absurd (cc)
lists_eq (x ∷ a) [] e = absurd (cc)
lists_eq (x ∷ a) (y ∷ b) e =
    let here : x ≡ y = number_eq x y (and_left (x == y) (equal_lists a b) e) in
    let there : a ≡ b = lists_eq a b (and_right (x == y) (equal_lists a b) e) in
    rw (here, there) refl

pub values_refl : (x : Value) → equal_values x x ≡ true
values_refl (values.User bytes) = lists_refl bytes
values_refl (values.Chain list) = lists_refl list
values_refl values.Default = refl
values_refl (values.Task t) = eq_refl t
values_refl (values.Account a b) = rw (eq_refl a, eq_refl b) refl

pub values_eq : (x y : Value) → equal_values x y ≡ true → x ≡ y
values_eq (values.User a) (values.User b) e = ap (λ l. values.User l) (lists_eq a b e)
values_eq (values.Chain a) (values.Chain b) e = ap (λ l. values.Chain l) (lists_eq a b e)
values_eq values.Default values.Default e = refl
values_eq (values.Task a) (values.Task b) e = ap (λ t. values.Task t) (number_eq a b e)
values_eq (values.Account a b) (values.Account c d) e =
    rw (number_eq a c (and_left (a == c) (b == d) e), number_eq b d (and_right (a == c) (b == d) e)) refl
values_eq (values.User a) (values.Chain b) e = absurd (cc)
values_eq (values.User a) values.Default e = absurd (cc)
values_eq (values.User a) (values.Task b) e = absurd (cc)
values_eq (values.User a) (values.Account b c) e = absurd (cc)
values_eq (values.Chain a) (values.User b) e = absurd (cc)
values_eq (values.Chain a) values.Default e = absurd (cc)
values_eq (values.Chain a) (values.Task b) e = absurd (cc)
values_eq (values.Chain a) (values.Account b c) e = absurd (cc)
values_eq values.Default (values.User b) e = absurd (cc)
values_eq values.Default (values.Chain b) e = absurd (cc)
values_eq values.Default (values.Task b) e = absurd (cc)
values_eq values.Default (values.Account b c) e = absurd (cc)
values_eq (values.Task a) (values.User b) e = absurd (cc)
values_eq (values.Task a) (values.Chain b) e = absurd (cc)
values_eq (values.Task a) values.Default e = absurd (cc)
values_eq (values.Task a) (values.Account b c) e = absurd (cc)
values_eq (values.Account a d) (values.User b) e = absurd (cc)
values_eq (values.Account a d) (values.Chain b) e = absurd (cc)
values_eq (values.Account a d) values.Default e = absurd (cc)
values_eq (values.Account a d) (values.Task b) e = absurd (cc)
