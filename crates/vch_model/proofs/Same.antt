-- Equal vouchers are one.
use Rattle.std.proofs.Common.{◌≡◌, refl, ap, subst, ℕ, Bool, true, false, Option, Some, None, List, [], ◌∷◌, arith}
use Rattle.std.specs.Prelude.{◌==◌, ◌&&◌}
use Rattle.vch_base.specs.declared.key.Key.{Key}
use Rattle.vch_base.specs.declared.key.Key.TheVariants as keys
use Rattle.vch_base.specs.declared.value.Value.{Value}
use Rattle.vch_base.specs.declared.value.Value.TheVariants as values
use Rattle.vch_base.specs.Keyed.{of_key}
use Rattle.vch_base.specs.Values.{equal_lists, equal_values}
use Rattle.vch_base.proofs.CallerLemmas.{equal_where_equal}
use Rattle.vch_model.specs.Voucher.{Voucher, equal_options, equal_vouchers}
use Rattle.vch_model.specs.Same.{AreSameWhereEqual}

unlike : false ≡ true → ⊥
unlike e = cc

both : (a b : Bool) → (a && b) ≡ true → (a ≡ true) × (b ≡ true)
both true b e = (refl, e)
both false b e = absurd (unlike e)

same_number : (x y : ℕ) → (x == y) ≡ true → x ≡ y
same_number x y e = grind (arith, e)

number_same : (x : ℕ) → (x == x) ≡ true
number_same x = grind arith

same_list : (xs ys : List ℕ) → equal_lists xs ys ≡ true → xs ≡ ys
same_list [] [] e = refl
same_list [] (y ∷ ys) e = absurd (unlike e)
same_list (x ∷ xs) [] e = absurd (unlike e)
same_list (x ∷ xs) (y ∷ ys) e =
    let b : ((x == y) ≡ true) × (equal_lists xs ys ≡ true) = both (x == y) (equal_lists xs ys) e in
    let p : x ≡ y = same_number x y b.0 in
    let q : xs ≡ ys = same_list xs ys b.1 in
    cc

list_same : (xs : List ℕ) → equal_lists xs xs ≡ true
list_same [] = refl
list_same (x ∷ xs) = rw (number_same x, list_same xs) refl

same_value : (x y : Value) → equal_values x y ≡ true → x ≡ y
same_value (values.User a) (values.User b) e = ap values.User (same_list a b e)
same_value (values.Chain a) (values.Chain b) e = ap values.Chain (same_list a b e)
same_value values.Default values.Default e = refl
same_value (values.Task a) (values.Task b) e = ap values.Task (same_number a b e)
same_value (values.Account a b) (values.Account c d) e =
    let p : ((a == c) ≡ true) × ((b == d) ≡ true) = both (a == c) (b == d) e in
    let q : a ≡ c = same_number a c p.0 in
    let r : b ≡ d = same_number b d p.1 in
    cc
same_value x y e = absurd (unlike e)

value_same : (x : Value) → equal_values x x ≡ true
value_same (values.User a) = list_same a
value_same (values.Chain a) = list_same a
value_same values.Default = refl
value_same (values.Task a) = number_same a
value_same (values.Account a b) = rw (number_same a, number_same b) refl

same_option : (x y : Option Value) → equal_options x y ≡ true → x ≡ y
same_option None None e = refl
same_option (Some x) (Some y) e = ap Some (same_value x y e)
same_option None (Some y) e = absurd (unlike e)
same_option (Some x) None e = absurd (unlike e)

option_same : (x : Option Value) → equal_options x x ≡ true
option_same None = refl
option_same (Some x) = value_same x

voucher_equal : (a b : Voucher) → equal_vouchers a b ≡ true → a ≡ b
voucher_equal a b e =
    let p : (equal_options a.importance b.importance ≡ true) × ((equal_options a.bank b.bank && (equal_options a.user b.user && (equal_options a.test b.test && true))) ≡ true) = both _ _ e in
    let q : (equal_options a.bank b.bank ≡ true) × ((equal_options a.user b.user && (equal_options a.test b.test && true)) ≡ true) = both _ _ p.1 in
    let r : (equal_options a.user b.user ≡ true) × ((equal_options a.test b.test && true) ≡ true) = both _ _ q.1 in
    let s : (equal_options a.test b.test ≡ true) × (true ≡ true) = both _ _ r.1 in
    equal_where_equal a b
    (at_each a b (same_option _ _ p.0) (same_option _ _ q.0) (same_option _ _ r.0) (same_option _ _ s.0))
  where
    at_each : (a b : Voucher) → a.importance ≡ b.importance → a.bank ≡ b.bank → a.user ≡ b.user → a.test ≡ b.test
        → (k : Key) → of_key k a ≡ of_key k b
    at_each a b p q r s keys.Importance = p
    at_each a b p q r s keys.Bank = q
    at_each a b p q r s keys.User = r
    at_each a b p q r s keys.Test = s

equal_itself : (a : Voucher) → equal_vouchers a a ≡ true
equal_itself a = rw (option_same a.importance, option_same a.bank, option_same a.user, option_same a.test) refl

pub same_where_equal : AreSameWhereEqual
same_where_equal a b = (voucher_equal a b, λ e. subst (λ c. equal_vouchers a c ≡ true) e (equal_itself a))
