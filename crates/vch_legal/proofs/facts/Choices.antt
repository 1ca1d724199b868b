-- Facts of Booleans and numbers that many lemmas share.
use Rattle.std.proofs.Common.{◌≡◌, ℕ, Bool, refl, true, false, ◌&&◌, ◌||◌, arith, sym, ◌∙◌, Some, inl, inr}
use Rattle.std.specs.Prelude.{◌⊎◌, ◌==◌}
use Rattle.std.proofs.lemmas.Grind.{common_steps}

pub cases_bool : (b : Bool) (P : Type 0) → (b ≡ true → P) → (b ≡ false → P) → P
cases_bool true P f g = f refl
cases_bool false P f g = g refl

pub not_true : (b : Bool) → (b ≡ true → ⊥) → b ≡ false
not_true true f = absurd (f refl)
not_true false f = refl

pub both_ways : {b : Bool} → b ≡ true → b ≡ false → ⊥
both_ways e g = let k : true ≡ false = sym e ∙ g in cc

pub and_left : (a b : Bool) → (a && b) ≡ true → a ≡ true
and_left a b e = grind arith

pub and_right : (a b : Bool) → (a && b) ≡ true → b ≡ true
and_right a b e = grind arith

pub or_case : (a b : Bool) → (a || b) ≡ true → (a ≡ true) ⊎ (b ≡ true)
or_case true b e = inl refl
or_case false b e = inr e

pub or_left : (a b : Bool) → a ≡ true → (a || b) ≡ true
or_left a b e = grind arith

pub or_right : (a b : Bool) → b ≡ true → (a || b) ≡ true
or_right a b e = grind arith

pub neither_left : (a b : Bool) → (a || b) ≡ false → a ≡ false
neither_left a b e = grind arith

pub neither_right : (a b : Bool) → (a || b) ≡ false → b ≡ false
neither_right a b e = grind arith

pub number_eq : (a b : ℕ) → (a == b) ≡ true → a ≡ b
number_eq a b e = grind arith

pub eq_refl : (n : ℕ) → (n == n) ≡ true
eq_refl n = grind (arith, common_steps)

pub some_eq : {A : Type 0} (a b : A) → Some a ≡ Some b → a ≡ b
some_eq a b e = cc
