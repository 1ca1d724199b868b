-- A truth value by its two cases.
use Rattle.std.proofs.Common.{◌≡◌, Bool, true, false, refl, sym}

pub cases_of : (b : Bool) (P : Type 0) → (b ≡ true → P) → (b ≡ false → P) → P
cases_of true P f g = f refl
cases_of false P f g = g refl

pub either_way : (a b : Bool) → (a ≡ true → b ≡ true) → (b ≡ true → a ≡ true) → a ≡ b
either_way true b f g = sym (f refl)
either_way false true f g = g refl
either_way false false f g = refl
