-- What a step of reading tells: a fact of its value, or one of why there is none.
use Rattle.std.proofs.Common.{◌≡◌, Bool, true, false, cond, Result, Ok, Err, refl}
use Rattle.vch_scenario.specs.declared.fault.Why.{Why}
use Rattle.vch_scenario.specs.Reading.{◌>>=◌}

abbrev pub Told : {X : Type 0} → (Why → Type 0) → (X → Type 0) → Result X Why → Type 0
Told Q R (Ok x) = R x
Told Q R (Err e) = Q e

pub told_bind : {X Y : Type 0} (Q : Why → Type 0) (R : X → Type 0) (S : Y → Type 0) (r : Result X Why) (f : X → Result Y Why) → Told Q R r → ((x : X) → R x → Told Q S (f x)) → Told Q S (r >>= f)
told_bind Q R S (Ok x) f h g = g x h
told_bind Q R S (Err e) f h g = h

pub told_test : {X : Type 0} (Q : Why → Type 0) (R : X → Type 0) (b : Bool) (r s : Result X Why) → (b ≡ true → Told Q R r) → (b ≡ false → Told Q R s) → Told Q R (cond b r s)
told_test Q R true r s g h = g refl
told_test Q R false r s g h = h refl

pub told_map : {X : Type 0} (Q : Why → Type 0) (R S : X → Type 0) (r : Result X Why) → ((x : X) → R x → S x) → Told Q R r → Told Q S r
told_map Q R S (Ok x) g h = g x h
told_map Q R S (Err e) g h = h
