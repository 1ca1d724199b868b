-- What a task that is put has as the one before, every task has as before.
use Rattle.std.proofs.Common.{◌≡◌, ℕ, zero, suc, List, [], ◌∷◌, refl, get_or}
use Rattle.std.proofs.Math.ListN.{set}
use Rattle.vch_base.specs.Tasks.{at_task, set_task}

pub same_part : {X B : Type 0} (g : X → B) (xs : List X) (t u : ℕ) (x d : X) → g x ≡ g (at_task xs t d) → g (at_task (set_task xs t x) u d) ≡ g (at_task xs u d)
same_part {X} {B} g xs zero u x d e = refl
same_part {X} {B} g xs (suc i) zero x d e = refl
same_part {X} {B} g xs (suc i) (suc j) x d e = from_place xs i j e
  where
    from_place : (xs : List X) (i j : ℕ) → g x ≡ g (get_or xs i d) → g (get_or (set xs i x) j d) ≡ g (get_or xs j d)
    from_place [] i j e = refl
    from_place (y ∷ xs) zero zero e = e
    from_place (y ∷ xs) zero (suc j) e = refl
    from_place (y ∷ xs) (suc i) zero e = refl
    from_place (y ∷ xs) (suc i) (suc j) e = from_place xs i j e
