-- Two lists side by side, one place of each replaced.
use Rattle.std.proofs.Common.{◌≡◌, ℕ, zero, suc, List, [], ◌∷◌, refl, arith, ap, length, get_or}
use Rattle.std.proofs.Math.ListN.{set}
use Rattle.vch_machine.specs.State.{Tasked, idle}
use Rattle.vch_base.specs.Tasks.{at_task, set_task}
use Rattle.vch_parts.specs.Plain.{Part, idle_part}
use Rattle.vch_parts.specs.Pictures.{both}

both_set : (xs : List Part) (ys : List Tasked) (i : ℕ) (a : Part) (b : Tasked) → both (set xs i a) (set ys i b) ≡ set (both xs ys) i (record { part = a; task = b })
both_set [] ys i a b = refl
both_set (x ∷ xs) [] zero a b = refl
both_set (x ∷ xs) [] (suc i) a b = refl
both_set (x ∷ xs) (y ∷ ys) zero a b = refl
both_set (x ∷ xs) (y ∷ ys) (suc i) a b = ap (λ t. record { part = x; task = y } ∷ t) (both_set xs ys i a b)

both_get : (xs : List Part) (ys : List Tasked) (i : ℕ) → length xs ≡ length ys → get_or (both xs ys) i (record { part = idle_part; task = idle }) ≡ record { part = get_or xs i idle_part; task = get_or ys i idle }
both_get [] [] i e = refl
both_get [] (y ∷ ys) i e = absurd (omega arith)
both_get (x ∷ xs) [] i e = absurd (omega arith)
both_get (x ∷ xs) (y ∷ ys) zero e = refl
both_get (x ∷ xs) (y ∷ ys) (suc i) e = both_get xs ys i (omega arith)

pub both_length : (xs : List Part) (ys : List Tasked) → length xs ≡ length ys → length (both xs ys) ≡ length xs
both_length [] ys e = refl
both_length (x ∷ xs) [] e = absurd (omega arith)
both_length (x ∷ xs) (y ∷ ys) e = let l : length (both xs ys) ≡ length xs = both_length xs ys (omega arith) in omega arith

-- by task
pub both_put : (xs : List Part) (ys : List Tasked) (t : ℕ) (a : Part) (b : Tasked) → both (set_task xs t a) (set_task ys t b) ≡ set_task (both xs ys) t (record { part = a; task = b })
both_put xs ys zero a b = refl
both_put xs ys (suc i) a b = both_set xs ys i a b

pub both_at : (xs : List Part) (ys : List Tasked) (t : ℕ) → length xs ≡ length ys → at_task (both xs ys) t (record { part = idle_part; task = idle }) ≡ record { part = at_task xs t idle_part; task = at_task ys t idle }
both_at xs ys zero e = refl
both_at xs ys (suc i) e = both_get xs ys i e
