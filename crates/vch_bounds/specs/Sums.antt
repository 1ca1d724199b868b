-- Sums over tasks.
use Rattle.std.specs.Prelude.{ℕ, ◌+◌, List, [], ◌∷◌}

-- the sum over the tasks from a number on
abbrev pub sum_tasks : {A : Type 0} → (ℕ → A → ℕ) → ℕ → List A → ℕ
sum_tasks f t [] = 0
sum_tasks f t (x ∷ xs) = f t x + sum_tasks f (t + 1) xs
