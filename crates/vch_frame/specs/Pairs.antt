-- Two lists agree place by place; two that may be none agree.
use Rattle.std.specs.Prelude.{List, [], ◌∷◌, Option, Some, None}

abbrev pub Pairwise : {A B : Type 0} → (A → B → Type 0) → List A → List B → Type 0
Pairwise r [] [] = Unit {0}
Pairwise r (a ∷ as_) (b ∷ bs) = r a b × Pairwise r as_ bs
Pairwise r as_ bs = ⊥

abbrev pub Optional : {A B : Type 0} → (A → B → Type 0) → Option A → Option B → Type 0
Optional r None None = Unit {0}
Optional r (Some a) (Some b) = r a b
Optional r a b = ⊥
