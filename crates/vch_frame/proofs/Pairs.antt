-- Lists that agree in one way agree in each weaker way.
use Rattle.std.proofs.Common.{List, [], ◌∷◌, Option, Some, None}
use Rattle.vch_frame.specs.Pairs.{Pairwise, Optional}

pub pairwise : {A B : Type 0} (r q : A → B → Type 0) → ((a : A) (b : B) → r a b → q a b) → (xs : List A) (ys : List B) → Pairwise r xs ys → Pairwise q xs ys
pairwise r q f [] [] p = tt
pairwise r q f (x ∷ xs) (y ∷ ys) p = (f x y p.0, pairwise r q f xs ys p.1)
pairwise r q f [] (y ∷ ys) p = absurd p
pairwise r q f (x ∷ xs) [] p = absurd p

pub optional : {A B : Type 0} (r q : A → B → Type 0) → ((a : A) (b : B) → r a b → q a b) → (x : Option A) (y : Option B) → Optional r x y → Optional q x y
optional r q f None None p = tt
optional r q f (Some a) (Some b) p = f a b p
optional r q f None (Some b) p = absurd p
optional r q f (Some a) None p = absurd p
