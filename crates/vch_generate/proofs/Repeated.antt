-- One more of the same at the end, and as many as were wanted.
use Rattle.std.proofs.Common.{◌≡◌, ◌+◌, ◌≤◌, ℕ, List, [], ◌∷◌, ◌++◌, replicate, ap, ◌∙◌, arith}
use Rattle.std.proofs.lemmas.List.{replicate-append-replicate}

pub one_longer : {A : Type 0} → (old new : List A) (n : ℕ) (x : A) → old ≡ replicate n x → new ≡ old ++ x ∷ [] → new ≡ replicate (n + 1) x
one_longer old new n x e f = f ∙ (ap (λ l. l ++ x ∷ []) e ∙ replicate-append-replicate n 1 x)

pub all_of : {A : Type 0} → (items : List A) (n m : ℕ) (x : A) → items ≡ replicate n x → n ≤ m → m ≤ n → items ≡ replicate m x
all_of items n m x e f g = let same : n ≡ m = omega (arith, f, g) in e ∙ ap (λ k. replicate k x) same
