-- The messages behind a place of a list.
use Rattle.std.proofs.Common.{◌≡◌, ℕ, zero, suc, ◌+◌, List, [], ◌∷◌, refl, arith, ap, ◌∙◌, drop}
use Rattle.vch_books.specs.declared.rows.Message.{Message}
use Rattle.vch_books.specs.Audits.{rest_of}

step_on : (xs : List Message) (g : ℕ) → drop (suc g) xs ≡ rest_of (drop g xs)
step_on [] zero = refl
step_on [] (suc g) = refl
step_on (x ∷ xs) zero = refl
step_on (x ∷ xs) (suc g) = step_on xs g

pub one_on : (xs : List Message) (g : ℕ) → drop (g + 1) xs ≡ rest_of (drop g xs)
one_on xs g = ap (λ n. drop n xs) (plus g) ∙ step_on xs g
  where
    plus : (g : ℕ) → g + 1 ≡ suc g
    plus g = omega arith
