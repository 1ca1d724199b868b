-- Whether each number of a list passes, from a place on.
use Rattle.std.proofs.Common.{◌≡◌, ℕ, suc, ◌+◌, ◌<◌, Bool, true, false, List, [], ◌∷◌, refl, sym, ap, ◌∙◌, ◌&&◌, length, drop, get_or, add-one}
use Rattle.std.specs.Prelude.{slice_index}
use Rattle.std.specs.List.{list_all}
use Rattle.std.proofs.Math.Seq.{drop-cons, drop-length}

pub next_passes : (p : ℕ → Bool) (xs : List ℕ) (i : ℕ) → i < length xs → p (slice_index xs i) ≡ true
    → list_all p (drop (i + 1) xs) ≡ list_all p (drop i xs)
next_passes p xs i l h = ap (λ n. list_all p (drop n xs)) (add-one i)
    ∙ sym (ap (list_all p) (drop-cons xs i 0 l) ∙ ap (λ b. b && list_all p (drop (suc i) xs)) h)

pub next_fails : (p : ℕ → Bool) (xs : List ℕ) (i : ℕ) → i < length xs → p (slice_index xs i) ≡ false
    → list_all p (drop i xs) ≡ false
next_fails p xs i l h = ap (list_all p) (drop-cons xs i 0 l) ∙ ap (λ b. b && list_all p (drop (suc i) xs)) h

pub none_left : (p : ℕ → Bool) (xs : List ℕ) (i : ℕ) → i ≡ length xs → list_all p (drop i xs) ≡ true
none_left p xs i e = ap (λ n. list_all p (drop n xs)) e ∙ ap (list_all p) (drop-length xs)
