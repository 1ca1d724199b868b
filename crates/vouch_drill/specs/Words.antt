-- The forms of words. They are this project's own.
use Rattle.std.specs.Prelude.{◌≡◌, ◌≤◌, ℕ, List, [], ◌∷◌, codes}
use Rattle.std.specs.Fmt.{decimal}

-- the most rounds that can be asked for
abbrev pub most_rounds : ℕ
most_rounds = 1000

-- `made` and a decimal number of rounds, without leading zeros
abbrev pub AsksMade : List (List ℕ) → ℕ → Type 0
AsksMade words n = (words ≡ codes "made" ∷ decimal n ∷ []) × (1 ≤ n) × (n ≤ most_rounds)

-- the words are none of the forms
abbrev pub IsNoForm : List (List ℕ) → Type 0
IsNoForm words = (n : ℕ) → AsksMade words n → ⊥
