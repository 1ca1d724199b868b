-- The numbers that words spell, up to a top.
use Rattle.std.specs.Prelude.{◌≡◌, ◌<◌, ◌⊎◌, ℕ, ◌+◌, ◌-◌, ◌*◌, min, ◌==◌, if◌then◌else◌, List, [], ◌∷◌, Option, Some, None}
use Rattle.std.specs.Char.{is_ascii_digit}
use Rattle.vch_text.specs.Reading.{◌>>=◌}
use Rattle.vch_text.specs.Words.{word_at, end_of}

-- the number that digits spell behind the ones that spell n, or the top where it is above
unfoldable pub number_after : ℕ → ℕ → List ℕ → Option ℕ
number_after top n [] = Some n
number_after top n (c ∷ cs) = if is_ascii_digit c then number_after top (min (n * 10 + (c - 48)) top) cs else None

-- the number that a word spells, or the top
unfoldable pub number_of : ℕ → List ℕ → Option ℕ
number_of top [] = None
number_of top (c ∷ []) = number_after top 0 (c ∷ [])
number_of top (c ∷ d ∷ cs) = if c == 48 then None else number_after top 0 (c ∷ d ∷ cs)

-- no number, or the top
abbrev pub IsOver : ℕ → Option ℕ → Type 0
IsOver top read = (read ≡ None) ⊎ (read ≡ Some top)

-- the number that was read, if it is one below the top
abbrev pub IsExact : ℕ → Option ℕ → Option ℕ → Type 0
IsExact top read (Some n) = (read ≡ Some n) × (n < top)
IsExact top read None = IsOver top read

-- the number that the next word spells, and what is left
unfoldable pub number_at : ℕ → List ℕ → Option (ℕ × List ℕ)
number_at top rest = do
  w ← word_at rest
  n ← number_of top w.0
  Some (n, w.1)

-- one number and no more
unfoldable pub one_of : ℕ → List ℕ → Option ℕ
one_of top rest = do
  a ← number_at top rest
  done ← end_of a.1
  Some a.0

-- two numbers and no more
unfoldable pub two_of : ℕ → List ℕ → Option (ℕ × ℕ)
two_of top rest = do
  a ← number_at top rest
  b ← number_at top a.1
  done ← end_of b.1
  Some (a.0, b.0)
