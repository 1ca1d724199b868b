-- The words of a line of a report: numbers below a top, each with one numeral, and bytes in lower-case digits.
use Rattle.std.specs.Prelude.{ℕ, ◌^◌, nat_lt, if◌then◌else◌, List, Bool, not, Option, Some, None}
use Rattle.std.specs.List.{list_all}
use Rattle.std.specs.Char.{is_ascii_uppercase}
use Rattle.vch_text.specs.Reading.{◌>>=◌}
use Rattle.vch_text.specs.Words.{is_word, word_at, end_of}
use Rattle.vch_text.specs.Numbers.{number_of}
use Rattle.vch_text.specs.Digits.{bytes_of}

-- the number below the top that the word spells
unfoldable pub below : ℕ → List ℕ → Option ℕ
below top w = do
  n ← number_of top w
  if nat_lt n top then Some n else None

-- the next word as such a number, and what is left
unfoldable pub below_at : ℕ → List ℕ → Option (ℕ × List ℕ)
below_at top rest = do
  w ← word_at rest
  n ← below top w.0
  Some (n, w.1)

-- a task, or what is numbered from 1
unfoldable pub ordinal : List ℕ → Option ℕ
ordinal w = do
  n ← below (2 ^ 32) w
  if nat_lt 0 n then Some n else None

unfoldable pub ordinal_at : List ℕ → Option (ℕ × List ℕ)
ordinal_at rest = do
  w ← word_at rest
  n ← ordinal w.0
  Some (n, w.1)

-- what is left behind the next word, where that is this text
unfoldable pub after : List ℕ → List ℕ → Option (List ℕ)
after text rest = do
  w ← word_at rest
  if is_word w.0 text then Some w.1 else None

abbrev pub is_lower : List ℕ → Bool
is_lower w = list_all (λ c. not (is_ascii_uppercase c)) w

-- the bytes that the one word left spells in lower-case digits
unfoldable pub bytes_at : List ℕ → Option (List ℕ)
bytes_at rest = do
  w ← word_at rest
  done ← end_of w.1
  bytes ← bytes_of w.0
  if is_lower w.0 then Some bytes else None
