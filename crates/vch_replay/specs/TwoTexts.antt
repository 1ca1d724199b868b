-- A scenario's text and a report's text behind it.
use Rattle.std.specs.Prelude.{ℕ, ◌+◌, if◌then◌else◌, List, [], ◌∷◌, length, take, drop, Option, Some, None, codes}
use Rattle.vch_text.specs.Words.{is_word}
use Rattle.vch_model.specs.TextLines.{split_of}

-- so many more
abbrev pub further : ℕ → Option ℕ → Option ℕ
further n None = None
further n (Some m) = Some (n + m)

-- the bytes of the lines up to and with the first one that is exactly `end`, each with its line feed
abbrev pub bytes_to_end : List (List ℕ) → Option ℕ
bytes_to_end [] = None
bytes_to_end (l ∷ lines) = if is_word l (codes "end") then Some (length l + 1) else further (length l + 1) (bytes_to_end lines)

abbrev pub size_or : Option ℕ → ℕ → ℕ
size_or None size = size
size_or (Some n) size = n

-- the bytes up to and with that line; all, where there is none
abbrev pub scenario_size : List ℕ → ℕ
scenario_size input = size_or (bytes_to_end (split_of input).0) (length input)

abbrev pub scenario_part : List ℕ → List ℕ
scenario_part input = take (scenario_size input) input

-- the bytes behind it
abbrev pub report_part : List ℕ → List ℕ
report_part input = drop (scenario_size input) input
