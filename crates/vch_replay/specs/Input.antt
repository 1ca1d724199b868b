-- What reading a source to its end says.
use Rattle.std.specs.Prelude.{◌+◌, ◌<◌, ◌≤◌, ℕ, List, length, Option, Some, None}

-- the most bytes of input
abbrev pub limit : ℕ
limit = 4194304

-- where what is left is told, it still is, and more than the limit was given
abbrev pub GaveTooMuch : Option (List ℕ) → Option (List ℕ) → Type 0
GaveTooMuch None new = Unit {0}
GaveTooMuch (Some old) None = ⊥
GaveTooMuch (Some old) (Some new) = length new + limit < length old

-- where what is left is told, it still is, and at most this many bytes were given
abbrev pub GaveAtMost : ℕ → Option (List ℕ) → Option (List ℕ) → Type 0
GaveAtMost most None new = Unit {0}
GaveAtMost most (Some old) None = ⊥
GaveAtMost most (Some old) (Some new) = length old ≤ length new + most

-- where what is left is told, there was at most one read more than bytes were given: each read but the last gave some
abbrev pub EachReadGave : Option (List ℕ) → Option (List ℕ) → ℕ → ℕ → Type 0
EachReadGave None new before after = Unit {0}
EachReadGave (Some old) None before after = ⊥
EachReadGave (Some old) (Some new) before after = after + length new ≤ before + length old + 1
