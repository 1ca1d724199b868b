-- The words of a line. What is left of a line begins with the space before its next word.
use Rattle.std.specs.Prelude.{ℕ, Bool, ◌==◌, if◌then◌else◌, List, [], ◌∷◌, ◌++◌, Option, Some, None}
use Rattle.std.specs.List.{flat_map}
use Rattle.std.specs.Cmp.Lexicographic.{pointwise}
use lib.Dec.{eqb}

abbrev pub in_front : ℕ → List ℕ × List ℕ → List ℕ × List ℕ
in_front c parts = (c ∷ parts.0, parts.1)

-- whether the word is this text
unfoldable pub is_word : List ℕ → List ℕ → Bool
is_word w text = pointwise eqb w text

-- what stands before the first byte s, and the bytes from it on
unfoldable pub front_of : ℕ → List ℕ → List ℕ × List ℕ
front_of s [] = ([], [])
front_of s (c ∷ cs) = if c == s then ([], c ∷ cs) else in_front c (front_of s cs)

-- the next word, and what is left
unfoldable pub word_at : List ℕ → Option (List ℕ × List ℕ)
word_at [] = None
word_at (c ∷ cs) = if c == 32 then Some (front_of 32 cs) else None

-- nothing follows
unfoldable pub end_of : List ℕ → Option (Unit {0})
end_of [] = Some tt
end_of (c ∷ cs) = None

-- lines, each with a line feed, and what stands behind the last of them
abbrev pub joined : List (List ℕ) × List ℕ → List ℕ
joined parts = flat_map (λ l. l ++ 10 ∷ []) parts.0 ++ parts.1
