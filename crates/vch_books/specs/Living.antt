-- Live values by their numbers, and the index that finds one by its content.
use Rattle.std.specs.Prelude.{◌≡◌, ◌<◌, ℕ, Bool, true, false, ◌==◌, nat_eq, if◌then◌else◌, List, [], ◌∷◌, ◌++◌, Option, Some, None}
use Rattle.std.specs.Hash as fed
use Rattle.std.specs.List.{AllByRecursion, flat_map}
use Rattle.std.specs.Cmp.Lexicographic.{pointwise}
use Rattle.indexmap.specs.IndexMap.{IndexMap, get}
use Rattle.vch_base.specs.Values.{is_default}
use Rattle.vch_base.specs.declared.value.Value.{Value}
use Rattle.vch_base.specs.declared.value.Value.TheVariants as values
use Rattle.vch_model.specs.declared.entry.Entry.{Entry}
use Rattle.vch_shelf.specs.Finds.{Finds}
use Rattle.vch_books.specs.Holding.{is_one}
use Rattle.vch_books.specs.Numbered.{entry_at, key_made, numbered_value}

-- a value and the key at which it was made
pub record Content : Type 0 where
  pub key : ℕ
  pub value : Value

-- a value in numbers: its kind, and what it holds
abbrev pub words_of : Value → List ℕ
words_of (values.User bytes) = 0 ∷ bytes
words_of (values.Chain list) = 1 ∷ list
words_of values.Default = 2 ∷ []
words_of (values.Task t) = 3 ∷ t ∷ []
words_of (values.Account holder merchant) = 4 ∷ holder ∷ merchant ∷ []

abbrev pub code : Content → List ℕ
code c = c.key ∷ words_of c.value

abbrev pub same_content : Content → Content → Bool
same_content a b = pointwise nat_eq (code a) (code b)

-- what is hashed of numbers
abbrev pub fed_words : List ℕ → List (List ℕ)
fed_words words = flat_map fed.u32 words

-- what is hashed of a value in numbers: its kind, and what it holds, where the bytes of user data are one piece
abbrev pub fed_value : List ℕ → List (List ℕ)
fed_value [] = []
fed_value (kind ∷ words) = fed_words (kind ∷ []) ++ (if kind == 0 then words ∷ [] else fed_words words)

-- what is hashed of a content in numbers: its key, and its value
abbrev pub fed_code : List ℕ → List (List ℕ)
fed_code [] = []
fed_code (key ∷ words) = fed_words (key ∷ []) ++ fed_value words

-- the content of the Made entry with a number
abbrev pub content_of : List Entry → ℕ → Content
content_of history e = record { key = key_made (entry_at history e); value = numbered_value history e }

-- the content of a number, where it is one of these
abbrev pub content_at : List Entry → List ℕ → ℕ → Option Content
content_at history numbers e = if is_one numbers e then Some (content_of history e) else None

-- the number that the index has for a content
abbrev pub found : {S : Type 0} → IndexMap Content ℕ S → Content → Option ℕ
found index c = get same_content index c

-- a history, and the numbers of the values that are live after its first entries
pub record Living : Type 0 where
  pub history : List Entry
  pub numbers : List ℕ

-- each of them is below a number
abbrev pub IsBelow : List ℕ → ℕ → Type 0
IsBelow numbers e = AllByRecursion (λ d. d < e) numbers

-- the index has exactly the contents of the live values, each with its number, and none of them is Default
pub record Indexed {S : Type 0} (index : IndexMap Content ℕ S) (history : List Entry) (numbers : List ℕ) : Type 0 where
  pub finds : Finds (found index) (content_at history numbers)
  pub plain : (e : ℕ) → is_one numbers e ≡ true → is_default (numbered_value history e) ≡ false
