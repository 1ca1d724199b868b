-- What stands behind the word `made`: a key and a value of it.
use Rattle.std.specs.Prelude.{ℕ, nat_le, ◌==◌, if◌then◌else◌, List, [], ◌∷◌, length, Option, Some, None, codes}
use Rattle.std.specs.List.{slice_split}
use Rattle.vch_base.specs.declared.value.Value.TheVariants as values
use Rattle.vch_model.specs.declared.entry.Entry.{Entry}
use Rattle.vch_model.specs.declared.entry.Entry.TheVariants as entries
use Rattle.vch_text.specs.Reading.{◌>>=◌}
use Rattle.vch_text.specs.Words.{is_word, word_at, end_of}
use Rattle.vch_report.specs.Numerals.{ordinal, ordinal_at, after, bytes_at}

-- the parts of a word between its commas
abbrev pub parts_of : List ℕ → List (List ℕ)
parts_of w = slice_split (λ c. c == 44) w

abbrev pub ordinals : List (List ℕ) → Option (List ℕ)
ordinals [] = Some []
ordinals (w ∷ ws) = do
  t ← ordinal w
  ts ← ordinals ws
  Some (t ∷ ts)

-- a list of at most eight tasks
unfoldable pub chain_of : List ℕ → Option (List ℕ)
chain_of w = do
  ts ← ordinals (parts_of w)
  if nat_le (length ts) 8 then Some ts else None

-- user data at the key with this number
unfoldable pub user_of : ℕ → List ℕ → Option Entry
user_of key rest = do
  more ← after (codes "user") rest
  bytes ← bytes_at more
  Some (entries.Made key (values.User bytes))

unfoldable pub list_of : List ℕ → Option Entry
list_of rest = do
  more ← after (codes "list") rest
  w ← word_at more
  done ← end_of w.1
  ts ← chain_of w.0
  Some (entries.Made 2 (values.Chain ts))

unfoldable pub task_of : List ℕ → Option Entry
task_of rest = do
  t ← ordinal_at rest
  done ← end_of t.1
  Some (entries.Made 3 (values.Task t.0))

unfoldable pub account_of : List ℕ → Option Entry
account_of rest = do
  h ← ordinal_at rest
  m ← ordinal_at h.1
  done ← end_of m.1
  Some (entries.Made 3 (values.Account h.0 m.0))

unfoldable pub bank_of : List ℕ → Option Entry
bank_of rest = do
  w ← word_at rest
  if is_word w.0 (codes "task") then task_of w.1
      else if is_word w.0 (codes "account") then account_of w.1
      else None

unfoldable pub made_of : List ℕ → Option Entry
made_of rest = do
  w ← word_at rest
  if is_word w.0 (codes "7") then user_of 7 w.1
      else if is_word w.0 (codes "8") then user_of 8 w.1
      else if is_word w.0 (codes "2") then list_of w.1
      else if is_word w.0 (codes "3") then bank_of w.1
      else None
