-- A line of a report, in whichever version it may stand.
use Rattle.std.specs.Prelude.{ℕ, ◌^◌, if◌then◌else◌, List, Option, Some, None, codes}
use Rattle.vch_model.specs.declared.entry.Entry.{Entry}
use Rattle.vch_model.specs.declared.entry.Entry.TheVariants as entries
use Rattle.vch_text.specs.Reading.{◌>>=◌}
use Rattle.vch_text.specs.Words.{is_word, front_of, word_at, end_of}
use Rattle.vch_report.specs.declared.item.Item.{Item}
use Rattle.vch_report.specs.declared.item.Item.TheVariants as items
use Rattle.vch_report.specs.Numerals.{below_at, ordinal_at, after}
use Rattle.vch_report.specs.Values.{made_of}
use Rattle.vch_report.specs.Replies.{call_of}

unfoldable pub released_of : List ℕ → Option Entry
released_of rest = do
  e ← ordinal_at rest
  done ← end_of e.1
  Some (entries.Released e.0)

unfoldable pub release_of : List ℕ → Option Item
release_of rest = do
  entry ← released_of rest
  Some (items.Step entry)

unfoldable pub phase_of : List ℕ → Option Item
phase_of rest = do
  done ← end_of rest
  Some (items.Step entries.Phase)

unfoldable pub gone_of : List ℕ → Option Item
gone_of rest = do
  t ← ordinal_at rest
  name ← ordinal_at t.1
  done ← end_of name.1
  Some (items.Step (entries.Gone t.0 name.0))

unfoldable pub lost_of : List ℕ → Option Item
lost_of rest = do
  t ← ordinal_at rest
  done ← end_of t.1
  Some (items.Step (entries.Lost t.0))

unfoldable pub version_of : List ℕ → Option ℕ
version_of w =
    if is_word w (codes "1") then Some 1
    else if is_word w (codes "2") then Some 2
    else None

unfoldable pub title_of : List ℕ → Option Item
title_of rest = do
  w ← word_at rest
  done ← end_of w.1
  version ← version_of w.0
  Some (items.Title version)

unfoldable pub last_of : List ℕ → Option Item
last_of rest = do
  done ← end_of rest
  Some items.End

unfoldable pub total_of : List ℕ → Option Item
total_of rest = do
  t ← ordinal_at rest
  a ← after (codes "ledger") t.1
  x ← below_at (2 ^ 128) a
  b ← after (codes "held") x.1
  y ← below_at (2 ^ 128) b
  c ← after (codes "out") y.1
  z ← below_at (2 ^ 128) c
  done ← end_of z.1
  Some (items.Task t.0 (record { ledger = x.0; held = y.0; out = z.0 }))

unfoldable pub counts_of : List ℕ → Option Item
counts_of rest = do
  v ← below_at (2 ^ 64) rest
  a ← after (codes "values") v.1
  w ← below_at (2 ^ 64) a
  done ← end_of w.1
  Some (items.Counts v.0 w.0)

unfoldable pub call_item : List ℕ → Option Item
call_item rest = do
  entry ← call_of rest
  Some (items.Step entry)

unfoldable pub made_item : List ℕ → Option Item
made_item rest = do
  entry ← made_of rest
  Some (items.Step entry)

-- what stands behind a word that begins a line without bytes
unfoldable pub small_item : List ℕ → List ℕ → Option Item
small_item w rest =
    if is_word w (codes "released") then release_of rest
    else if is_word w (codes "gone") then gone_of rest
    else if is_word w (codes "lost") then lost_of rest
    else if is_word w (codes "phase") then phase_of rest
    else if is_word w (codes "task") then total_of rest
    else if is_word w (codes "vouchers") then counts_of rest
    else if is_word w (codes "report") then title_of rest
    else if is_word w (codes "end") then last_of rest
    else None

-- what stands behind the word that a line begins with
unfoldable pub item_by : List ℕ → List ℕ → Option Item
item_by w rest =
    if is_word w (codes "call") then call_item rest
    else if is_word w (codes "made") then made_item rest
    else small_item w rest

unfoldable pub item_of : List ℕ → Option Item
item_of line = item_by (front_of 32 line).0 (front_of 32 line).1
