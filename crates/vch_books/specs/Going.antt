-- How a call changes what the tasks have.
use Rattle.std.specs.Prelude.{◌≡◌, ℕ, List, length}
use Rattle.std.specs.List.{AllByRecursion}
use Rattle.vch_base.specs.Tasks.{at_task}
use Rattle.vch_model.specs.declared.entry.Entry.{Entry}
use Rattle.vch_books.specs.Desks.{Desk, empty_desk}
use Rattle.vch_books.specs.Numbered.{live_of}
use Rattle.vch_books.specs.Kept.{DeskStands}

-- there are as many tasks, each with as many calls, and each voucher stands where each did
pub record Goes (history : List Entry) (live : List ℕ) (old new : List Desk) : Type 0 where
  pub long : length new ≡ length old
  pub begun : (t : ℕ) → (at_task new t empty_desk).begun ≡ (at_task old t empty_desk).begun
  pub stands : AllByRecursion (DeskStands history (live_of history live)) old → AllByRecursion (DeskStands history (live_of history live)) new
