-- How what a row and a seat keep at run time goes with the table and the seat's view of it.
use Rattle.std.specs.Prelude.{◌≡◌, ℕ, ◌+◌, ◌<◌, ◌≤◌, List, [], Bool, length}
use Rattle.atomic_table.specs.Table.{Me}
use Rattle.atomic_table.specs.Seated.{TableId}
use Rattle.vch_made.specs.Seats.{Row, most_makes}
use Rattle.vch_made.specs.declared.view.View.{View}
use Rattle.vch_made.specs.declared.view.Terms.{Terms}

abbrev pub row_of : TableId → View → Row
row_of table v = record { table = table; slots = length v.own; makes = v.makes }

-- each list has a place for each slot
pub record IsWide (v : View) : Type 0 where
  pub dead_wide : length v.dead ≡ length v.own
  pub freed_wide : length v.freed ≡ length v.own
  pub steps_wide : length v.steps ≡ length v.own
  pub met_wide : length v.met ≡ length v.own

-- what a seat keeps is what its view says, within the bound
pub record SeatFits (me : Me (Unit {0}) View) (own : List ℕ) (dead : List Bool) (room tries : ℕ) : Type 0 where
  pub carries : me.1 ≡ []
  pub own_is : own ≡ me.0.own
  pub dead_is : dead ≡ me.0.dead
  pub room_is : room ≡ me.0.room
  pub tries_is : tries ≡ me.0.tries
  pub most : room + tries ≤ me.0.makes
  pub bound : me.0.makes < most_makes
  pub wide : IsWide me.0

-- the table has a word for each slot, and was opened with these numbers
pub record RowFits (table : TableId) (key : Terms) (slots makes : ℕ) : Type 0 where
  pub words_are : table.words ≡ slots
  pub slots_are : key.slots ≡ slots
  pub makes_are : key.makes ≡ makes
  pub some : 1 ≤ slots
  pub bound : makes < most_makes
