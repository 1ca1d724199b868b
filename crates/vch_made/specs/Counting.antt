-- The rule of the row: what its words are, against all seats.
use Rattle.std.specs.Prelude.{◌≡◌, ℕ, ◌+◌, ◌<◌, ◌≤◌, List, Bool, false, cond, length, sum, sum_by, replicate, slice_index, slice_index_or}
use mathlib.Core.Option.{some}
use lib.ListN.{get_elem?}
use Rattle.atomic_table.specs.Table.{State}
use Rattle.vch_made.specs.Seats.{released_mark, most_makes}
use Rattle.vch_made.specs.declared.view.View.{View}
use Rattle.vch_made.specs.declared.view.Terms.{Terms}

abbrev pub bit : Bool → ℕ
bit b = cond b 1 0

abbrev pub counts_of : ℕ → View → ℕ
counts_of slot v = slice_index v.own slot

abbrev pub knows : ℕ → View → ℕ
knows slot v = bit (slice_index_or v.dead slot false)

abbrev pub freed_by : ℕ → View → ℕ
freed_by slot v = bit (slice_index_or v.freed slot false)

abbrev pub tries_of : View → ℕ
tries_of v = v.tries

abbrev pub share_of : View → ℕ
share_of v = v.room + v.tries

-- a slot in use: its word is the number of all made counts, nobody knows it to be released, and nobody released it
pub record InUse (views : List View) (slot word : ℕ) : Type 0 where
  pub counted : word ≡ sum_by (counts_of slot) views
  pub unknown : sum_by (knows slot) views ≡ 0
  pub unfreed : sum_by (freed_by slot) views ≡ 0

-- a released slot: nobody has a count of it, one seat released it, and its word went up from the mark with makes alone
pub record OutOfUse (views : List View) (slot word : ℕ) : Type 0 where
  pub counted : sum_by (counts_of slot) views ≡ 0
  pub tried : word ≤ released_mark + sum_by tries_of views
  pub freed : sum_by (freed_by slot) views ≡ 1

-- below the mark the slot is in use, from the mark on it is released
pub record IsSlotWord (views : List View) (slot word : ℕ) : Type 0 where
  pub below : word < released_mark → InUse views slot word
  pub above : released_mark ≤ word → OutOfUse views slot word

-- a seat made each of its counts, and who made nothing released nothing
pub record IsFair (v : View) : Type 0 where
  pub made : sum v.own ≤ v.tries
  pub freed : (slot : ℕ) → freed_by slot v ≤ v.tries

-- the rule: the word of each slot, what each seat may hold, and that all rooms and makes are within what the row was opened with
pub record CountsKept (terms : Terms) (words : List ℕ) (views : List View) : Type 0 where
  pub size : length words ≡ terms.slots
  pub slots : (slot : ℕ) → slot < terms.slots → IsSlotWord views slot (slice_index words slot)
  pub fair : (id : ℕ) (v : View) → get_elem? views id ≡ some v → IsFair v
  pub most : sum_by share_of views ≤ terms.makes
  pub bound : terms.makes < most_makes

abbrev pub CountRule : Terms → State (Unit {0}) View → Type 0
CountRule terms s = CountsKept terms s.words s.views

-- the first seat may do all makes
abbrev pub opened : Terms → View
opened terms = record {
  own = replicate terms.slots 0;
  dead = replicate terms.slots false;
  room = terms.makes;
  tries = 0;
  freed = replicate terms.slots false;
  steps = replicate terms.slots 0;
  met = replicate terms.slots 0;
  makes = terms.makes;
  offer = 0;
}
