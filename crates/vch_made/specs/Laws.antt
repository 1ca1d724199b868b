-- What the rule alone says of every step of a seat, whatever the step is.
use Rattle.std.specs.Prelude.{◌≡◌, ◌≢◌, ℕ, ◌<◌, ◌≤◌, List, length, slice_index, slice_set}
use mathlib.Core.Option.{some}
use lib.ListN.{get_elem?}
use Rattle.vch_made.specs.Seats.{released_mark}
use Rattle.vch_made.specs.Counting.{counts_of, freed_by, CountsKept}
use Rattle.vch_made.specs.Plays.{ReleaseTells}
use Rattle.vch_made.specs.declared.view.View.{View}
use Rattle.vch_made.specs.declared.view.Terms.{Terms}

-- one seat steps on the word of a slot: the word and the seat's view change, and the rule holds before and after
pub record SlotStep (terms : Terms) (words : List ℕ) (views : List View) (seat : ℕ) (v w : View) (slot word : ℕ) : Type 0 where
  pub before : CountsKept terms words views
  pub seated : get_elem? views seat ≡ some v
  pub is_slot : slot < terms.slots
  pub after : CountsKept terms (slice_set words slot word) (slice_set views seat w)

-- a slot is released only by a seat that at that step holds every made count of it: the word is the seat's own count, and no
-- other seat has one
abbrev pub OnlyTheHolderReleases : Type 0
OnlyTheHolderReleases =
    (terms : Terms) (words : List ℕ) (views : List View) (seat : ℕ) (v w : View) (slot word : ℕ) → SlotStep terms words views seat v w slot word
    → slice_index words slot < released_mark → released_mark ≤ word
    → (slice_index words slot ≡ counts_of slot v) × ((other : ℕ) (u : View) → other ≢ seat → get_elem? views other ≡ some u → counts_of slot u ≡ 0)

-- a released slot stays released under every step that leaves what the seat released
abbrev pub StaysReleased : Type 0
StaysReleased =
    (terms : Terms) (words : List ℕ) (views : List View) (seat : ℕ) (v w : View) (slot word : ℕ) → SlotStep terms words views seat v w slot word
    → released_mark ≤ slice_index words slot → freed_by slot v ≤ freed_by slot w → released_mark ≤ word

-- no step of a release meets the seat's own count and leaves the word as it was
abbrev pub NoReleaseLeavesTheWord : Type 0
NoReleaseLeavesTheWord =
    (terms : Terms) (words : List ℕ) (views : List View) (seat : ℕ) (v w : View) (slot : ℕ) → SlotStep terms words views seat v w slot (slice_index words slot)
    → 1 ≤ counts_of slot v → slice_index words slot ≡ counts_of slot v → slot < length v.dead → ReleaseTells v slot (counts_of slot v) (slice_index words slot) w → ⊥
