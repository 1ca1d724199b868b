-- What each step on a word does to the view of the seat that steps, and what it tells.
use Rattle.std.specs.Prelude.{◌≡◌, ◌≢◌, ℕ, suc, ◌+◌, ◌-◌, ◌<◌, ◌≤◌, [], true, false, length, sum, replicate, slice_index, slice_index_or, slice_set}
use Rattle.atomic_table.specs.Table.{Me, Step}
use Rattle.vch_made.specs.Seats.{released_mark}
use Rattle.vch_made.specs.SeatSteps.{counts_added, marks_united}
use Rattle.vch_made.specs.Counting.{counts_of}
use Rattle.vch_made.specs.declared.view.View.{View}

abbrev pub MySeat : Type 0
MySeat = Me (Unit {0}) View

-- each step of a make or a release is counted, with the word that it met
abbrev pub after_step : View → ℕ → ℕ → View
after_step v slot word = record v { steps = slice_set v.steps slot (suc (slice_index v.steps slot)); met = slice_set v.met slot word }

abbrev pub after_try : View → View
after_try v = record v { room = v.room - 1; tries = v.tries + 1 }

-- a make of a slot in use, and of a released one
abbrev pub after_made : View → ℕ → ℕ → View
after_made v slot word = let w = after_step (after_try v) slot word in record w { own = slice_set v.own slot (counts_of slot v + 1) }

abbrev pub after_dead : View → ℕ → ℕ → View
after_dead v slot word = let w = after_step (after_try v) slot word in record w { dead = slice_set v.dead slot true }

-- a release that met the seat's own count
abbrev pub after_released : View → ℕ → ℕ → View
after_released v slot word = let w = after_step v slot word in record w { own = slice_set v.own slot 0; dead = slice_set v.dead slot true; freed = slice_set v.freed slot true }

-- a step of a make on a word
pub record MakeTells (v : View) (slot word : ℕ) (w : View) : Type 0 where
  pub met : slice_index w.met slot ≡ word
  pub made : word < released_mark → (w ≡ after_made v slot word) × (counts_of slot v ≤ word) × (slice_index_or v.dead slot false ≡ false)
  pub dead : released_mark ≤ word → w ≡ after_dead v slot word

abbrev pub make_plays : Step (Unit {0}) → MySeat → ℕ → MySeat → Type 0
make_plays st m word m' = (m'.1 ≡ m.1) × MakeTells m.0 st.word word m'.0

-- a step of a release; the word that is given is the seat's own count
pub record ReleaseTells (v : View) (slot own word : ℕ) (w : View) : Type 0 where
  pub met : slice_index w.met slot ≡ word
  pub hit : word ≡ own → w ≡ after_released v slot word
  pub miss : word ≢ own → (w ≡ after_step v slot word) × (v.room + v.tries ≢ v.makes)

abbrev pub release_plays : Step (Unit {0}) → MySeat → ℕ → MySeat → Type 0
release_plays st m word m' = (m'.1 ≡ m.1) × ReleaseTells m.0 st.word st.first word m'.0

-- a seat says how much of its room goes to the next new seat
abbrev pub offer_plays : Step (Unit {0}) → MySeat → ℕ → MySeat → Type 0
offer_plays st m word m' = (m'.1 ≡ m.1) × (m'.0 ≡ record m.0 { offer = st.first })

abbrev pub kept_part : View → View
kept_part v = record v { room = v.room - v.offer; offer = 0 }

abbrev pub new_part : View → View
new_part v = record {
  own = replicate (length v.own) 0;
  dead = v.dead;
  room = v.offer;
  tries = 0;
  freed = replicate (length v.own) false;
  steps = replicate (length v.own) 0;
  met = replicate (length v.own) 0;
  makes = v.makes;
  offer = 0;
}

-- the second seat's counts, marks, room and tries go to the first
abbrev pub both_views : View → View → View
both_views v w = record v {
  own = counts_added v.own w.own;
  dead = marks_united v.dead w.dead;
  room = v.room + w.room;
  tries = v.tries + w.tries;
  freed = marks_united v.freed w.freed;
}

-- a seat that was joined away
abbrev pub spent_view : View
spent_view = record { own = []; dead = []; room = 0; tries = 0; freed = []; steps = []; met = []; makes = 0; offer = 0 }

-- what a seat learns of its own view by a look at the row
pub record IsSound (v : View) : Type 0 where
  pub counts : sum v.own ≤ v.tries
  pub most : v.room + v.tries ≤ v.makes
  pub unheld : (slot : ℕ) → slice_index_or v.dead slot false ≡ true → counts_of slot v ≡ 0
  pub all_freed : v.room + v.tries ≡ v.makes → (slot : ℕ) → slice_index_or v.dead slot false ≡ true → slice_index_or v.freed slot false ≡ true

abbrev pub look_plays : Step (Unit {0}) → MySeat → ℕ → MySeat → Type 0
look_plays st m word m' = (m'.1 ≡ m.1) × (m'.0 ≡ m.0) × IsSound m.0
