-- What the seats of a drill of made counts hold, make after make.
use Rattle.std.specs.Prelude.{◌≡◌, ℕ, ◌<◌, ◌≤◌, false, true, length, replicate}
use Rattle.vch_made.specs.Seats.{Row, Seated, own_at, dead_at}

-- the slots of the row
abbrev pub slot_count : ℕ
slot_count = 8

-- the seat holds counts of the first n slots, or of all where n is more, and of no other
abbrev pub HoldsFirst : ℕ → Seated → Type 0
HoldsFirst n seat = (slot : ℕ) → slot < slot_count → (slot < n → 1 ≤ own_at slot seat) × (n ≤ slot → own_at slot seat ≡ 0)

-- some slot is known to be released
abbrev pub KnowsDead : Seated → Type 0
KnowsDead seat = (slot : ℕ) × (dead_at slot seat ≡ true)

-- the seat did n makes, slot after slot, of which so many found their slot released, and has released none itself
pub record HasMade (row : Row) (n : ℕ) (seat : Seated) (dead : ℕ) : Type 0 where
  pub row_is : seat.row ≡ row
  pub tries_is : seat.tries ≡ n
  pub freed_is : seat.freed ≡ replicate slot_count false
  pub own_wide : length seat.own ≡ slot_count
  pub dead_wide : length seat.dead ≡ slot_count
  pub few : dead ≤ n
  pub held : dead ≡ 0 → HoldsFirst n seat
  pub told : 1 ≤ dead → KnowsDead seat
