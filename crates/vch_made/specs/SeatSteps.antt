-- What each call does to a seat.
use Rattle.std.specs.Prelude.{◌≡◌, ◌≢◌, ℕ, suc, ◌+◌, ◌<◌, ◌≤◌, List, [], ◌∷◌, Bool, true, ◌||◌, slice_index, slice_set}
use Rattle.vch_made.specs.Seats.{Seated, released_mark, own_at, dead_at, freed_at, met_at}
use Rattle.vch_made.specs.declared.row.Make.{Make}
use Rattle.vch_made.specs.declared.row.Make.TheVariants as make
use Rattle.vch_made.specs.declared.row.Rel.{Rel}
use Rattle.vch_made.specs.declared.row.Rel.TheVariants as rel

-- one step on the word of this slot, which met some word, and none on another slot's
abbrev pub CountsOneStep : Seated → ℕ → Seated → Type 0
CountsOneStep old slot new = (new.steps ≡ slice_set old.steps slot (suc (slice_index old.steps slot))) × (new.met ≡ slice_set old.met slot (met_at slot new))

-- the answer of a make: a count more where the word met was no mark, else a slot known to be released
abbrev pub MakeGives : Seated → ℕ → Make → Seated → Type 0
MakeGives old slot (make.Made own) new =
    (met_at slot new < released_mark) × (own ≡ own_at slot old + 1) × (new.own ≡ slice_set old.own slot own) × (new.dead ≡ old.dead)
MakeGives old slot make.Dead new =
    (released_mark ≤ met_at slot new) × (new.own ≡ old.own) × (new.dead ≡ slice_set old.dead slot true)

-- the answer of a release: the slot is released where the word met was the seat's own count, else nothing but the step is done
abbrev pub ReleaseGives : Seated → ℕ → Rel → Seated → Type 0
ReleaseGives old slot rel.Released new =
    (met_at slot new ≡ own_at slot old) × (new.own ≡ slice_set old.own slot 0) × (new.dead ≡ slice_set old.dead slot true) × (new.freed ≡ slice_set old.freed slot true)
ReleaseGives old slot (rel.Raced now) new =
    (met_at slot new ≢ own_at slot old) × (now ≡ met_at slot new) × (new.own ≡ old.own) × (new.dead ≡ old.dead) × (new.freed ≡ old.freed)

-- two lists, place by place
abbrev pub slot_by_slot : {A : Type 0} → (A → A → A) → List A → List A → List A
slot_by_slot f [] ys = ys
slot_by_slot f (x ∷ xs) [] = x ∷ xs
slot_by_slot f (x ∷ xs) (y ∷ ys) = f x y ∷ slot_by_slot f xs ys

abbrev pub counts_added : List ℕ → List ℕ → List ℕ
counts_added = slot_by_slot (λ (x : ℕ) (y : ℕ). x + y)

abbrev pub marks_united : List Bool → List Bool → List Bool
marks_united = slot_by_slot (λ (x : Bool) (y : Bool). x || y)

-- what two seats have together; the steps are those of the first
abbrev pub seat_of_both : Seated → Seated → Seated
seat_of_both s t = record s {
  own = counts_added s.own t.own;
  dead = marks_united s.dead t.dead;
  room = s.room + t.room;
  tries = s.tries + t.tries;
  freed = marks_united s.freed t.freed;
}

-- a slot that the seat knows to be released has none of its counts
abbrev pub NoneDeadIsHeld : Seated → Type 0
NoneDeadIsHeld s = (slot : ℕ) → dead_at slot s ≡ true → own_at slot s ≡ 0

-- whoever may do every make that is left, and did all the others, released each released slot itself
abbrev pub FreedAllDead : Seated → Type 0
FreedAllDead s = (slot : ℕ) → dead_at slot s ≡ true → freed_at slot s ≡ true
