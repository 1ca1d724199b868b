-- Two seats that made counts of the same slots and were joined: none of their makes found a slot released.
use Rattle.std.proofs.Common.{◌≡◌, ◌∙◌, ◌||◌, ℕ, zero, suc, Bool, true, false, List, get_or, replicate, ap, refl, arith}
use mathlib.Core.Logic.{dite}
use native.Mathlib.Decide.{dec_le}
use Rattle.vch_made.specs.Seats.{Row, Seated, dead_at, freed_at}
use Rattle.vch_made.specs.SeatSteps.{seat_of_both, FreedAllDead}
use Rattle.vch_made.proofs.CallerLemmas.{added-at, united-at}
use Rattle.vouch_drill.specs.Counts.{slot_count, HoldsFirst, KnowsDead, HasMade}

none_marked : (n slot : ℕ) → get_or (replicate n false) slot false ≡ false
none_marked zero slot = refl
none_marked (suc n) zero = refl
none_marked (suc n) (suc slot) = none_marked n slot

or_left : (a b : Bool) → a ≡ true → (a || b) ≡ true
or_left true b e = refl
or_left false b e = cc

or_right : (a b : Bool) → b ≡ true → (a || b) ≡ true
or_right true b e = refl
or_right false b e = e

or_none : (a b : Bool) → a ≡ false → b ≡ false → (a || b) ≡ false
or_none true b e f = cc
or_none false b e f = f

module _ (row : Row) (n x y : ℕ) (a b : Seated) (p : HasMade row n a x) (q : HasMade row n b y) (freed : FreedAllDead (seat_of_both a b)) where
  none_freed : (slot : ℕ) → freed_at slot (seat_of_both a b) ≡ false
  none_freed slot = united-at a.freed b.freed slot
      ∙ or_none (get_or a.freed slot false) (get_or b.freed slot false)
      (ap (λ (l : List Bool). get_or l slot false) p.freed_is ∙ none_marked slot_count slot)
      (ap (λ (l : List Bool). get_or l slot false) q.freed_is ∙ none_marked slot_count slot)

  none_dead : (slot : ℕ) → dead_at slot (seat_of_both a b) ≡ true → ⊥
  none_dead slot e = let f = freed slot e in let g = none_freed slot in cc

  left_knows_none : KnowsDead a → ⊥
  left_knows_none k = none_dead k.0 (united-at a.dead b.dead k.0 ∙ or_left (get_or a.dead k.0 false) (get_or b.dead k.0 false) k.1)

  right_knows_none : KnowsDead b → ⊥
  right_knows_none k = none_dead k.0 (united-at a.dead b.dead k.0 ∙ or_right (get_or a.dead k.0 false) (get_or b.dead k.0 false) k.1)

  pub left_none : x ≡ 0
  left_none = dite (dec_le 1 x) (λ some. absurd (left_knows_none (p.told some))) (λ not. omega arith)

  pub right_none : y ≡ 0
  right_none = dite (dec_le 1 y) (λ some. absurd (right_knows_none (q.told some))) (λ not. omega arith)

  pub both_hold : HoldsFirst n (seat_of_both a b)
  both_hold slot inside = let mine = p.held left_none slot inside in let yours = q.held right_none slot inside in let total = added-at a.own b.own slot in
      (λ lt. let m = mine.0 lt in omega arith, λ past. let m = mine.1 past in let t = yours.1 past in omega arith)
