-- Slots in turn: which of them a seat holds, and how many were released.
use Rattle.std.proofs.Common.{◌≡◌, ◌≤◌, ◌<◌, ◌+◌, ℕ, min, arith, lt_of_not-le}
use mathlib.Core.Logic.{dite}
use native.Mathlib.Decide.{dec_le}
use Rattle.vch_made.specs.Seats.{Seated, own_at}
use Rattle.vouch_drill.specs.Counts.{slot_count, HoldsFirst}

pub one_more : (n slot : ℕ) (seat : Seated) → slot < slot_count → HoldsFirst n seat → 1 ≤ own_at slot seat → min n (slot + 1) ≡ min n slot + 1
one_more n slot seat inside first held = dite (dec_le n slot) (λ past. let none = (first slot inside).1 past in absurd (omega arith)) (λ not. let lt : slot < n = lt_of_not-le not in omega arith)

pub no_more : (n slot : ℕ) (seat : Seated) → slot < slot_count → HoldsFirst n seat → own_at slot seat ≡ 0 → min n (slot + 1) ≡ min n slot
no_more n slot seat inside first none = dite (dec_le n slot) (λ past. omega arith) (λ not. let held = (first slot inside).0 (lt_of_not-le not) in absurd (omega arith))
