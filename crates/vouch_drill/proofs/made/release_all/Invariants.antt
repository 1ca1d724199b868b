use Rattle.std.proofs.Common.{◌≡◌, ◌≤◌, ℕ, min}
use Rattle.vch_made.specs.Seats.{own_at}
use Rattle.vouch_drill.specs.Counts.{HoldsFirst}
use Rattle.vouch_drill.proofs.made.release_all.Given as goal

abbrev pub invariant-loop-slot : goal.invariant-loop-slot
invariant-loop-slot l = record {
  row_is : l.seat.row ≡ l.initial.seat.row;
  room_is : l.seat.room ≡ l.initial.seat.room;
  tries_is : l.seat.tries ≡ l.initial.seat.tries;
  few : l.released ≤ l.slot;
  none_raced : l.raced ≡ 0;
  counted : (n : ℕ) → HoldsFirst n l.initial.seat → l.released ≡ min n l.slot;
  later : (other : ℕ) → l.slot ≤ other → own_at other l.seat ≡ own_at other l.initial.seat;
}
