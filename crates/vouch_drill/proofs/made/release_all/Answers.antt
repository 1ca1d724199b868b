use Rattle.std.proofs.Common.{◌≡◌, ◌≤◌, ◌<◌, ◌+◌, ◌∙◌, ℕ, arith}
use mathlib.Core.Logic.{dite}
use native.Mathlib.Decide.{dec_le}
use Rattle.vch_made.specs.Seats.{own_at}
use Rattle.vouch_drill.proofs.Slots.{one_more, no_more}
use Rattle.vouch_drill.proofs.made.release_all.Goals as goal
use Rattle.vouch_drill.proofs.made.release_all.Goals.{in-Some-Released, in-Some-Raced, in-None}

pub loop-slot-preserved : goal.loop-slot-preserved
loop-slot-preserved c =
    let inv = c.loop-slot.invariant in
    let told = c.release_held.ensures in
    let slot : ℕ = c.loop-slot.slot in
    let inside : slot < 8 = c.loop-slot-test.true in
    let same : own_at slot c.loop-slot.seat ≡ own_at slot c.args.seat.now = inv.later slot (omega arith) in
    let later = λ (other : ℕ) (h : slot + 1 ≤ other). told.others other (λ e. absurd (omega arith)) ∙ inv.later other (omega arith) in
    let few = inv.few in
    let raced = inv.none_raced in
    elim c.match-release_held.branch [
      | in-Some-Released w ↦
          let held : 1 ≤ own_at slot c.loop-slot.seat = dite (dec_le 1 (own_at slot c.loop-slot.seat)) (λ h. h) (λ not. let none = told.unheld (omega arith) in let some = w.in-Some-Released.is in cc) in
          let more = w.released-is in let still = w.raced-is in
          record {
            row_is = told.row ∙ inv.row_is;
            room_is = told.room.0 ∙ inv.room_is;
            tries_is = told.room.1 ∙ inv.tries_is;
            few = omega arith;
            none_raced = omega arith;
            counted = λ n first. let before = inv.counted n first in let next = one_more n slot c.args.seat.now inside first (omega arith) in omega arith;
            later = later;
          }
      | in-Some-Raced w ↦ dite (dec_le 1 (own_at slot c.loop-slot.seat))
          (λ h. let released = told.held h in let some = w.in-Some-Raced.is in let raced = w.in-Some-Raced.field-0-is in cc)
          (λ not. let none = told.unheld (omega arith) in let some = w.in-Some-Raced.is in cc)
      | in-None w ↦
          let free : own_at slot c.loop-slot.seat ≡ 0 = dite (dec_le 1 (own_at slot c.loop-slot.seat)) (λ h. let released = told.held h in let none = w.in-None.is in cc) (λ not. omega arith) in
          let more = w.released-is in let still = w.raced-is in
          record {
            row_is = told.row ∙ inv.row_is;
            room_is = told.room.0 ∙ inv.room_is;
            tries_is = told.room.1 ∙ inv.tries_is;
            few = omega arith;
            none_raced = omega arith;
            counted = λ n first. let before = inv.counted n first in let next = no_more n slot c.args.seat.now inside first (omega arith) in omega arith;
            later = later;
          }
    ]
