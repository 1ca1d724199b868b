use Rattle.std.proofs.Common.{ap, sym, ◌∙◌, subst, ℕ, ◌≡◌, ◌+◌, arith, length, List, Bool}
use Rattle.atomic_table.specs.Table.{Me}
use Rattle.vch_made.specs.SeatSteps.{marks_united, seat_of_both}
use Rattle.vch_made.specs.Fits.{SeatFits}
use Rattle.vch_made.specs.Seats.{Row, Seated}
use Rattle.vch_made.specs.declared.view.View.{View}
use Rattle.vch_made.specs.Plays.{both_views, IsSound}
use Rattle.vch_made.proofs.Keeps.{look_keeps}
use Rattle.vch_made.proofs.Shares.{join_keeps}
use Rattle.vch_made.proofs.CallerLemmas.{length-added, length-united}
use Rattle.vch_made.proofs.Joining.{counts_fit, fits_both}
use Rattle.vch_made.proofs.row.MadeRow.join.Goals as goal

pub join_seat-requires : goal.join_seat-requires
join_seat-requires c =
    let same = ap (λ (s : Seated). s.row) c.into.view_is ∙ c.requires.into ∙ sym c.self.view_is in
    let other = ap (λ (s : Seated). s.row) c.seat.view_is ∙ c.requires.seat ∙ sym c.self.view_is in
    let words = c.self.invariant.words_are in let some = c.self.invariant.some in
    (ap (λ (r : Row). r.table) same, ap (λ (r : Row). r.table) other, c.seat.invariant.carries, omega arith, join_keeps c.self.inside.table.shared.key _ _ _ _)

pub load-requires : goal.load-requires
load-requires c =
    let same = ap (λ (s : Seated). s.row) c.into.view_is ∙ c.requires.into ∙ sym c.self.view_is in
    let other = ap (λ (s : Seated). s.row) c.seat.view_is ∙ c.requires.seat ∙ sym c.self.view_is in
    let long : length c.into.inside.token.me.0.own ≡ c.self.inside.slots = ap (λ (r : Row). r.slots) same in
    let long' : length c.seat.inside.token.me.0.own ≡ c.self.inside.slots = ap (λ (r : Row). r.slots) other in
    let words = c.self.invariant.words_are in let some = c.self.invariant.some in let slots = c.self.invariant.slots_are in
    let now : c.join_seat.new.seat.me.0 ≡ both_views c.into.inside.token.me.0 c.seat.inside.token.me.0 = ap (λ (m : Me (Unit {0}) View). m.0) c.join_seat.ensures.2 in
    let w1 = c.into.invariant.wide.dead_wide in let w2 = c.seat.invariant.wide.dead_wide in
    let dead : length c.join_seat.new.seat.me.0.dead ≡ length (marks_united c.into.inside.token.me.0.dead c.seat.inside.token.me.0.dead) = ap (λ (v : View). length v.dead) now in
    let united_long = length-united c.into.inside.token.me.0.dead c.seat.inside.token.me.0.dead (omega arith) in (
      c.join_seat.ensures.0 ∙ ap (λ (r : Row). r.table) same,
      omega arith,
      look_keeps c.self.inside.table.shared.key _ _ c.join_seat.new.seat.me (omega arith) (ap (λ (v : View). v.makes) now ∙ ap (λ (r : Row). r.makes) same ∙ sym c.self.invariant.makes_are),
    )

pub add_counts-requires-clause-fits : goal.add_counts-requires-clause-fits
add_counts-requires-clause-fits c =
    let before = ap (λ (m : Me (Unit {0}) View). m.0) c.join_seat.ensures.2 in
    counts_fit _ _ c.load.new.seat.me _ _ _ _ _ _ _ _ c.into.invariant c.seat.invariant (c.load.ensures.2.1 ∙ before) (subst IsSound before c.load.ensures.2.2)

pub invariant_of-into : goal.invariant_of-into
invariant_of-into c =
    let before = ap (λ (m : Me (Unit {0}) View). m.0) c.join_seat.ensures.2 in
    let same = ap (λ (s : Seated). s.row) c.into.view_is ∙ c.requires.into ∙ sym c.self.view_is in
    let other = ap (λ (s : Seated). s.row) c.seat.view_is ∙ c.requires.seat ∙ sym c.self.view_is in
    let fits = fits_both _ _ c.load.new.seat.me _ _ _ _ _ _ _ _ c.into.invariant c.seat.invariant (c.load.ensures.2.1 ∙ before) (subst IsSound before c.load.ensures.2.2)
    (c.load.ensures.2.0 ∙ ap (λ (m : Me (Unit {0}) View). m.1) c.join_seat.ensures.2)
    (ap (λ (r : Row). r.slots) (same ∙ sym other)) in
    subst (λ (z : List ℕ × List Bool). SeatFits c.load.new.seat.me z.0 z.1 (c.into.inside.room + c.seat.inside.room) (c.into.inside.tries + c.seat.inside.tries)) (λ i. (sym c.add_counts.ensures i, sym c.unite_marks.ensures i)) fits

pub returns-clause-sums : goal.returns-clause-sums
returns-clause-sums c =
    let before = ap (λ (m : Me (Unit {0}) View). m.0) c.join_seat.ensures.2 in
    let now : c.load.new.seat.me.0 ≡ both_views c.into.inside.token.me.0 c.seat.inside.token.me.0 = c.load.ensures.2.1 ∙ before in
    let same = ap (λ (s : Seated). s.row) c.into.view_is ∙ c.requires.into ∙ sym c.self.view_is in
    let other = ap (λ (s : Seated). s.row) c.seat.view_is ∙ c.requires.seat ∙ sym c.self.view_is in
    let table : c.load.new.seat.table_id ≡ c.into.inside.token.table_id = c.load.ensures.0 ∙ c.join_seat.ensures.0 in
    let long : length c.load.new.seat.me.0.own ≡ length c.into.inside.token.me.0.own = ap (λ (v : View). length v.own) now ∙ length-added _ _ (ap (λ (r : Row). r.slots) (same ∙ sym other)) in
    let makes : c.load.new.seat.me.0.makes ≡ c.into.inside.token.me.0.makes = ap (λ (v : View). v.makes) now in
    let freed = ap (λ (v : View). v.freed) now in let steps = ap (λ (v : View). v.steps) now in let met = ap (λ (v : View). v.met) now in
    (λ i. record {
      row = record { table = table i; slots = long i; makes = makes i };
      own = c.add_counts.ensures i;
      dead = c.unite_marks.ensures i;
      room = c.into.inside.room + c.seat.inside.room;
      tries = c.into.inside.tries + c.seat.inside.tries;
      freed = freed i;
      steps = steps i;
      met = met i;
    }) ∙ (λ i. seat_of_both (c.into.view_is i) (c.seat.view_is i))
