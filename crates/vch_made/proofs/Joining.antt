-- What a seat keeps at run time goes with its view after it took another one in.
use Rattle.std.proofs.Common.{ap, sym, ◌∙◌, ℕ, ◌<◌, ◌≤◌, ◌≡◌, ◌+◌, arith, length, List, Bool, get_or, subst}
use Rattle.atomic_table.specs.Table.{Me}
use Rattle.vch_made.specs.SeatSteps.{counts_added, marks_united}
use Rattle.vch_made.specs.Plays.{both_views, IsSound}
use Rattle.vch_made.specs.Fits.{IsWide, SeatFits}
use Rattle.vch_made.specs.declared.view.View.{View}
use Rattle.vch_made.proofs.CallerLemmas.{length-added, length-united, added-at}
use Rattle.vch_made.proofs.Sums.{at-le-sum}

wide_both : (v w : View) → IsWide v → IsWide w → length v.own ≡ length w.own → IsWide (both_views v w)
wide_both v w a b e =
    let a1 = a.dead_wide in
    let a2 = a.freed_wide in
    let a3 = a.steps_wide in
    let a4 = a.met_wide in
    let b1 = b.dead_wide in
    let b2 = b.freed_wide in
    let o = length-added v.own w.own e in
    let d = length-united v.dead w.dead (omega arith) in
    let f = length-united v.freed w.freed (omega arith) in
    record { dead_wide = omega arith; freed_wide = omega arith; steps_wide = omega arith; met_wide = omega arith }

module _ (x y z : Me (Unit {0}) View) (o p : List ℕ) (d e : List Bool) (r s t u : ℕ) (a : SeatFits x o d r t) (b : SeatFits y p e s u) (now : z.0 ≡ both_views x.0 y.0) (sound : IsSound (both_views x.0 y.0)) where
  pub counts_fit : (k : ℕ) → get_or o k 0 + get_or p k 0 < 18446744073709551616
  counts_fit k =
      let v1 : get_or o k 0 ≡ get_or x.0.own k 0 = ap (λ (l : List ℕ). get_or l k 0) a.own_is in
      let v2 : get_or p k 0 ≡ get_or y.0.own k 0 = ap (λ (l : List ℕ). get_or l k 0) b.own_is in
      let c = added-at x.0.own y.0.own k in
      let q = at-le-sum (counts_added x.0.own y.0.own) k in
      let f = sound.counts in
      let m = sound.most in
      let l = a.bound in omega arith

  pub sums_fit : (r + s) + (t + u) ≤ x.0.makes
  sums_fit =
      let m = sound.most in
      let r1 = a.room_is in
      let r2 = b.room_is in
      let t1 = a.tries_is in
      let t2 = b.tries_is in omega arith

  pub fits_both : z.1 ≡ x.1 → length x.0.own ≡ length y.0.own → SeatFits z (counts_added o p) (marks_united d e) (r + s) (t + u)
  fits_both carried long =
      let m = sound.most in
      let r1 = a.room_is in
      let r2 = b.room_is in
      let t1 = a.tries_is in
      let t2 = b.tries_is in
      let room : z.0.room ≡ x.0.room + y.0.room = ap (λ (v : View). v.room) now in
      let tries : z.0.tries ≡ x.0.tries + y.0.tries = ap (λ (v : View). v.tries) now in
      let makes : z.0.makes ≡ x.0.makes = ap (λ (v : View). v.makes) now in
      let l = a.bound in
      record {
        carries = carried ∙ a.carries;
        own_is = (λ i. counts_added (a.own_is i) (b.own_is i)) ∙ sym (ap (λ (v : View). v.own) now);
        dead_is = (λ i. marks_united (a.dead_is i) (b.dead_is i)) ∙ sym (ap (λ (v : View). v.dead) now);
        room_is = omega arith;
        tries_is = omega arith;
        most = omega arith;
        bound = omega arith;
        wide = subst IsWide (sym now) (wide_both x.0 y.0 a.wide b.wide long);
      }
