use Rattle.std.proofs.Common.{◌≡◌, ◌+◌, ◌*◌, ap, subst, sym, arith}
use Rattle.vch_made.specs.Seats.{Seated}
use Rattle.vch_made.specs.SeatSteps.{FreedAllDead}
use Rattle.vouch_drill.specs.Counts.{HoldsFirst}
use Rattle.vouch_drill.proofs.Both.{left_none, right_none, both_hold}
use Rattle.vouch_drill.proofs.made.count_rounds.Goals as goal

pub returns : goal.returns
returns g c =
    let first = c.make_at_once-first.ensures.first in
    let second = c.make_at_once-first.ensures.second in
    let joined = c.join.ensures.sums in
    let rooms = ap (λ (s : Seated). s.room) joined in
    let tries = ap (λ (s : Seated). s.tries) joined in
    let one = first.0.tries_is in
    let other = second.0.tries_is in
    let empty = first.1 in
    let spent = second.1 in
    let most = c.in_ok-row.ensures.1 in
    let each = c.from-each.ensures in
    let freed = subst FreedAllDead joined (c.join.ensures.freed (omega arith)) in
    let held = subst (HoldsFirst c.args.rounds) (sym joined) (both_hold _ _ _ _ _ _ first.0 second.0 freed) in
    let answers = c.release_all-released.ensures.answers c.args.rounds held in
    let none = left_none _ _ _ _ _ _ first.0 second.0 freed in
    let neither = right_none _ _ _ _ _ _ first.0 second.0 freed in
    let kept = c.release_all-released.ensures.tries in
    let told = c.tries.ensures in
    let makes_is : c.tries.result ≡ 2 * c.args.rounds = omega arith in
    let dead_is : c.make_at_once-first.result.0.dead + c.make_at_once-first.result.1.dead ≡ 0 = omega arith in
    λ i. record { makes = makes_is i; dead = dead_is i; released = answers.0 i; raced = answers.1 i }
