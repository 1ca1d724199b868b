use Rattle.std.proofs.Common.{◌%◌, ap, get_or, false, ◌∙◌, arith, true, length, List, Bool, ℕ, length-set, get_or-set_same}
use Rattle.vouch_drill.proofs.made.make_one.Goals as goal

pub returns-in-Dead-clause-after : goal.returns-in-Dead-clause-after
returns-in-Dead-clause-after c =
    let before = c.requires.before in
    let answer = c.in-Dead.ensures.answer in
    let wide = before.dead_wide in
    let few = before.few in
    let tries = before.tries_is in
    let one_more = c.in-Dead.ensures.tries in
    record {
      row_is = c.in-Dead.ensures.row ∙ before.row_is;
      tries_is = omega arith;
      freed_is = c.in-Dead.ensures.freed ∙ before.freed_is;
      own_wide = ap (λ (l : List ℕ). length l) answer.1 ∙ before.own_wide;
      dead_wide = ap (λ (l : List Bool). length l) answer.2 ∙ length-set _ _ _ ∙ wide;
      few = omega arith;
      held = λ none. absurd (omega arith);
      told = λ some. (c.args.round % 8, ap (λ (l : List Bool). get_or l (c.args.round % 8) false) answer.2 ∙ get_or-set_same c.args.maker.now.seat.dead (c.args.round % 8) true false (omega arith));
    }
