use Rattle.std.proofs.Common.{◌≡◌, subst, sym}
use Rattle.vch_judge.specs.Effects.{IsOwn, IsJudged}
use Rattle.vch_judge.proofs.Judging.{judge_want}
use Rattle.vch_judge.proofs.answer.judge_call.Goals as goal

pub returns : goal.returns
returns c = subst (IsJudged c.args.books.now c.args.task c.args.call.now c.args.reply.now) (sym c.where_right.ensures)
    (judge_want c.args.books.now c.args.task c.args.call.now c.args.reply.now c.in_ok-wanting.wanting c.in_default.not-Exit
    (subst (IsOwn c.args.books.now c.args.task c.args.call.now c.args.reply.now) c.in_default-2.is c.in_ok-effect.ensures) c.in_ok-wanting.ensures)
