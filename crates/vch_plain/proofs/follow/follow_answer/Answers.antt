use Rattle.std.proofs.Common.{◌∙◌, sym, ap}
use Rattle.std.proofs.lemmas.Result.{on_ok_weaker}
use Rattle.std.specs.Option.{option_copied}
use Rattle.vch_plain.proofs.SeenFollowing.{answered_follows, refused_follows}
use Rattle.vch_plain.proofs.follow.follow_answer.Goals as goal

pub returns-in_default : goal.returns-in_default
returns-in_default c = λ word. refused_follows c.args.scenario.now c.args.machine.now c.args.task c.args.number word c.args.reply.now c.args.sums.now c.in_default.not-Done

pub returns-in-Some : goal.returns-in-Some
returns-in-Some c = on_ok_weaker c.follow_call.result
    (λ h word. answered_follows c.args.scenario.now c.args.machine.now c.args.task c.args.number word c.in-Some.call.now c.args.reply.now
    c.args.sums.now c.follow_call.new.sums (sym c.call.ensures ∙ ap option_copied c.in-Some.is) c.in-Done.is h)
    c.follow_call.ensures
