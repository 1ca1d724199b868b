use Rattle.std.proofs.Common.{subst, sym}
use Rattle.std.proofs.lemmas.Result.{on_ok_weaker}
use Rattle.vch_model.specs.declared.call.Call.{Call}
use Rattle.vch_plain.specs.Followed.{FollowsCall}
use Rattle.vch_plain.proofs.SeenFollowing.{counted_follows, charged_follows, other_follows}
use Rattle.vch_plain.proofs.follow.follow_call.Goals as goal

pub returns-in-Extern : goal.returns-in-Extern
returns-in-Extern c = on_ok_weaker c.counted.result
    (λ h. subst (λ (call : Call). FollowsCall c.args.machine.now c.args.task call c.args.sums.now c.counted.new.self) (sym c.in-Extern.is)
    (counted_follows c.args.machine.now c.args.task c.in-Extern.name c.in-Extern.n c.number_of-number.result c.in-Extern.adding
    c.args.sums.now c.counted.new.self c.number_of-number.ensures h))
    c.counted.ensures

pub returns-in-Charge : goal.returns-in-Charge
returns-in-Charge c = on_ok_weaker c.charged.result
    (λ h. subst (λ (call : Call). FollowsCall c.args.machine.now c.args.task call c.args.sums.now c.charged.new.self) (sym c.in-Charge.is)
    (charged_follows c.args.machine.now c.args.task c.in-Charge.name c.in-Charge.n c.number_of-number-in-Charge.result
    c.args.sums.now c.charged.new.self c.number_of-number-in-Charge.ensures h))
    c.charged.ensures

pub returns-in_default : goal.returns-in_default
returns-in_default c = other_follows c.args.machine.now c.args.task c.args.call.now c.args.sums.now c.in_default.not-Extern c.in_default.not-Charge
