use Rattle.std.proofs.Common.{subst, sym}
use Rattle.std.proofs.lemmas.Result.{on_ok_weaker}
use Rattle.vch_model.specs.declared.entry.Entry.{Entry}
use Rattle.vch_plain.specs.Followed.{FollowsLast}
use Rattle.vch_plain.proofs.SeenFollowing.{plain_follows}
use Rattle.vch_plain.proofs.follow.follow_entry.Goals as goal

pub returns-in-Call : goal.returns-in-Call
returns-in-Call c = on_ok_weaker c.follow_answer.result
    (λ h. subst (λ (e : Entry). FollowsLast c.args.scenario.now c.args.machine.now e c.args.sums.now c.follow_answer.new.sums) (sym c.in-Call.is) (h c.in-Call.word))
    c.follow_answer.ensures

pub returns-in-Made : goal.returns-in-Made
returns-in-Made c = on_ok_weaker c.follow_made.result
    (λ h. subst (λ (e : Entry). FollowsLast c.args.scenario.now c.args.machine.now e c.args.sums.now c.follow_made.new.sums) (sym c.in-Made.is) (h c.in-Made.key))
    c.follow_made.ensures

pub returns-in_default : goal.returns-in_default
returns-in_default c = plain_follows c.args.scenario.now c.args.machine.now c.args.entry.now c.args.sums.now c.in_default.not-Call c.in_default.not-Made c.in_default.not-Released
