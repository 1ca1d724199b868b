use Rattle.vch_vouchers.proofs.Starting.{limit_at, no_desks, one_desk, start_held, start_seen}
use Rattle.vch_vouchers.proofs.vouchers.Vouchers.new.Goals as goal

pub loop-limit-init : goal.loop-limit-init
loop-limit-init c = no_desks c.new-desks.result c.new-desks.ensures

pub new-requires : goal.new-requires
new-requires c = limit_at c.args.limits.now c.loop-limit.limit-index c.requires.limits c.loop-limit-test.true

pub loop-limit-preserved : goal.loop-limit-preserved
loop-limit-preserved c = one_desk c.loop-limit.desks c.push.new.self c.in_ok-new.field-0 c.args.limits.now c.loop-limit.limit-index c.in_ok-push.ensures.pushed c.in_ok-new.ensures.names c.in_ok-new.ensures.next c.in_ok-new.ensures.mail c.loop-limit-test.true c.loop-limit.invariant

pub invariant_of-result : goal.invariant_of-result
invariant_of-result c = start_held c.new-2.result c.loop-limit.desks c.args.limits.now c.loop-limit.limit-index c.new-2.ensures c.loop-limit-test.false c.requires.few c.loop-limit.invariant

pub returns : goal.returns
returns c = record { desks = start_seen c.new-2.result c.loop-limit.desks c.args.limits.now c.loop-limit.limit-index c.new-2.ensures c.loop-limit-test.false c.requires.few c.loop-limit.invariant }
