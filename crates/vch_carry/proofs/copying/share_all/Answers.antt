use Rattle.vch_carry.proofs.begun.Copied.{may_bank, may_user, may_test, shares_all}
use Rattle.vch_carry.proofs.copying.share_all.Goals as goal

pub share_at-requires-2 : goal.share_at-requires-2
share_at-requires-2 c = may_bank c.args.voucher.now c.args.values.now c.share_at.new.values c.share_at.ensures.others c.requires

pub share_at-requires-3 : goal.share_at-requires-3
share_at-requires-3 c = may_user c.args.voucher.now c.args.values.now c.share_at.new.values c.share_at-2.new.values c.share_at.ensures.others c.share_at-2.ensures.others c.requires

pub share_at-requires-4 : goal.share_at-requires-4
share_at-requires-4 c = may_test c.args.voucher.now c.args.values.now c.share_at.new.values c.share_at-2.new.values c.share_at-3.new.values c.share_at.ensures.others c.share_at-2.ensures.others c.share_at-3.ensures.others c.requires

pub returns : goal.returns
returns c = shares_all c.args.voucher.now c.args.values.now c.share_at.new.values c.share_at-2.new.values c.share_at-3.new.values c.share_at-4.new.values
    c.share_at.ensures.others c.share_at-2.ensures.others c.share_at-3.ensures.others c.share_at-4.ensures.others
    c.share_at.ensures.here c.share_at-2.ensures.here c.share_at-3.ensures.here c.share_at-4.ensures.here
