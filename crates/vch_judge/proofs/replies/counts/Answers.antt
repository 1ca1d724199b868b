use Rattle.vch_base.specs.declared.key.Key.TheVariants as keys
use Rattle.vch_judge.proofs.FormedVouchers.{good_at}
use Rattle.vch_judge.proofs.replies.counts.Goals as goal

pub counting-requires : goal.counting-requires
counting-requires c = good_at c.args.books.now keys.Importance c.in-Some.voucher c.in-Some.ensures.good
