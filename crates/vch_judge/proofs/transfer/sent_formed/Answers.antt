use Rattle.vch_base.specs.declared.key.Key.TheVariants as keys
use Rattle.vch_judge.proofs.FormedVouchers.{good_at}
use Rattle.vch_judge.proofs.Transfers.{sent_formed}
use Rattle.vch_judge.proofs.transfer.sent_formed.Goals as goal

pub sent_bank-bank-requires : goal.sent_bank-bank-requires
sent_bank-bank-requires c = good_at c.args.books.now keys.Bank c.args.voucher.now c.requires

pub returns : goal.returns
returns c = sent_formed c.args.books.now c.args.sender c.args.voucher.now c.sent_bank-bank.result c.of.result c.with.result c.of.ensures c.requires c.sent_bank-bank.ensures c.with.ensures
