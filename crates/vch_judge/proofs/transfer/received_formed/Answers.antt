use Rattle.std.proofs.Common.{◌≡◌, subst}
use Rattle.vch_base.specs.Managers.{mapped}
use Rattle.vch_base.specs.Managers as managers
use Rattle.vch_base.specs.declared.key.Key.TheVariants as keys
use Rattle.vch_books.specs.Numbered.{numbered_option}
use Rattle.vch_judge.specs.Formed.{IsSlot}
use Rattle.vch_judge.proofs.FormedVouchers.{good_at}
use Rattle.vch_judge.proofs.Transfers.{received_formed}
use Rattle.vch_judge.proofs.transfer.received_formed.Goals as goal

pub received_at-importance-requires : goal.received_at-importance-requires
received_at-importance-requires c = good_at c.args.books.now keys.Importance c.args.voucher.now c.requires.good

pub received_at-bank-requires : goal.received_at-bank-requires
received_at-bank-requires c = good_at c.args.books.now keys.Bank c.args.voucher.now c.requires.good

pub returns : goal.returns
returns c = received_formed c.args.books.now c.args.task c.args.voucher.now c.received_at-importance.result c.received_at-bank.result c.of.result c.with.result c.with-2.result
    c.of.ensures c.requires.good
    (subst (λ b. IsSlot c.args.books.now keys.Importance c.received_at-importance.result (mapped (managers.received b c.args.task) (numbered_option c.args.books.now.history c.args.voucher.now.importance))) c.is_receiver-receiver.ensures c.received_at-importance.ensures)
    (subst (λ b. IsSlot c.args.books.now keys.Bank c.received_at-bank.result (mapped (managers.received b c.args.task) (numbered_option c.args.books.now.history c.args.voucher.now.bank))) c.is_receiver-receiver.ensures c.received_at-bank.ensures)
    c.with.ensures c.with-2.ensures
