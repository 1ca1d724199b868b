use Rattle.vch_judge.proofs.FormedVouchers.{numbers_mean}
use Rattle.vch_judge.proofs.formed.voucher_of.Goals as goal

pub returns : goal.returns
returns c = λ map h. numbers_mean c.args.books.now c.args.formed map c.numbers.result c.numbers.ensures h
