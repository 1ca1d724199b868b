use Rattle.std.proofs.Common.{◌≡◌, subst, sym}
use Rattle.vch_books.specs.Audits.{store_at}
use Rattle.vch_books.specs.Numbered.{StandsAt}
use Rattle.vch_judge.proofs.FormedVouchers.{good_at}
use Rattle.vch_judge.proofs.own.number_at.Goals as goal

pub returns-clause-stands : goal.returns-clause-stands
returns-clause-stands c = subst (StandsAt c.args.books.now.history (store_at c.args.books.now).live c.args.key) (sym c.at.ensures)
    (good_at c.args.books.now c.args.key c.in-Some.voucher c.in-Some.ensures.good)
