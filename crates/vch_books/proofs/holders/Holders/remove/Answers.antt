use Rattle.std.proofs.Common.{refl}
use Rattle.vch_books.proofs.HeldNumbers.{last_goes, one_goes}
use Rattle.vch_books.proofs.holders.Holders.remove.Goals as goal

pub returns-then-remove : goal.returns-then-remove
returns-then-remove c = λ front back k.
    last_goes c.args.self.now (record { vouchers = c.remove.new.self; numbers = c.remove_numbers.new.numbers }) front back c.args.voucher c.remove.result k
    c.remove.ensures.last c.if-remove.true (c.remove.ensures.counted front back k.vouchers) (λ xs ys n. c.remove_numbers.ensures xs ys n)

pub returns-else-remove : goal.returns-else-remove
returns-else-remove c = λ front back k.
    one_goes c.args.self.now (record { vouchers = c.remove.new.self; numbers = c.args.self.now.numbers }) front back c.args.voucher c.remove.result k
    c.remove.ensures.last c.if-remove.false (c.remove.ensures.counted front back k.vouchers) refl
