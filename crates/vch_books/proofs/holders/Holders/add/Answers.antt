use Rattle.std.proofs.Common.{refl}
use Rattle.vch_books.proofs.HeldNumbers.{first_comes, again_comes}
use Rattle.vch_books.proofs.holders.Holders.add.Goals as goal

pub returns-in_ok-add_numbers : goal.returns-in_ok-add_numbers
returns-in_ok-add_numbers c = λ front back k.
    first_comes c.args.self.now (record { vouchers = c.add.new.self; numbers = c.add_numbers.new.numbers }) front back c.args.voucher c.in_ok-add.field-0 k
    c.in_ok-add.ensures.first c.if-branch.true (c.in_ok-add.ensures.counted front back k.vouchers) (λ xs ys n. c.in_ok-add_numbers.ensures xs ys n)

pub returns-else-branch : goal.returns-else-branch
returns-else-branch c = λ front back k.
    again_comes c.args.self.now (record { vouchers = c.add.new.self; numbers = c.args.self.now.numbers }) front back c.args.voucher c.in_ok-add.field-0 k
    c.in_ok-add.ensures.first c.if-branch.false (c.in_ok-add.ensures.counted front back k.vouchers) refl
