use Rattle.std.proofs.Common.{ℕ, List, ◌++◌, ap, sym, subst}
use Rattle.std.specs.Prelude.{nat_eq, OnOk}
use Rattle.vch_books.specs.Counts.{Counts}
use Rattle.vch_books.specs.Holding.{number_list}
use Rattle.vch_books.proofs.Holdings.{four_apart}
use Rattle.vch_books.proofs.holders.add_numbers.Goals as goal

pub returns : goal.returns
returns c = λ front back k.
    let v = c.args.voucher.now in
    let pb = number_list v.bank in
    let pu = number_list v.user in
    let pt = number_list v.test in
    let e = ap (λ (l : List ℕ). front ++ l) (four_apart (number_list v.importance) pb pu pt back) in
    subst (λ (l : List ℕ). OnOk c.add_number-4.result (Counts nat_eq c.add_number-4.new.numbers.counts l)) (sym e)
    (c.add_number-4.ensures front (pb ++ (pu ++ (pt ++ back)))
    (c.in_ok-add_number-3.ensures front (pu ++ (pt ++ back))
    (c.in_ok-add_number-2.ensures front (pt ++ back)
    (c.in_ok-add_number.ensures front back k))))
