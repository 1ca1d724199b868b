use Rattle.std.proofs.Common.{ℕ, List, ◌++◌, ap, subst}
use Rattle.std.specs.Prelude.{nat_eq}
use Rattle.vch_books.specs.Counts.{Counts}
use Rattle.vch_books.specs.Holding.{number_list}
use Rattle.vch_books.proofs.Holdings.{four_apart}
use Rattle.vch_books.proofs.holders.remove_numbers.Goals as goal

pub returns : goal.returns
returns c = λ front back k.
    let v = c.args.voucher.now in
    let pb = number_list v.bank in
    let pu = number_list v.user in
    let pt = number_list v.test in
    let e = ap (λ (l : List ℕ). front ++ l) (four_apart (number_list v.importance) pb pu pt back) in
    c.remove_number-4.ensures front back
    (c.remove_number-3.ensures front (pt ++ back)
    (c.remove_number-2.ensures front (pu ++ (pt ++ back))
    (c.remove_number.ensures front (pb ++ (pu ++ (pt ++ back))) (subst (λ (l : List ℕ). Counts nat_eq c.args.numbers.now.counts l) e k))))
