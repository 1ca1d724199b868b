use Rattle.std.proofs.Common.{◌≡◌, ◌+◌, ap, subst, sym}
use Rattle.vch_judge.specs.Follows.{IsFollowed}
use Rattle.vch_judge.proofs.Histories.{first_illegal}
use Rattle.vch_judge.proofs.judge.take_next.Goals as goal

pub returns-in-None : goal.returns-in-None
returns-in-None c = first_illegal c.args.books c.in-Some.entry.now (c.taken-number.result + 1) c.know.ensures (sym c.in-Some.ensures)
    (subst (IsFollowed c.args.books c.in-Some.entry.now) c.in-None.is c.in_ok-books.ensures) (ap (λ n. n + 1) c.taken-number.ensures)
