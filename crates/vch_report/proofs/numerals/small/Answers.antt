use Rattle.std.proofs.Common.{◌^◌, arith}
use Rattle.vch_report.proofs.words.Belows.{below_again, below_none}
use Rattle.vch_report.proofs.numerals.small.Goals as goal

pub returns-in_err-n : goal.returns-in_err-n
returns-in_err-n c =
    rw c.from_residual.ensures (below_none (2 ^ 32) c.args.word.now (omega arith)
    (λ n lt e. let no = c.in_err-n.ensures.only n lt e in cc))

pub returns : goal.returns
returns c = below_again (2 ^ 32) c.args.word.now c.in_ok-n.n (omega arith) (omega arith) c.in_ok-n.ensures.found
