use Rattle.std.proofs.Common.{◌^◌, arith, ap, ◌∙◌, sym}
use Rattle.vch_report.specs.Numerals.{below}
use Rattle.vch_report.proofs.CallerLemmas.{below_again, below_none}
use Rattle.vch_replay.proofs.command.number_in.Goals as goal

pub returns-in_err-n : goal.returns-in_err-n
returns-in_err-n c =
    rw (c.from_residual.ensures, ← c.as_bytes.ensures.value) (sym (below_none (2 ^ 64) c.as_bytes.result.now (omega arith)
    (λ n lt e. let no_number = c.in_err-n.ensures.only n lt e in cc)))

pub returns : goal.returns
returns c = sym (below_again (2 ^ 64) c.as_bytes.result.now c.in_ok-n.n (omega arith) (omega arith) c.in_ok-n.ensures.found) ∙ ap (below (2 ^ 64)) c.as_bytes.ensures.value
