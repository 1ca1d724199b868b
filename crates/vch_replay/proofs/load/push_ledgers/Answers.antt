use Rattle.std.proofs.Common.{◌≡◌, ◌+◌, ◌++◌, ◌∙◌, ap, arith, take, codes}
use Rattle.vch_model.specs.Text.{spaced}
use Rattle.vch_replay.specs.Loads.{ledger_lines, number_line}
use Rattle.vch_replay.proofs.Loading.{pushed, ledger_next}
use Rattle.vch_replay.proofs.load.push_ledgers.Goals as goal

pub loop-i-preserved : goal.loop-i-preserved
loop-i-preserved c =
    let ts = c.args.totals.now in
    let i = c.loop-i.i in
    let x = c.at.result.now in
    let n : 1 + i ≡ i + 1 = omega arith in
    pushed c.args.out.now.items (ledger_lines 1 (take i ts)) (number_line (codes "task" ++ spaced (i + 1) ++ codes " ledger") x.ledger) (ledger_lines 1 (take
    (i + 1) ts)) c.loop-i.out.items c.push_ledger.new.out.items c.loop-i.invariant c.in_ok-push_ledger.ensures
    (ledger_next ts 1 i x c.at.ensures ∙ ap (λ k. ledger_lines 1 (take i ts) ++ number_line (codes "task" ++ spaced k ++ codes " ledger") x.ledger) n)
