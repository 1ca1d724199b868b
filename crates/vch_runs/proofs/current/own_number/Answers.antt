use Rattle.std.proofs.Common.{ap, arith}
use Rattle.vch_parts.specs.declared.frames.Working.{Working}
use Rattle.vch_moves.proofs.CallerLemmas.{begun_few}
use Rattle.vch_parts.proofs.CallerLemmas.{task_inside}
use Rattle.vch_runs.proofs.Framed.{is_true}
use Rattle.vch_runs.proofs.current.own_number.Goals as goal

pub at-working-requires : goal.at-working-requires
at-working-requires c = let n = task_inside c.args.parts.now c.args.task c.requires.reached (is_true _ c.requires.task) in record { task = (n.0, n.1) }

pub overflow_add-result : goal.overflow_add-result
overflow_add-result c =
    let a = ap (λ (x : Working). x.begun) c.at-working.ensures in
    let b = begun_few c.args.parts.now c.args.task c.requires.reached (is_true _ c.requires.task) in
    omega (arith, a, b)
