use Rattle.vch_runs.proofs.Framed.{frame_goes_on, is_true, true_some}
use Rattle.vch_runs.proofs.stepped.frame_next.Goals as goal

pub returns-then-has_frame : goal.returns-then-has_frame
returns-then-has_frame c =
    frame_goes_on c.args.core.now c.args.task c.next_kind.result c.know.ensures (is_true _ c.requires.task) (true_some _ _ c.has_frame.ensures c.if-has_frame.true) c.next_kind.ensures
