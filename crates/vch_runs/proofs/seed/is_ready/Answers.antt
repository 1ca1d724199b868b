use Rattle.vch_runs.proofs.Drawing.{frame_ready, kind_ready}
use Rattle.vch_runs.proofs.seed.is_ready.Goals as goal

pub returns-then-has_frame : goal.returns-then-has_frame
returns-then-has_frame c = frame_ready c.args.core.now c.args.task c.has_frame.result c.know.ensures c.requires.task c.has_frame.ensures c.if-has_frame.true

pub returns : goal.returns
returns c = kind_ready c.args.core.now c.args.task c.next_kind.result _ c.next_kind.ensures c.is_some.ensures
