use Rattle.vch_runs.proofs.Keeping.{still_kept}
use Rattle.vch_runs.proofs.seed.drawn_move.Goals as goal

pub returns-else-not-still_ready-clause-ready : goal.returns-else-not-still_ready-clause-ready
returns-else-not-still_ready-clause-ready c =
    still_kept c.args.core.now c.go.new.core c.draw-choice.result c.still_ready.result c.args.tasks.now.items c.know.ensures c.know-2.ensures c.draw-choice.ensures.can c.go.ensures c.requires.ready c.still_ready.ensures c.if-not-still_ready.false
