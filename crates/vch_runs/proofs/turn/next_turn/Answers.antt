use Rattle.vch_runs.proofs.Turned.{lowest_turn, frame_can, waiting_turn, waiting_can}
use Rattle.vch_runs.proofs.Lowest.{waiting_before}
use Rattle.vch_runs.proofs.turn.next_turn.Goals as goal

pub returns-in-Some-clause-turn : goal.returns-in-Some-clause-turn
returns-in-Some-clause-turn c = lowest_turn c.args.core.now c.in-Some.task c.in-Some.ensures.lowest

pub returns-in-Some-clause-can : goal.returns-in-Some-clause-can
returns-in-Some-clause-can c = frame_can c.args.core.now c.in-Some.task c.know.ensures c.in-Some.ensures.can

pub returns-in-None-clause-turn : goal.returns-in-None-clause-turn
returns-in-None-clause-turn c = waiting_turn c.args.core.now c.next_line.result c.in-None.ensures.lowest c.next_line.ensures.waiting

pub returns-in-None-clause-can : goal.returns-in-None-clause-can
returns-in-None-clause-can c =
    waiting_can c.args.core.now c.next_line.result c.know.ensures c.requires.more c.in-None.ensures.lowest c.next_line.ensures.waiting c.next_line.ensures.task

pub returns-in-None-clause-before : goal.returns-in-None-clause-before
returns-in-None-clause-before c = waiting_before c.args.core.now c.next_line.result c.in-None.ensures.before c.next_line.ensures.task
