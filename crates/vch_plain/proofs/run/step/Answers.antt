use Rattle.std.proofs.Common.{false}
use Rattle.vch_machine.specs.Schedules.{Move}
use Rattle.vch_plain.proofs.Leading.{keeps_of, ties_of, ties_on, task_of_event, going_on}
use Rattle.vch_plain.proofs.Outcomes.{on_ok}
use Rattle.vch_plain.proofs.SeenFollowing.{move_continues}
use Rattle.vch_plain.proofs.run.step.Goals as goal

pub event-requires-clause-keeps : goal.event-requires-clause-keeps
event-requires-clause-keeps c = keeps_of c.args.scenario.now c.args.run.now c.requires.going

pub event-requires-clause-own : goal.event-requires-clause-own
event-requires-clause-own c = task_of_event c.args.scenario.now c.args.run.now.machine c.args.task c.requires.can

pub returns-clause-going : goal.returns-clause-going
returns-clause-going c =
    let sc = c.args.scenario.now in
    let r = c.args.run.now in
    let e = c.in_ok-event.ensures in
    on_ok c.follow.result c.follow.ensures
    (λ h. going_on sc r c.event.new.machine c.follow.new.sums c.args.task c.requires.going e
    (h r.machine.past c.entries-before.ensures (move_continues sc r.machine c.event.new.machine (Move.Of c.args.task false) (ties_of sc r c.requires.going) e) (ties_on sc r c.event.new.machine c.args.task c.requires.going e) c.requires.going.summed))
