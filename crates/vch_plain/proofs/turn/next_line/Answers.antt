use Rattle.std.proofs.Common.{◌≡◌, ◌≤◌, ◌<◌, ◌-◌, length, get_or, arith, sym, ap, ◌∙◌}
use Rattle.vch_machine.specs.State.{Tasked, tasked}
use Rattle.vch_plain.specs.Turning.{current_lines}
use Rattle.vch_plain.proofs.Leading.{ties_of}
use Rattle.vch_plain.proofs.Waiting.{found, lines_are, line_of_task, at_line, waits, none_waits, passes_line, within}
use Rattle.vch_plain.proofs.turn.next_line.Goals as goal

pub overflow_sub-seat : goal.overflow_sub-seat
overflow_sub-seat c =
    let o = line_of_task c.args.scenario.now c.args.run.now.machine c.loop-cursor.cursor.line c.at.result.now c.requires.going.limited
    (found c.args.scenario.now c.args.run.now.machine c.args.run.now.phases c.at-lines.result.now c.loop-cursor.cursor.line c.at.result.now c.requires.going.phase c.at-lines.ensures c.at.ensures) in
    o.positive

pub bounds-cursor-seat : goal.bounds-cursor-seat
bounds-cursor-seat c =
    let o = line_of_task c.args.scenario.now c.args.run.now.machine c.loop-cursor.cursor.line c.at.result.now c.requires.going.limited
    (found c.args.scenario.now c.args.run.now.machine c.args.run.now.phases c.at-lines.result.now c.loop-cursor.cursor.line c.at.result.now c.requires.going.phase c.at-lines.ensures c.at.ensures) in
    o.seat

pub task-requires : goal.task-requires
task-requires c =
    let o = line_of_task c.args.scenario.now c.args.run.now.machine c.loop-cursor.cursor.line c.at.result.now c.requires.going.limited
    (found c.args.scenario.now c.args.run.now.machine c.args.run.now.phases c.at-lines.result.now c.loop-cursor.cursor.line c.at.result.now c.requires.going.phase c.at-lines.ensures c.at.ensures) in
    let a = o.positive in
    let b = o.inside in
    let d : length c.args.run.now.machine.tasks ≡ length c.args.scenario.now.flags = (ties_of c.args.scenario.now c.args.run.now c.requires.going).fits.tasks in
    record { task = (omega (arith, a), omega (arith, b, d)) }

pub returns-then-cursor-seat-clause-waiting : goal.returns-then-cursor-seat-clause-waiting
returns-then-cursor-seat-clause-waiting c =
    let e = found c.args.scenario.now c.args.run.now.machine c.args.run.now.phases c.at-lines.result.now c.loop-cursor.cursor.line c.at.result.now c.requires.going.phase c.at-lines.ensures c.at.ensures in
    let o = line_of_task c.args.scenario.now c.args.run.now.machine c.loop-cursor.cursor.line c.at.result.now c.requires.going.limited e in
    let b : c.behind-run.inside.begun ≡ (tasked c.args.run.now.machine c.at.result.now.task).begun = ap (λ (x : Tasked). x.begun) (c.behind-run.view_is ∙ c.task.ensures) in
    let l = c.if-cursor-seat.true in
    let k : (tasked c.args.run.now.machine c.at.result.now.task).begun ≤ get_or c.loop-cursor.cursor.passed (c.at.result.now.task - 1) 0 = omega (arith, b, l) in
    sym (waits c.args.scenario.now c.args.run.now.machine c.loop-cursor.cursor c.loop-cursor.invariant c.at.result.now
    (at_line c.args.scenario.now c.args.run.now.machine c.loop-cursor.cursor c.loop-cursor.invariant c.at.result.now e) o.task k)

pub bounds-cursor-seat-in-loop-cursor : goal.bounds-cursor-seat-in-loop-cursor
bounds-cursor-seat-in-loop-cursor c =
    let o = line_of_task c.args.scenario.now c.args.run.now.machine c.loop-cursor.cursor.line c.at.result.now c.requires.going.limited
    (found c.args.scenario.now c.args.run.now.machine c.args.run.now.phases c.at-lines.result.now c.loop-cursor.cursor.line c.at.result.now c.requires.going.phase c.at-lines.ensures c.at.ensures) in
    o.seat

pub bounds-cursor-seat-in-loop-cursor-2 : goal.bounds-cursor-seat-in-loop-cursor-2
bounds-cursor-seat-in-loop-cursor-2 c =
    let o = line_of_task c.args.scenario.now c.args.run.now.machine c.loop-cursor.cursor.line c.at.result.now c.requires.going.limited
    (found c.args.scenario.now c.args.run.now.machine c.args.run.now.phases c.at-lines.result.now c.loop-cursor.cursor.line c.at.result.now c.requires.going.phase c.at-lines.ensures c.at.ensures) in
    o.seat

pub loop-cursor-preserved : goal.loop-cursor-preserved
loop-cursor-preserved c =
    let e = found c.args.scenario.now c.args.run.now.machine c.args.run.now.phases c.at-lines.result.now c.loop-cursor.cursor.line c.at.result.now c.requires.going.phase c.at-lines.ensures c.at.ensures in
    let o = line_of_task c.args.scenario.now c.args.run.now.machine c.loop-cursor.cursor.line c.at.result.now c.requires.going.limited e in
    let b : c.behind-run.inside.begun ≡ (tasked c.args.run.now.machine c.at.result.now.task).begun = ap (λ (x : Tasked). x.begun) (c.behind-run.view_is ∙ c.task.ensures) in
    let l = c.if-cursor-seat.false in
    let k : get_or c.loop-cursor.cursor.passed (c.at.result.now.task - 1) 0 < (tasked c.args.run.now.machine c.at.result.now.task).begun = omega (arith, b, l) in
    passes_line c.args.scenario.now c.args.run.now.machine c.loop-cursor.cursor c.loop-cursor.invariant c.at.result.now
    (at_line c.args.scenario.now c.args.run.now.machine c.loop-cursor.cursor c.loop-cursor.invariant c.at.result.now e) o k

pub returns-clause-waiting : goal.returns-clause-waiting
returns-clause-waiting c =
    let a : length (current_lines c.args.scenario.now c.args.run.now.machine) ≡ length c.at-lines.result.now = ap length (lines_are c.args.scenario.now c.args.run.now.machine c.args.run.now.phases c.at-lines.result.now c.requires.going.phase c.at-lines.ensures) in
    let b = c.len.ensures in
    let l = c.loop-cursor-test.false in
    sym (none_waits c.args.scenario.now c.args.run.now.machine c.loop-cursor.cursor c.loop-cursor.invariant (omega (arith, a, b, l)))

pub returns-clause-passed : goal.returns-clause-passed
returns-clause-passed c =
    let a : length (current_lines c.args.scenario.now c.args.run.now.machine) ≡ length c.at-lines.result.now = ap length (lines_are c.args.scenario.now c.args.run.now.machine c.args.run.now.phases c.at-lines.result.now c.requires.going.phase c.at-lines.ensures) in
    let b = c.len.ensures in
    let l = c.loop-cursor-test.false in
    let d = within c.args.scenario.now c.args.run.now.machine c.loop-cursor.cursor c.loop-cursor.invariant in
    omega (arith, a, b, l, d)
